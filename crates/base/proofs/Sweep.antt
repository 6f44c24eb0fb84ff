-- The invariant of a loop that goes up a lent plane, as one record: below k the plane w holds what f says, from k on what l held.
--     sweep-none, sweep-turn, sweep-skip, sweep-all     before the first turn; one cell written; cells passed over; past the end
--     sweep-part      a part, as the cells of one row, was lent to a function that rewrote it
-- Assumes nothing.
use Prim.Native.Nat.{ℕ, ◌+◌, ◌-◌, ◌<◌, ◌≤◌}
use mathlib.Core.Path.{◌≡◌, refl, sym, ◌∙◌, ap, subst}
use mathlib.Core.List.{List, ◌++◌}
use mathlib.Core.Logic.{⊎_elim}
use native.Mathlib.Omega.{arith}
use lib.ListN.{length, get_or, set, take, drop, length-set, length-append, length-drop, get_or-append}
use lib.Seq.{ext_get_or, get_or-take, get_or-drop, get_or-append-add, length-take-le}
use Rattle.base.specs.Tables.{tab}
use Rattle.base.proofs.Numbers.{lt-or-le}
use Rattle.base.proofs.Tabled.{length-tab, get_d-tab}
use Rattle.base.proofs.Swept.{swept, length-swept, swept-below, swept-above, swept_none, swept-turn, swept-skip, swept_all}

pub record Sweep {A : Type 0} (d : A) (f : ℕ → A) (l w : List A) (k : ℕ) : Type 0 where
  pub reach : k ≤ length l
  pub long : length w ≡ length l
  pub is : w ≡ swept d k f l

-- the cells from a up to e, as a callee is lent them
pub length_part : {A : Type 0} (w : List A) (a e : ℕ) → e ≤ length w → length (take (e - a) (drop a w)) ≡ e - a
length_part w a e h = length-take-le (e - a) (drop a w) (omega (arith, length-drop a w))

pub part_at : {A : Type 0} (d : A) (w : List A) (a e j : ℕ) → a + j < e → get_or (take (e - a) (drop a w)) j d ≡ get_or w (a + j) d
part_at d w a e j h = get_or-take (e - a) (drop a w) j d (omega arith) ∙ get_or-drop a w j d

module _ {A : Type 0} {d : A} {f : ℕ → A} {l : List A} where
  pub sweep-none : Sweep d f l l 0
  sweep-none = record { reach = omega arith; long = refl; is = swept_none d f l }

  module _ {w : List A} {k : ℕ} (s : Sweep d f l w k) where
    pub sweep-at : {m : ℕ} → k ≡ m → Sweep d f l w m
    sweep-at e = subst (λ (n : ℕ). Sweep d f l w n) e s

    pub sweep-turn : {v : A} → k < length l → v ≡ f k → Sweep d f l (set w k v) (k + 1)
    sweep-turn {v} h e = record { reach = omega arith; long = length-set w k v ∙ s.long; is = swept-turn d w l k f v h s.is e }

    pub sweep-skip : {m : ℕ} → k ≤ m → m ≤ length l → ((j : ℕ) → k ≤ j → j < m → f j ≡ get_or l j d) → Sweep d f l w m
    sweep-skip {m} h b p = record { reach = b; long = s.long; is = swept-skip d w l k m f h (λ j a b _. p j a b) s.is }

    pub sweep-all : length l ≤ k → w ≡ tab (length l) f
    sweep-all h = s.is ∙ swept_all d k f l h

    -- from k on the plane is as it was
    pub sweep-old : (j : ℕ) → k ≤ j → j < length l → get_or w j d ≡ get_or l j d
    sweep-old j h b = ap (λ (x : List A). get_or x j d) s.is ∙ swept-above d k f l j b h

    -- the callee leaves ys in the place of the cells from a up to e: what g says of each, which is what f says of it in the plane
    module _ {ys : List A} {g : ℕ → A} (a e : ℕ) (k≤a : k ≤ a) (a≤e : a ≤ e) (fits : e ≤ length l) where
      pub sweep-part : ys ≡ tab (length (take (e - a) (drop a w))) g
          → ((j : ℕ) → k ≤ j → j < a → f j ≡ get_or l j d)
          → ((j : ℕ) → a + j < e → get_or (take (e - a) (drop a w)) j d ≡ get_or l (a + j) d → g j ≡ f (a + j))
          → Sweep d f l (take a w ++ (ys ++ drop (e - a) (drop a w))) e
      sweep-part made passed new =
          record {
            reach = fits;
            long = whole;
            is = ext_get_or d _ (swept d e f l) (whole ∙ sym (length-swept d e f l)) (λ i b. entry i (omega (arith, whole)));
          }
        where
          rest : List A
          rest = drop (e - a) (drop a w)

          long-part : length (take (e - a) (drop a w)) ≡ e - a
          long-part = length_part w a e (omega (arith, s.long))

          long-ys : length ys ≡ e - a
          long-ys = ap length made ∙ length-tab _ g ∙ long-part

          long-take : length (take a w) ≡ a
          long-take = length-take-le a w (omega (arith, s.long))

          whole : length (take a w ++ (ys ++ rest)) ≡ length l
          whole =
              omega (
                arith,
                length-append (take a w) (ys ++ rest),
                length-append ys rest,
                length-drop (e - a) (drop a w),
                length-drop a w,
                long-ys,
                long-take,
                s.long,
              )

          past : (j : ℕ) → get_or (take a w ++ (ys ++ rest)) (a + j) d ≡ get_or (ys ++ rest) j d
          past j =
              subst (λ (m : ℕ). get_or (take a w ++ (ys ++ rest)) (m + j) d ≡ get_or (ys ++ rest) j d) long-take
              (get_or-append-add (take a w) (ys ++ rest) j d)

          at : (i : ℕ) → a ≤ i → a + (i - a) ≡ i
          at i h = omega arith

          Is : ℕ → Type 0
          Is i = get_or (take a w ++ (ys ++ rest)) i d ≡ get_or (swept d e f l) i d

          before : (i : ℕ) → i < a → i < length l → Is i
          before i h b =
              get_or-append (take a w) (ys ++ rest) d i (omega (arith, long-take))
              ∙ get_or-take a w i d h
              ∙ ⊎_elim
              (λ lt. ap (λ (x : List A). get_or x i d) s.is ∙ swept-below d k f l i b lt)
              (λ ge. sweep-old i ge b ∙ sym (passed i ge h))
              (lt-or-le i k)
              ∙ sym (swept-below d e f l i b (omega arith))

          within : (i : ℕ) → a ≤ i → i < e → i < length l → Is i
          within i h u b =
              let j = i - a in
              let j< : a + j < e = omega arith in
              let ji : a + j < length l = omega arith in
              ap (λ (m : ℕ). get_or (take a w ++ (ys ++ rest)) m d) (sym (at i h))
              ∙ past j
              ∙ get_or-append ys rest d j (omega (arith, long-ys))
              ∙ ap (λ (x : List A). get_or x j d) made
              ∙ get_d-tab _ g j d (omega (arith, long-part))
              ∙ new j j< (part_at d w a e j j< ∙ sweep-old (a + j) (omega arith) ji)
              ∙ sym (swept-below d e f l (a + j) ji j<)
              ∙ ap (λ (m : ℕ). get_or (swept d e f l) m d) (at i h)

          after : (i : ℕ) → e ≤ i → i < length l → Is i
          after i h b =
              let j = i - a in
              let p = i - e in
              let split : j ≡ length ys + p = omega (arith, long-ys) in
              let back : a + ((e - a) + p) ≡ i = omega arith in
              ap (λ (m : ℕ). get_or (take a w ++ (ys ++ rest)) m d) (sym (at i (omega arith)))
              ∙ past j
              ∙ ap (λ (m : ℕ). get_or (ys ++ rest) m d) split
              ∙ get_or-append-add ys rest p d
              ∙ get_or-drop (e - a) (drop a w) p d
              ∙ get_or-drop a w ((e - a) + p) d
              ∙ ap (λ (m : ℕ). get_or w m d) back
              ∙ sweep-old i (omega arith) b
              ∙ sym (swept-above d e f l i b h)

          entry : (i : ℕ) → i < length l → Is i
          entry i b =
              ⊎_elim (λ lt. before i lt b) (λ ge. ⊎_elim (λ lt. within i ge lt b) (λ up. after i up b) (lt-or-le i e)) (lt-or-le i a)
