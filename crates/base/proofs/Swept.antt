-- A loop that goes up a lent plane and writes each cell at most once: below k the cells hold what f says, from k on what they held.
--     swept_none    before the first turn
--     swept-turn    one turn that writes cell k
--     swept-skip    cells that f leaves as they are are passed over, however many
--     swept_all     past the end it is the table of f
-- Assumes nothing.
use Prim.Native.Nat.{ℕ, ◌+◌, ◌<◌, ◌≤◌}
use mathlib.Core.Path.{◌≡◌, sym, ◌∙◌, ap}
use mathlib.Core.List.{List}
use mathlib.Core.Logic.{⊎_elim}
use native.Mathlib.Nat.{ne_of_lt, ne_of_gt}
use native.Mathlib.Omega.{arith}
use lib.Dec.{ltb}
use lib.ListN.{length, get_or, set, length-set}
use lib.Seq.{ext_get_or, get_or-set_same, get_or-set_other}
use borrow.Author.Tests.{lt-ltb, le-ltb}
use Rattle.base.specs.Counting.{pick}
use Rattle.base.specs.Tables.{tab}
use Rattle.base.proofs.Bools.{pick_yes, pick_no}
use Rattle.base.proofs.Numbers.{lt-or-le}
use Rattle.base.proofs.Tabled.{length-tab, get_d-tab, is-tab}

unfoldable pub swept : {A : Type 0} → A → ℕ → (ℕ → A) → List A → List A
swept d k f l = tab (length l) (λ j. pick (ltb j k) (f j) (get_or l j d))

module _ {A : Type 0} (d : A) where
  pub length-swept : (k : ℕ) (f : ℕ → A) (l : List A) → length (swept d k f l) ≡ length l
  unfolding swept
  length-swept k f l = length-tab (length l) (λ j. pick (ltb j k) (f j) (get_or l j d))

  pub swept-below : (k : ℕ) (f : ℕ → A) (l : List A) (j : ℕ) → j < length l → j < k → get_or (swept d k f l) j d ≡ f j
  unfolding swept
  swept-below k f l j h b =
      get_d-tab (length l) (λ i. pick (ltb i k) (f i) (get_or l i d)) j d h ∙ pick_yes (ltb j k) (f j) (get_or l j d) (lt-ltb j k b)

  pub swept-above : (k : ℕ) (f : ℕ → A) (l : List A) (j : ℕ) → j < length l → k ≤ j → get_or (swept d k f l) j d ≡ get_or l j d
  unfolding swept
  swept-above k f l j h b =
      get_d-tab (length l) (λ i. pick (ltb i k) (f i) (get_or l i d)) j d h ∙ pick_no (ltb j k) (f j) (get_or l j d) (le-ltb j k b)

  pub swept_none : (f : ℕ → A) (l : List A) → l ≡ swept d 0 f l
  swept_none f l = ext_get_or d l (swept d 0 f l) (sym (length-swept 0 f l)) (λ j h. sym (swept-above 0 f l j h (omega arith)))

  pub swept_all : (k : ℕ) (f : ℕ → A) (l : List A) → length l ≤ k → swept d k f l ≡ tab (length l) f
  swept_all k f l b = is-tab d (swept d k f l) (length l) f (length-swept k f l) (λ j h. swept-below k f l j h (omega arith))

  pub swept-turn : (w l : List A) (k : ℕ) (f : ℕ → A) (v : A) → k < length l → w ≡ swept d k f l → v ≡ f k → set w k v ≡ swept d (k + 1) f l
  swept-turn w l k f v h e q =
      ext_get_or d (set w k v) (swept d (k + 1) f l)
      (length-set w k v ∙ long ∙ sym (length-swept (k + 1) f l))
      (λ j b. let j< : j < length l = omega (arith, length-set w k v, long) in ⊎_elim (λ lt. below j j< lt) (λ ge. above j j< ge) (lt-or-le j (k + 1)))
    where
      long : length w ≡ length l
      long = ap length e ∙ length-swept k f l

      was : (j : ℕ) → get_or w j d ≡ get_or (swept d k f l) j d
      was j = ap (λ (x : List A). get_or x j d) e

      here : (j : ℕ) → j ≡ k → j < length l → get_or (set w k v) j d ≡ get_or (swept d (k + 1) f l) j d
      here j r b =
          ap (λ (i : ℕ). get_or (set w k v) i d) r ∙ get_or-set_same w k v d (omega (arith, long)) ∙ q ∙ ap f (sym r)
          ∙ sym (swept-below (k + 1) f l j b (omega arith))

      less : (j : ℕ) → j < k → j < length l → get_or (set w k v) j d ≡ get_or (swept d (k + 1) f l) j d
      less j r b =
          get_or-set_other w k j v d (ne_of_lt r) ∙ was j ∙ swept-below k f l j b r ∙ sym (swept-below (k + 1) f l j b (omega arith))

      below : (j : ℕ) → j < length l → j < k + 1 → get_or (set w k v) j d ≡ get_or (swept d (k + 1) f l) j d
      below j b r = ⊎_elim (λ lt. less j lt b) (λ ge. here j (omega arith) b) (lt-or-le j k)

      above : (j : ℕ) → j < length l → k + 1 ≤ j → get_or (set w k v) j d ≡ get_or (swept d (k + 1) f l) j d
      above j b r =
          let r' : k < j = omega arith in
          get_or-set_other w k j v d (ne_of_gt r') ∙ was j ∙ swept-above k f l j b (omega arith) ∙ sym (swept-above (k + 1) f l j b r)

  pub swept-skip : (w l : List A) (n m : ℕ) (f : ℕ → A) → n ≤ m → ((k : ℕ) → n ≤ k → k < m → k < length l → f k ≡ get_or l k d)
      → w ≡ swept d n f l → w ≡ swept d m f l
  swept-skip w l n m f p h e =
      e
      ∙ ext_get_or d (swept d n f l) (swept d m f l) (length-swept n f l ∙ sym (length-swept m f l))
      (λ j b. let j< : j < length l = omega (arith, length-swept n f l) in ⊎_elim (λ lt. low j j< lt) (λ ge. ⊎_elim (λ lt. mid j j< ge lt) (λ up. high j j< up) (lt-or-le j m)) (lt-or-le j n))
    where
      low : (j : ℕ) → j < length l → j < n → get_or (swept d n f l) j d ≡ get_or (swept d m f l) j d
      low j b r = swept-below n f l j b r ∙ sym (swept-below m f l j b (omega arith))

      mid : (j : ℕ) → j < length l → n ≤ j → j < m → get_or (swept d n f l) j d ≡ get_or (swept d m f l) j d
      mid j b r s = swept-above n f l j b r ∙ sym (h j r s b) ∙ sym (swept-below m f l j b s)

      high : (j : ℕ) → j < length l → m ≤ j → get_or (swept d n f l) j d ≡ get_or (swept d m f l) j d
      high j b r = swept-above n f l j b (omega arith) ∙ sym (swept-above m f l j b r)
