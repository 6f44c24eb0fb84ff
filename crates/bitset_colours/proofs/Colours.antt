-- The colours of a set, listed, and its bits: over any number n of bits.
--     colours-none, colours-more    one colour more
--     colours-ext    two tests that agree on 1 to n list the same
--     colours-back   the list of a set is the list of the test that made it
--     colours-tally, colours-ones   its length is the tally of the test, and the number of bits that are set
--     colours-empty, empty-bits     it is empty exactly where the bits are 0
--     colours-one    where it is one colour, the bits are that colour's bit
-- Assumes nothing.
use Prim.Native.Nat.{ℕ, zero, suc, ◌+◌, ◌-◌, ◌*◌, ◌^◌, ◌≤◌, ◌<◌}
use mathlib.Core.Path.{◌≡◌, refl, sym, ◌∙◌, ap}
use mathlib.Core.Bool.{Bool, true, false, not}
use mathlib.Core.Logic.{⊎_elim}
use mathlib.Core.List.{List, [], ◌∷◌, ◌++◌, append_assoc}
use native.Mathlib.Nat.{pow-suc, le_step, le_of_suc-le-suc, mul-mod_left, sub-zero, zero-mul, one-mul}
use native.Mathlib.Numerals.{add-one}
use native.Mathlib.Omega.{arith}
use borrow.Author.Tests.{eq-eqb, ne_eqb, eqb-true}
use lib.Dec.{eqb}
use lib.ListN.{length, length-append, set, replicate}
use lib.Seq.{set_at}
use lib.Pow.{pow_mono, shl-shr}
use lib.Count.{ones, ones_cat, ones-ones, count_trailing_zeros}
use Rattle.base.specs.Counting.{pick, tally}
use Rattle.base.proofs.Bools.{never, by-test, same_test}
use Rattle.base.proofs.Numbers.{lt-or-le}
use Rattle.base.proofs.Tabled.{those-none, those-next, those-skip, those-ext, length-those}
use Rattle.rules.specs.Sets.{has, bits_of, colours_of}
use Rattle.rules.specs.Forced.{only}
use Rattle.bitset_colours.proofs.Digits.{bits-lt, bits-has, bits_back, weigh}

-- one colour more, as a loop counts
pub colours-none : (f : ℕ → Bool) → colours_of 0 f ≡ []
unfolding colours_of
colours-none f = those-none (λ k. f (k + 1)) (λ k. k + 1)

pub colours-next : (n : ℕ) (f : ℕ → Bool) → f (n + 1) ≡ true → colours_of (n + 1) f ≡ colours_of n f ++ ((n + 1) ∷ [])
unfolding colours_of
colours-next n f e = those-next n (λ k. f (k + 1)) (λ k. k + 1) e

pub colours-skip : (n : ℕ) (f : ℕ → Bool) → f (n + 1) ≡ false → colours_of (n + 1) f ≡ colours_of n f
unfolding colours_of
colours-skip n f e = those-skip n (λ k. f (k + 1)) (λ k. k + 1) e

pub colours-ext : (n : ℕ) (f g : ℕ → Bool) → ((t : ℕ) → 1 ≤ t → t ≤ n → f t ≡ g t) → colours_of n f ≡ colours_of n g
unfolding colours_of
colours-ext n f g h =
    those-ext n (λ k. f (k + 1)) (λ k. g (k + 1)) (λ k. k + 1) (λ k. k + 1) (λ k l. h (k + 1) (omega arith) (omega arith)) (λ k l. refl)

pub colours-back : (n : ℕ) (f : ℕ → Bool) → colours_of n (has (bits_of n f)) ≡ colours_of n f
colours-back n f = colours-ext n (has (bits_of n f)) f (bits-has n f)

pub colours-tally : (n : ℕ) (f : ℕ → Bool) → length (colours_of n f) ≡ tally n (λ k. f (k + 1))
unfolding colours_of
colours-tally n f = length-those n (λ k. f (k + 1)) (λ k. k + 1)

-- the number of bits that are set
ones-pick : (b : Bool) → ones (pick b 1 0) ≡ pick b 1 0
ones-pick true = ones-ones 1
ones-pick false = ones-ones 0

ones-tally : (n : ℕ) (f : ℕ → Bool) → ones (bits_of n f) ≡ tally n (λ k. f (k + 1))
unfolding bits_of tally
ones-tally zero f = ones-ones 0
ones-tally (suc n) f =
    let e : f (n + 1) ≡ f (suc n) = ap f (add-one n) in
    ap ones (weigh (f (suc n)) (2 ^ n) (bits_of n f)) ∙ ones_cat n (pick (f (suc n)) 1 0) (bits_of n f) (bits-lt n f)
    ∙ rw (ones-pick (f (suc n)), ones-tally n f, e) (omega arith)

pub colours-ones : (n x : ℕ) → x < 2 ^ n → ones x ≡ length (colours_of n (has x))
colours-ones n x l = ap ones (sym (bits_back n x l)) ∙ ones-tally n (has x) ∙ sym (colours-tally n (has x))

-- no colour: no bit
tally-zero : (n : ℕ) (f : ℕ → Bool) → tally n (λ k. f (k + 1)) ≡ 0 → bits_of n f ≡ 0
unfolding bits_of tally
tally-zero zero f e = refl
tally-zero (suc n) f e =
    by-test (f (suc n))
    (λ t. absurd (more t e))
    (λ t. rw t (let r : tally n (λ k. f (k + 1)) ≡ 0 = omega arith in omega (arith, tally-zero n f r)))
  where
    more : f (suc n) ≡ true → tally n (λ k. f (k + 1)) + pick (f (n + 1)) 1 0 ≡ 0 → ⊥
    more t e = let k : tally n (λ k. f (k + 1)) + 1 ≡ 0 = rw (add-one, t) at e in omega arith

pub colours-empty : (n x : ℕ) → x < 2 ^ n → eqb x 0 ≡ eqb (length (colours_of n (has x))) 0
colours-empty n x l =
    same_test (eqb x 0) (eqb (length (colours_of n (has x))) 0)
    (λ t. eq-eqb (length (colours_of n (has x))) 0 (sym (colours-ones n x l) ∙ ap ones (eqb-true x 0 t) ∙ ones-ones 0))
    (λ t. eq-eqb x 0 (sym (bits_back n x l) ∙ tally-zero n (has x) (sym (colours-tally n (has x)) ∙ eqb-true (length (colours_of n (has x))) 0 t)))

-- one colour: its bit
pub length-zero : (l : List ℕ) → length l ≡ 0 → l ≡ []
length-zero [] e = refl
length-zero (t ∷ l) e = absurd (out e)
  where
    out : {m : ℕ} → suc m ≡ 0 → ⊥
    out e = omega arith

abbrev One : ℕ → (ℕ → Bool) → Type 0
One n f = (k : ℕ) × (k < n) × (bits_of n f ≡ 2 ^ k) × (colours_of n f ≡ (k + 1) ∷ [])

tally-one : (n : ℕ) (f : ℕ → Bool) → tally n (λ k. f (k + 1)) ≡ 1 → One n f
unfolding bits_of tally
tally-one zero f e = absurd (omega arith)
tally-one (suc n) f e =
    by-test (f (suc n))
    (λ t. here t (let r : tally n (λ k. f (k + 1)) + 1 ≡ 1 = rw (add-one, t) at e in omega arith))
    (λ t. below t (tally-one n f (let r : tally n (λ k. f (k + 1)) + 0 ≡ 1 = rw (add-one, t) at e in omega arith)))
  where
    here : f (suc n) ≡ true → tally n (λ k. f (k + 1)) ≡ 0 → One (suc n) f
    here t z = (
      n,
      omega arith,
      rw (t, tally-zero n f z) (omega arith),
      rw (← add-one n) (colours-next n f (rw add-one t) ∙ ap (λ (l : List ℕ). l ++ ((n + 1) ∷ [])) (length-zero (colours_of n f) (colours-tally n f ∙ z))),
    )

    below : f (suc n) ≡ false → One n f → One (suc n) f
    below t w = (w.0, le_step w.1, rw t (omega (arith, w.2)), rw (← add-one n) (colours-skip n f (rw add-one t) ∙ w.3))

pub trailing-power : (w k : ℕ) → k < w → count_trailing_zeros w (2 ^ k) ≡ k
unfolding count_trailing_zeros
trailing-power zero k l = absurd (omega arith)
trailing-power (suc w) zero l = refl
trailing-power (suc w) (suc k) l =
    rw (pow-suc 2 k, mul-mod_left (2 ^ k) 2, shl-shr (2 ^ k) 1) (ap suc (trailing-power w k (le_of_suc-le-suc l)))

only_none : (l : List ℕ) → (length l ≡ 1 → ⊥) → 0 ≡ only l
only_none [] h = refl
only_none (t ∷ []) h = absurd (h refl)
only_none (t ∷ u ∷ l) h = refl

-- what the code answers for the only colour: 0 where the set bits are not one, else one more than the zeros below it
module _ (w n x : ℕ) (l : x < 2 ^ n) where
  pub only-not : (ones x ≡ 1 → ⊥) → 0 ≡ only (colours_of n (has x))
  only-not h = only_none (colours_of n (has x)) (λ e. h (colours-ones n x l ∙ e))

  pub only-is : x < 2 ^ w → ones x ≡ 1 → count_trailing_zeros w x + 1 ≡ only (colours_of n (has x))
  only-is m e =
      let u = tally-one n (has x) (sym (colours-tally n (has x)) ∙ sym (colours-ones n x l) ∙ e) in
      let p : x ≡ 2 ^ u.0 = sym (bits_back n x l) ∙ u.2 in
      let k : u.0 < w = ⊎_elim (λ lt. lt) (λ ge. absurd (not-below p m (pow_mono ge))) (lt-or-le u.0 w) in
      ap (λ (y : ℕ). count_trailing_zeros w y + 1) p ∙ ap (λ (y : ℕ). y + 1) (trailing-power w u.0 k) ∙ sym (ap only u.3)
    where
      not-below : {a b c : ℕ} → a ≡ b → a < c → c ≤ b → ⊥
      not-below p m q = omega arith

-- a list has one colour exactly where its only colour is not 0
pub one_only : (n : ℕ) (f : ℕ → Bool) → eqb (length (colours_of n f)) 1 ≡ not (eqb (only (colours_of n f)) 0)
one_only n f =
    by-test (eqb (length (colours_of n f)) 1)
    (λ t. let u = tally-one n f (sym (colours-tally n f) ∙ eqb-true (length (colours_of n f)) 1 t) in t ∙ rw u.3 (sym (ap not (ne_eqb (u.0 + 1) 0 (λ q. omega arith)))))
    (λ t. t ∙ sym (ap not (eq-eqb (only (colours_of n f)) 0 (sym (only_none (colours_of n f) (λ e. never (eqb (length (colours_of n f)) 1) (eq-eqb (length (colours_of n f)) 1 e) t))))))

-- the loop that lists: the colours so far, and 0 in the entries past them
pub record Filled (room k : ℕ) (f : ℕ → Bool) (colours : List ℕ) (len : ℕ) : Type 0 where
  pub filled : colours ≡ colours_of k f ++ replicate (room - length (colours_of k f)) 0
  pub long : len ≡ length (colours_of k f)
  pub few : len ≤ k

pub filled_none : (room : ℕ) (f : ℕ → Bool) → Filled room 0 f (replicate room 0) 0
filled_none room f = record { filled = rw (colours-none f) (ap (λ (m : ℕ). replicate m 0) (sym (sub-zero room))); long = rw (colours-none f); few = omega arith }

-- entry len is written in either case: with the colour, or with the 0 that it holds
pub filled-turn : (room k d : ℕ) (f : ℕ → Bool) (colours : List ℕ) (len : ℕ) → Filled room k f colours len → k < room → d < 2 → eqb d 1 ≡ f (k + 1)
    → Filled room (k + 1) f (set colours len (d * (k + 1))) (len + d)
filled-turn room k d f colours len inv l b e = go d b e
  where
    rest : ℕ
    rest = room - len - 1

    cut : colours ≡ colours_of k f ++ (0 ∷ replicate rest 0)
    cut = inv.filled ∙ ap (λ (m : ℕ). colours_of k f ++ replicate m 0) (let s : room - length (colours_of k f) ≡ suc (room - len - 1) = omega (arith, inv.long, inv.few) in s)

    put : (v : ℕ) → set colours len v ≡ colours_of k f ++ (v ∷ replicate rest 0)
    put v = rw cut (set_at (colours_of k f) 0 (replicate rest 0) v len (sym inv.long))

    go : (d : ℕ) → d < 2 → eqb d 1 ≡ f (k + 1) → Filled room (k + 1) f (set colours len (d * (k + 1))) (len + d)
    go zero b e = record {
      filled = rw (colours-skip k f (sym e), zero-mul) (put 0 ∙ sym cut ∙ inv.filled);
      long = rw (colours-skip k f (sym e)) (omega (arith, inv.long));
      few = omega (arith, inv.few);
    }
    go (suc zero) b e =
        let one_more : length (colours_of k f ++ ((k + 1) ∷ [])) ≡ len + 1 = length-append (colours_of k f) ((k + 1) ∷ []) ∙ ap (λ (m : ℕ). m + 1) (sym inv.long) in
        record {
          filled =
              rw (colours-next k f (sym e), one-mul)
              (put (k + 1) ∙ sym (append_assoc (colours_of k f) ((k + 1) ∷ []) (replicate rest 0))
              ∙ ap (λ (m : ℕ). (colours_of k f ++ ((k + 1) ∷ [])) ++ replicate m 0) (let s : room - len - 1 ≡ room - length (colours_of k f ++ ((k + 1) ∷ [])) = omega arith in s));
          long = rw (colours-next k f (sym e)) (sym one_more);
          few = omega (arith, inv.few);
        }
    go (suc (suc d)) b e = absurd (omega arith)
