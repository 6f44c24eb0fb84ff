-- What is left of a set of colours where only some are kept.
--     bits-split, common-le    a set is what it has of another and what it has not, and what two have in common is no more than the one
--     none_has    a set with no colour: every test fails
--     keeps-all, keeps-ext, keeps-both    a test that all pass; one that says the same; one test after another
--     keeps-le, keeps-rest, keeps-none    no more is left; those that were not kept; where none is left, all pass what the test leaves
-- Assumes nothing.
use Prim.Native.Nat.{ℕ, zero, suc, ◌+◌, ◌-◌, ◌^◌, ◌<◌, ◌≤◌}
use mathlib.Core.Path.{◌≡◌, refl, sym, ◌∙◌, ap}
use mathlib.Core.Bool.{Bool, true, false, not, ◌&&◌}
use native.Mathlib.Omega.{arith}
use Rattle.base.specs.Counting.{pick}
use Rattle.rules.specs.Bounds.{max_colours}
use Rattle.rules.specs.Sets.{has, bits_of}
use Rattle.bitset_colours.proofs.Digits.{bits-lt, bits-ext, bits-has, bits_back, none_is}
use Rattle.fit_windows.specs.Kept.{kept_of, Keeps}

bits-split : (n : ℕ) (f g : ℕ → Bool) → bits_of n f ≡ bits_of n (λ t. f t && g t) + bits_of n (λ t. f t && not (g t))
unfolding bits_of
bits-split zero f g = refl
bits-split (suc n) f g = omega (arith, bits-split n f g, parts (f (suc n)) (g (suc n)) (2 ^ n))
  where
    parts : (a b : Bool) (m : ℕ) → pick a m 0 ≡ pick (a && b) m 0 + pick (a && not b) m 0
    parts true true m = omega arith
    parts true false m = omega arith
    parts false b m = refl

pub common-le : (n x y both : ℕ) → x < 2 ^ n → both ≡ kept_of n x (has y) → both ≤ x
common-le n x y both l e = omega (arith, bits_back n x l, bits-split n (has x) (has y))

pub none_has : (n : ℕ) (f : ℕ → Bool) → bits_of n f ≡ 0 → (t : ℕ) → 1 ≤ t → t ≤ n → f t ≡ false
none_has n f e t a b =
    sym (bits-has n f t a b) ∙ ap (λ (x : ℕ). has x t) (e ∙ none_is n) ∙ bits-has n (λ u. false) t a b

pub keeps-all : {bits : ℕ} {f : ℕ → Bool} → ((t : ℕ) → f t ≡ true) → Keeps bits f bits
keeps-all {bits} {f} h =
    record { is = λ n few fit. sym (bits_back n bits fit) ∙ bits-ext n (has bits) _ (λ t a b. and-true (has bits t) (h t)) }
  where
    and-true : (b : Bool) {c : Bool} → c ≡ true → b ≡ (b && c)
    and-true true e = sym e
    and-true false e = refl

pub keeps-ext : {bits x : ℕ} {f g : ℕ → Bool} → Keeps bits f x → ((t : ℕ) → 1 ≤ t → t ≤ max_colours → f t ≡ g t) → Keeps bits g x
keeps-ext {bits} k e =
    record { is = λ n few fit. k.is n few fit ∙ bits-ext n _ _ (λ t a b. ap (λ (o : Bool). has bits t && o) (e t a (omega arith))) }

pub keeps-both : {bits x y : ℕ} {f g : ℕ → Bool} → Keeps bits f x → Keeps x g y → Keeps bits (λ t. f t && g t) y
keeps-both {bits} {x} {y} {f} {g} k h =
    record {
      is = λ n few fit.
          h.is n few (rw (k.is n few fit) (bits-lt n _))
          ∙ bits-ext n _ _ (λ t a b.
          ap (λ (o : Bool). o && g t) (ap (λ (z : ℕ). has z t) (k.is n few fit) ∙ bits-has n _ t a b) ∙ and-and (has bits t) (f t) (g t));
    }
  where
    and-and : (a b c : Bool) → ((a && b) && c) ≡ (a && (b && c))
    and-and true b c = refl
    and-and false b c = refl

pub keeps-le : {bits x : ℕ} {f : ℕ → Bool} → bits < 2 ^ max_colours → Keeps bits f x → x ≤ bits
keeps-le {bits} {x} {f} l k = omega (arith, k.is max_colours (omega arith) l, bits_back max_colours bits l, bits-split max_colours (has bits) f)

pub keeps-rest : {bits x : ℕ} {f : ℕ → Bool} → Keeps bits f x → Keeps bits (λ t. not (f t)) (bits - x)
keeps-rest {bits} {x} {f} k =
    record { is = λ n few fit. omega (arith, k.is n few fit, bits_back n bits fit, bits-split n (has bits) f) }

pub keeps-none : {bits x : ℕ} {f g : ℕ → Bool} → Keeps bits f x → x ≡ 0 → ((t : ℕ) → f t ≡ false → g t ≡ true) → Keeps bits g bits
keeps-none {bits} {x} {f} {g} k z h =
    record {
      is = λ n few fit.
          sym (bits_back n bits fit)
          ∙ bits-ext n (has bits) _ (λ t a b. found (has bits t) (f t) (none_has n _ (sym (k.is n few fit) ∙ z) t a b) (h t));
    }
  where
    found : (a b : Bool) {c : Bool} → (a && b) ≡ false → (b ≡ false → c ≡ true) → a ≡ (a && c)
    found true b e later = sym (later e)
    found false b e later = refl
