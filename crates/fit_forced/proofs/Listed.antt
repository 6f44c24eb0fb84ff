-- What a call that has made the checks has of a cell's listing, for forced neighbours and the scan.
--     never-refused    a listing that is a set is no refusal: the `else` of a `let .. else` on it is never taken
--     listing-says     what is said of the colours of the set, in any number of bits, is said of the colours listed
-- Assumes nothing.
use Prim.Native.Nat.{ℕ, ◌^◌, ◌<◌}
use mathlib.Core.Path.{◌≡◌, ◌∙◌, ap}
use mathlib.Core.Bool.{Bool}
use mathlib.Core.List.{List}
use native.Mathlib.Omega.{arith}
use Rattle.rules.specs.Sets.{has, set_of, colours_of}
use Rattle.rules.specs.declared.TileBitset.{TileBitset}
use Rattle.bitset_colours.proofs.Digits.{bits-lt}
use Rattle.bitset_colours.proofs.Colours.{colours-back}
use Rattle.bitset_colours.proofs.Calls.{set-bits}
use Rattle.rules.specs.Answers.{Answer}
use Rattle.rules.specs.declared.Refusal.{Refusal}
use Rattle.std.specs.Prelude.{Ok, Err}

pub never-refused : {A : Type 0} (l : Answer TileBitset) (s : TileBitset) (r : Refusal) → l ≡ Ok s → l ≡ Err r → A
never-refused l s r p q = absurd (let z : ◌≡◌ {A = ℕ} 0 1 = cc in omega arith)

pub listing-says : {A : Type 0} {r : A} (say : List ℕ → A) (l : Answer TileBitset) (s : TileBitset) (n : ℕ) (f : ℕ → Bool) → l ≡ Ok s → l ≡ Ok (set_of n f)
    → ((m : ℕ) → s.bits < 2 ^ m → r ≡ say (colours_of m (has s.bits))) → r ≡ say (colours_of n f)
listing-says say l s n f p q h =
    let e : s ≡ set_of n f = cc in
    h n (rw (set-bits s n f e) (bits-lt n f)) ∙ ap (λ (x : ℕ). say (colours_of n (has x))) (set-bits s n f e) ∙ ap say (colours-back n f)
