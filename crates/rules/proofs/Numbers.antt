-- The number of an answer that checks decide is the one that they give: the numbers 1 to 10, which are all that checks name, are those of
-- the refusals that they stand for.
-- Assumes nothing.
use Prim.Native.Nat.{ℕ, zero, suc, ◌≤◌}
use mathlib.Core.Path.{◌≡◌, refl, sym, ◌∙◌, ap}
use mathlib.Core.Bool.{Bool, true, false, ◌&&◌}
use native.Mathlib.Omega.{arith}
use lib.Dec.{leb}
use borrow.Author.Tests.{leb-true}
use Rattle.std.specs.Prelude.{Ok, Err}
use Rattle.base.specs.Refusal.{Checks, ◌unless◌, ◌then◌, or_else, refusal}
use Rattle.base.proofs.Bools.{and_left, and_right}
use Rattle.rules.specs.Answers.{answered, number_of, number}
use Rattle.rules.specs.declared.Refusal.{Refusal}
use Rattle.rules.proofs.Answered.{reasons}

abbrev pub known : Checks → Bool
known (n unless b) = leb n 10
known (cs then ds) = known cs && known ds

pub up-to-ten : (cs : Checks) → known cs ≡ true → refusal cs ≤ 10
unfolding refusal
up-to-ten (n unless true) t = omega arith
up-to-ten (n unless false) t = leb-true n 10 t
up-to-ten (cs then ds) t = at (refusal cs) (up-to-ten cs (and_left (known cs) (known ds) t)) (up-to-ten ds (and_right (known cs) (known ds) t))
  where
    at : (n : ℕ) → n ≤ 10 → refusal ds ≤ 10 → or_else n (refusal ds) ≤ 10
    at zero h k = k
    at (suc n) h k = h

pub told-number : {A : Type 0} (n : ℕ) (a : A) → n ≤ 10 → number_of (answered n a) ≡ n
told-number zero a h = refl
told-number (suc n) a h = reasons (suc n) (omega arith) h

-- a refusal and a value, from the number
pub told-refusal : {A : Type 0} {r : Refusal} (n : ℕ) (a : A) → n ≤ 10 → answered n a ≡ Err r → (n ≡ number r) × (n ≡ 0 → ⊥)
told-refusal zero a h e = absurd (let z : ◌≡◌ {A = ℕ} 0 1 = cc in omega arith)
told-refusal (suc n) a h e = (sym (told-number (suc n) a h) ∙ ap number_of e, λ z. omega arith)

pub told-value : {A : Type 0} {b : A} (n : ℕ) (a : A) → answered n a ≡ Ok b → (n ≡ 0) × (a ≡ b)
told-value zero a e = (refl, cc)
told-value (suc n) a e = absurd (let z : ◌≡◌ {A = ℕ} 0 1 = cc in omega arith)
