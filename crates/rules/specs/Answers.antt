-- What a call answers: its values where it is accepted, a refusal where it is not. The number of each refusal is document 01's; `reason` is
-- the refusal that a number names. Checks know the numbers alone, so that the first that fails is the lowest.
use Rattle.std.specs.Prelude.{ℕ, zero, suc, Bool, true, false, List, [], ◌∷◌, Option, Some, None, Result, Ok, Err}
use Rattle.base.specs.Refusal.{Checks, refusal}
pub use Rattle.rules.specs.Number.{number, reason}
use Rattle.rules.specs.declared.Refusal.{Refusal}
use Rattle.rules.specs.declared.RunEnd.{RunEnd}
use Rattle.rules.specs.declared.RunEnd.TheVariants as RunEnd·

-- an answer is either a result or a refusal
abbrev pub Answer : Type 0 → Type 0
Answer A = Result A Refusal

-- by the number that its checks give, 0 where all pass
abbrev pub answered : {A : Type 0} → ℕ → A → Answer A
answered zero a = Ok a
answered (suc n) a = Err (reason (suc n))

-- checks alone
abbrev pub checked : Checks → Answer Unit
checked cs = answered (refusal cs) tt

-- the number of an answer: 0 where the call is accepted
abbrev pub number_of : {A : Type 0} → Answer A → ℕ
number_of (Ok a) = 0
number_of (Err r) = number r

-- a value, if there is one
abbrev pub if_there : {A : Type 0} → Bool → A → Option A
if_there true a = Some a
if_there false a = None

-- the first of those that wait
abbrev pub next_of : {A : Type 0} → List A → Option A
next_of [] = None
next_of (e ∷ l) = Some e

-- how a forced run ended: full, or else done where no entry waits and spent where one does
abbrev pub end_by : {A : Type 0} → Bool → List A → RunEnd
end_by true l = RunEnd·.Full
end_by false [] = RunEnd·.Done
end_by false (e ∷ l) = RunEnd·.Spent
