-- A refusal is the number of the first check, in the order in which they are written, that does not pass.
use Rattle.std.specs.Prelude.{ℕ, zero, suc, ◌≡◌, Bool, true, false}

-- checks in order: `NUMBER unless TEST`, and one list of them `then` another
infix 3 ◌unless◌
infixr 2 ◌then◌
pub data Checks : Type 0 where
  ◌unless◌ : ℕ → Bool → Checks
  ◌then◌ : Checks → Checks → Checks

-- the first number, or the second where the first is 0
abbrev pub or_else : ℕ → ℕ → ℕ
or_else zero m = m
or_else (suc n) m = suc n

-- the number of the first check that fails; 0 where all pass
unfoldable pub refusal : Checks → ℕ
refusal (n unless true) = 0
refusal (n unless false) = n
refusal (cs then ds) = or_else (refusal cs) (refusal ds)

-- what a call leaves: the new value where it is accepted, the old one where it is refused
abbrev pub unless_refused : {A : Type 0} → ℕ → A → A → A
unless_refused zero new old = new
unless_refused (suc n) new old = old

-- the promise of a call that writes: its answer, and what the lent memory holds then
pub record Gives {A B : Type 0} (answer : A) (left : B) (a : A) (after : B) : Type 0 where
  pub answered : a ≡ answer
  pub leaves : after ≡ left

-- the same of a call that by its checks is refused and leaves the old, or is accepted and leaves the new
abbrev pub Does : {A B : Type 0} → Checks → (ℕ → A) → B → B → A → B → Type 0
Does checks answer new old = Gives (answer (refusal checks)) (unless_refused (refusal checks) new old)
