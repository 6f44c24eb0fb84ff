-- What each way out of a call answers, over any kind of answer: a refusal with its number, or the result. And what a call that writes
-- promises there: refused, what was lent to it is as it was; accepted, it holds the new contents. Each kind of answer gives these laws its
-- own words and names them in a list for `search`; all speak of checks and not of a number, so that the search finds the checks.
-- Assumes nothing.
use Prim.Native.Nat.{ℕ, zero, suc}
use mathlib.Core.Path.{◌≡◌, refl, sym, ◌∙◌, ap}
use mathlib.Core.Bool.{true}
use Rattle.base.specs.Refusal.{Checks, refusal, Does}
use Rattle.base.proofs.Bools.{never}
use Rattle.base.proofs.Chain.{refusing, not-refused, kept-old, has_new}

-- a call that tells: `answer` by its refusal and its result
module _ {A B : Type 0} (answer : ℕ → A → B) where
  pub refuses : (refused : ℕ → B) → ((n : ℕ) (a : A) → refused (suc n) ≡ answer (suc n) a) → (cs : Checks) (a : A) (n : ℕ) → refusing n ≡ true → n ≡ refusal cs
      → refused n ≡ answer (refusal cs) a
  refuses refused same cs a zero t e = never _ t refl
  refuses refused same cs a (suc n) t e = same n a ∙ ap (λ (m : ℕ). answer m a) e

  pub tells : (cs : Checks) {x a : A} → 0 ≡ refusal cs → x ≡ a → answer 0 x ≡ answer (refusal cs) a
  tells cs {x} {a} e p = ap (answer 0) p ∙ ap (λ (m : ℕ). answer m a) e

-- a call that writes: its answer tells of no value beside the refusal
module _ {A B : Type 0} (answer refused : ℕ → A) (same : (n : ℕ) → refused (suc n) ≡ answer (suc n)) (cs : Checks) (new old : B) where
  pub was-refused : (n : ℕ) → refusing n ≡ true → n ≡ refusal cs → Does cs answer new old (refused n) old
  was-refused n t e =
      record {
        answered = refuses (λ (m : ℕ) (b : B). answer m) refused (λ m b. same m) cs old n t e;
        leaves = sym (kept-old (refusal cs) new old (λ z. not-refused n t (e ∙ z)));
      }

  pub was-done : (a : A) (after : B) → a ≡ answer 0 → 0 ≡ refusal cs → after ≡ new → Does cs answer new old a after
  was-done a after z e q = record { answered = z ∙ ap (λ (m : ℕ). answer m) e; leaves = q ∙ sym (has_new (refusal cs) new old (sym e)) }

-- a call whose answer is that of acceptance passed its checks and left the new contents
pub left-new : {A B : Type 0} (answer : ℕ → A) (cs : Checks) (new old : B) {a : A} {after : B} → ((r : ℕ) → a ≡ answer r → r ≡ 0) → Does cs answer new old a after
    → (refusal cs ≡ 0) × (after ≡ new)
left-new answer cs new old only d = let z = only (refusal cs) d.answered in (z, d.leaves ∙ has_new (refusal cs) new old z)
