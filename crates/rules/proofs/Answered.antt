-- What each way out of a call answers, from its checks.
--     numbered, reasons    a refusal has a number, which names it; and the numbers 1 to 10 are those of the refusals that they name
--     by-number, caught, stopped, went-on    that a call answers a refusal: by its number, or because a part answered it, one that stands
--         first or one behind parts that pass
--     then-part    what a part that stands last answers, when those before it pass
--     passed, told-by      of a part that did not refuse: its checks pass, and what it told
--     refuses, tells       what a call that tells answers; refused, done what one that writes promises, and was-written what such a promise says
--     answers              all that `search` needs, beside base's `chain`
-- Assumes nothing.
use Prim.Native.Nat.{ℕ, zero, suc, pred, ◌≤◌}
use mathlib.Core.Path.{◌≡◌, refl, sym, ◌∙◌, ap}
use mathlib.Core.Bool.{Bool, true}
use native.Mathlib.Omega.{arith}
use Rattle.std.specs.Prelude.{Ok, Err, IsErr, IsErrAnd}
use Rattle.base.specs.Counting.{every}
use Rattle.base.specs.Refusal.{Checks, ◌then◌, or_else, refusal, unless_refused, Gives}
use borrow.Author.Tests.{eqb-true}
use lib.Dec.{eqb}
use Rattle.base.proofs.Counted.{every-at}
use Rattle.base.proofs.Chain.{go, has_new, kept-old}
use Rattle.rules.specs.Answers.{Answer, answered, checked, number, reason}
use Rattle.rules.specs.Promises.{Writes}
use Rattle.rules.specs.declared.Refusal.{Refusal}
use Rattle.rules.specs.declared.Refusal.TheVariants as Refusal·

pub numbered : (r : Refusal) → reason (number r) ≡ r
numbered Refusal·.Shape = refl
numbered Refusal·.Length = refl
numbered Refusal·.Count = refl
numbered Refusal·.Cell = refl
numbered Refusal·.Number = refl
numbered Refusal·.Place = refl
numbered Refusal·.Type = refl
numbered Refusal·.Taken = refl
numbered Refusal·.Bare = refl
numbered Refusal·.Room = refl

abbrev named : ℕ → Bool
named i = eqb (number (reason (suc i))) (suc i)

all-named : every 10 named ≡ true
unfolding every
all-named = refl

pub reasons : (n : ℕ) → 1 ≤ n → n ≤ 10 → number (reason n) ≡ n
reasons n l m =
    let i = pred n in
    let e : n ≡ suc i = omega arith in
    rw e (eqb-true _ _ (every-at named 10 all-named i (omega arith)))

-- ---- a refusal among answers

-- acceptance is no refusal
no-refusal : {A : Type 0} {a : A} {r : Refusal} → Err r ≡ Ok a → ⊥
no-refusal e = let z : ◌≡◌ {A = ℕ} 0 1 = cc in omega arith

from-number : {A : Type 0} (r : Refusal) (a : A) (n : ℕ) → number r ≡ n → Err r ≡ answered n a
from-number Refusal·.Shape a n e = rw (sym e)
from-number Refusal·.Length a n e = rw (sym e)
from-number Refusal·.Count a n e = rw (sym e)
from-number Refusal·.Cell a n e = rw (sym e)
from-number Refusal·.Number a n e = rw (sym e)
from-number Refusal·.Place a n e = rw (sym e)
from-number Refusal·.Type a n e = rw (sym e)
from-number Refusal·.Taken a n e = rw (sym e)
from-number Refusal·.Bare a n e = rw (sym e)
from-number Refusal·.Room a n e = rw (sym e)

-- the value that acceptance would tell does not matter
other-value : {A B : Type 0} {r : Refusal} (n : ℕ) (a : A) (b : B) → Err r ≡ answered n a → Err r ≡ answered n b
other-value zero a b e = absurd (no-refusal e)
other-value (suc n) a b e = cc

first-stays : {r : Refusal} (n m : ℕ) → Err r ≡ answered {A = Unit {0}} n tt → Err r ≡ answered {A = Unit {0}} (or_else n m) tt
first-stays zero m e = absurd (no-refusal e)
first-stays (suc n) m e = e

-- a part that stands last, and whose answer is the function's
pub then-part : {x : Answer Unit} (cs ds : Checks) → 0 ≡ refusal cs → x ≡ checked ds → x ≡ checked (cs then ds)
then-part cs ds z e = e ∙ ap (λ (n : ℕ). answered n tt) (go (refusal ds) cs ds z refl)

module _ {r : Refusal} (cs : Checks) where
  pub by-number : number r ≡ refusal cs → Err r ≡ checked cs
  by-number e = from-number r tt (refusal cs) e

  pub caught : {A : Type 0} {x : Answer A} (a : A) → x ≡ answered (refusal cs) a → x ≡ Err r → Err r ≡ checked cs
  caught a e was = other-value (refusal cs) a tt (sym was ∙ e)

  pub stopped : (ds : Checks) → Err r ≡ checked cs → Err r ≡ checked (cs then ds)
  unfolding refusal
  stopped ds e = first-stays (refusal cs) (refusal ds) e

  pub went-on : (ds : Checks) → 0 ≡ refusal cs → Err r ≡ checked ds → Err r ≡ checked (cs then ds)
  went-on ds z e = then-part cs ds z e

  pub refuses : {A : Type 0} (a : A) → Err r ≡ checked cs → Err r ≡ answered (refusal cs) a
  refuses a e = other-value (refusal cs) tt a e

-- `part(..)?` where the part refused: what is answered is its refusal
handed : {A : Type 0} (x : Answer A) (r : Refusal) → IsErr x × IsErrAnd x (λ q. q ≡ r) → x ≡ Err r
handed (Ok a) r h = absurd h.1
handed (Err q) r h = ap Err h.1

pub handed-on : {A B : Type 0} {x : Answer A} {r : Refusal} (y : B) (f : Answer A → B) → IsErr x × IsErrAnd x (λ q. q ≡ r) → f (Err r) ≡ y → f x ≡ y
handed-on {x = x} {r = r} y f h e = ap f (handed x r h) ∙ e

pub handed_to : {A : Type 0} {x y : Answer A} {r : Refusal} → IsErr x × IsErrAnd x (λ q. q ≡ r) → Err r ≡ y → x ≡ y
handed_to {x = x} {r = r} h e = handed x r h ∙ e

-- ---- acceptance

zero-from : {A : Type 0} {x : Answer A} {b : A} (n : ℕ) (a : A) → x ≡ answered n a → x ≡ Ok b → 0 ≡ n
zero-from zero a e was = refl
zero-from (suc n) a e was = absurd (no-refusal (sym e ∙ was))

value-from : {A : Type 0} {x : Answer A} {b : A} (n : ℕ) (a : A) → x ≡ answered n a → x ≡ Ok b → b ≡ a
value-from zero a e was = cc
value-from (suc n) a e was = absurd (no-refusal (sym e ∙ was))

module _ (cs : Checks) where
  pub passed : {A : Type 0} {x : Answer A} {b : A} (a : A) → x ≡ answered (refusal cs) a → x ≡ Ok b → 0 ≡ refusal cs
  passed a e was = zero-from (refusal cs) a e was

  pub told-by : {A : Type 0} {x : Answer A} {b : A} (a : A) → x ≡ answered (refusal cs) a → x ≡ Ok b → b ≡ a
  told-by a e was = value-from (refusal cs) a e was

  pub tells : {A : Type 0} {x a : A} → 0 ≡ refusal cs → x ≡ a → Ok x ≡ answered (refusal cs) a
  tells {x = x} {a = a} e p = ap (λ (n : ℕ). answered n x) e ∙ ap (λ y. answered (refusal cs) y) p

-- ---- calls that write

module _ {A B : Type 0} (cs : Checks) (a : A) (new old : B) where
  pub refused : {r : Refusal} → Err r ≡ checked cs → Gives (answered (refusal cs) a) (unless_refused (refusal cs) new old) (Err r) old
  refused e =
      record {
        answered = refuses cs a e;
        leaves = sym (kept-old (refusal cs) new old (λ z. no-refusal (e ∙ ap (λ (n : ℕ). answered n tt) z)));
      }

  pub done : {x : A} {after : B} → 0 ≡ refusal cs → x ≡ a → after ≡ new → Gives (answered (refusal cs) a) (unless_refused (refusal cs) new old) (Ok x) after
  done e p q = record { answered = tells cs e p; leaves = q ∙ sym (has_new (refusal cs) new old (sym e)) }

  -- a call that was accepted passed its checks, told this and left the new contents
  pub was-done : {x : A} {after : B} → Gives (answered (refusal cs) a) (unless_refused (refusal cs) new old) (Ok x) after
      → (refusal cs ≡ 0) × (x ≡ a) × (after ≡ new)
  was-done w =
      let z = sym (zero-from (refusal cs) a w.answered refl) in (z, value-from (refusal cs) a w.answered refl, w.leaves ∙ has_new (refusal cs) new old z)

pub was-written : {B : Type 0} (cs : Checks) (new old : B) {after : B} → Writes cs new old (Ok tt) after → (refusal cs ≡ 0) × (after ≡ new)
was-written cs new old w = let d = was-done cs tt new old w in (d.0, d.2)

pub ruleset answers = (handed_to, by-number, caught, stopped, went-on, refuses, passed, tells, refused, done)
