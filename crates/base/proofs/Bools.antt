-- Laws of tests: `&&`, `||`, and a test made by a function whose contract says what it answers.
-- Assumes nothing.
use Prim.Native.Nat.{ℕ}
use mathlib.Core.Path.{◌≡◌, refl, sym, ◌∙◌}
use mathlib.Core.Bool.{Bool, true, false, not, ◌&&◌, ◌||◌}
use native.Mathlib.Omega.{arith}
use borrow.Author.Tests.{not-true, not-false}
use Rattle.base.specs.Counting.{pick}

-- true is not false
pub never : {A : Type 0} (b : Bool) → b ≡ true → b ≡ false → A
never b p q = absurd (let z : ◌≡◌ {A = ℕ} 0 1 = cc in omega arith)

pub and_left : (a b : Bool) → (a && b) ≡ true → a ≡ true
and_left true b e = refl
and_left false b e = e

pub and_right : (a b : Bool) → (a && b) ≡ true → b ≡ true
and_right true b e = e
and_right false b e = never false e refl

pub and_both : (a b : Bool) → a ≡ true → b ≡ true → (a && b) ≡ true
and_both a b p q = rw (p, q)

pub and-no-left : (a b : Bool) → a ≡ false → (a && b) ≡ false
and-no-left a b p = rw p

pub and-no-right : (a b : Bool) → b ≡ false → (a && b) ≡ false
and-no-right true b p = p
and-no-right false b p = refl

pub or_right : (a b : Bool) → b ≡ true → (a || b) ≡ true
or_right true b p = refl
or_right false b p = p

pub or_left : (a b : Bool) → a ≡ true → (a || b) ≡ true
or_left a b p = rw p

-- what `if a { b } else { false }` answers
pub and-go : {r : Bool} (a b : Bool) → a ≡ true → r ≡ b → r ≡ (a && b)
and-go a b p q = rw p q

pub and-stop : (a b : Bool) → a ≡ false → false ≡ (a && b)
and-stop a b p = rw p

-- what `a && b` answers where a is not so; `and-go` says the other way out
pub and-halt : {r : Bool} (a b : Bool) → r ≡ a → r ≡ false → r ≡ (a && b)
and-halt a b e z = z ∙ and-stop a b (sym e ∙ z)

-- a test `!f(..)` that held, or did not, with what f ensures
pub fails : {r : Bool} (b : Bool) → r ≡ b → not r ≡ true → b ≡ false
fails {r} b e t = sym e ∙ not-true r t

pub passes : {r : Bool} (b : Bool) → r ≡ b → not r ≡ false → b ≡ true
passes {r} b e t = sym e ∙ not-false r t

pub not-is-true : (b : Bool) → b ≡ false → not b ≡ true
not-is-true b e = rw e

pub not-is-false : (b : Bool) → b ≡ true → not b ≡ false
not-is-false b e = rw e

-- a test and its equation
pub by-test : {A : Type 0} (b : Bool) → (b ≡ true → A) → (b ≡ false → A) → A
by-test true f g = f refl
by-test false f g = g refl

pub pick_yes : {A : Type 0} (t : Bool) (a b : A) → t ≡ true → pick t a b ≡ a
pick_yes t a b e = rw e

pub pick_no : {A : Type 0} (t : Bool) (a b : A) → t ≡ false → pick t a b ≡ b
pick_no t a b e = rw e

-- two tests that hold of each other are one
pub same_test : (a b : Bool) → (a ≡ true → b ≡ true) → (b ≡ true → a ≡ true) → a ≡ b
same_test true b f g = sym (f refl)
same_test false true f g = g refl
same_test false false f g = refl
