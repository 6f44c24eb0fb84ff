-- Laws of boxes: a place is in a box where each number lies in the range of its side; a box with min above max contains nothing.
-- Assumes nothing.
use mathlib.Core.Path.{◌≡◌, refl, sym, ◌∙◌}
use mathlib.Core.Bool.{Bool, true, false, ◌&&◌}
use native.Mathlib.Omega.{arith}
use lib.IntN.{ℤ, pos, negsuc}
use lib.Signed.{le_z}
use borrow.Author.Tests.{leb-true, le-leb}
use Rattle.base.specs.Whole.{within_z}
use Rattle.base.proofs.Bools.{and_left, and_right, and-no-left, and-no-right, by-test, never}
use Rattle.rules.specs.Places.{in_box}
use Rattle.rules.specs.declared.World.{World}
use Rattle.rules.specs.declared.BoundingBox.{BoundingBox}

and_assoc : (a b d : Bool) → (a && (b && d)) ≡ ((a && b) && d)
and_assoc true b d = refl
and_assoc false b d = refl

-- the number of each side lies in its range
abbrev pub rows_of : BoundingBox → World → Bool
rows_of b w = within_z b.min.0 b.max.0 w.0

abbrev pub cols_of : BoundingBox → World → Bool
cols_of b w = within_z b.min.1 b.max.1 w.1

pub box-sides : (b : BoundingBox) (w : World) → (rows_of b w && cols_of b w) ≡ in_box b w
unfolding within_z in_box
box-sides b w = and_assoc (le_z b.min.0 w.0 && le_z w.0 b.max.0) (le_z b.min.1 w.1) (le_z w.1 b.max.1)

-- A box with min above max, in rows or in columns, contains nothing
le_z-trans : (x y z : ℤ) → le_z x y ≡ true → le_z y z ≡ true → le_z x z ≡ true
le_z-trans (pos a) (pos b) (pos c) p q = le-leb a c (omega (arith, leb-true a b p, leb-true b c q))
le_z-trans (pos a) (pos b) (negsuc c) p q = never false q refl
le_z-trans (pos a) (negsuc b) z p q = never false p refl
le_z-trans (negsuc a) y (pos c) p q = refl
le_z-trans (negsuc a) (pos b) (negsuc c) p q = never false q refl
le_z-trans (negsuc a) (negsuc b) (negsuc c) p q = le-leb c a (omega (arith, leb-true b a p, leb-true c b q))

empty-side : (least most z : ℤ) → le_z least most ≡ false → within_z least most z ≡ false
unfolding within_z
empty-side least most z e =
    by-test (le_z least z && le_z z most)
    (λ t. never (le_z least most) (le_z-trans least z most (and_left (le_z least z) (le_z z most) t) (and_right (le_z least z) (le_z z most) t)) e)
    (λ t. t)

pub empty-rows : (b : BoundingBox) (w : World) → le_z b.min.0 b.max.0 ≡ false → in_box b w ≡ false
empty-rows b w e = sym (box-sides b w) ∙ and-no-left (rows_of b w) (cols_of b w) (empty-side b.min.0 b.max.0 w.0 e)

pub empty-cols : (b : BoundingBox) (w : World) → le_z b.min.1 b.max.1 ≡ false → in_box b w ≡ false
empty-cols b w e = sym (box-sides b w) ∙ and-no-right (rows_of b w) (cols_of b w) (empty-side b.min.1 b.max.1 w.1 e)
