-- `fit_forced::neighbour_at` meets its contract: the step along each side. Assumes nothing.
use mathlib.Core.Path.{◌≡◌, ◌∙◌}
use mathlib.Core.Bool.{true}
use native.Mathlib.Omega.{arith}
use lib.IntN.{ℤ}
use Rattle.base.specs.Whole.{within_z}
use Rattle.base.proofs.Bools.{and_left, and_right}
use Rattle.rules.specs.Bounds.{min_coordinate, max_coordinate}
use Rattle.rules.specs.Tests.{on_wall}
use Rattle.rules.specs.Forced.{neighbour}
use Rattle.rules.specs.declared.World.{World}
use Rattle.places.proofs.Wide.{same}
use Rattle.fit_forced.proofs.neighbour_at.Goals as goal

both-on : (w : World) → on_wall w ≡ true → (within_z min_coordinate max_coordinate w.0 ≡ true) × (within_z min_coordinate max_coordinate w.1 ≡ true)
unfolding on_wall
both-on w e = let f = within_z min_coordinate max_coordinate in (and_left (f w.0) (f w.1) e, and_right (f w.0) (f w.1) e)

both : {a b x y : ℤ} → a ≡ x → b ≡ y → ◌≡◌ {A = World} (record { 0 = a; 1 = b }) (record { 0 = x; 1 = y })
both p q = rw (p, q)

pub beside-requires-clause-coordinate_value : goal.beside-requires-clause-coordinate_value
beside-requires-clause-coordinate_value c =
    let w = c.args.place in
    rw (same {z = w.0} (omega arith)) (both-on w c.requires.place_value).0

pub beside-requires-2-clause-coordinate_value : goal.beside-requires-2-clause-coordinate_value
beside-requires-2-clause-coordinate_value c =
    let w = c.args.place in
    rw (same {z = w.1} (omega arith)) (both-on w c.requires.place_value).1

pub returns : goal.returns
unfolding neighbour
returns c =
    let w = c.args.place in
    both
    (same {z = c.beside.result} c.beside.type_inv ∙ rw (same {z = w.0} (omega arith)) at c.beside.ensures)
    (same {z = c.beside-2.result} c.beside-2.type_inv ∙ rw (same {z = w.1} (omega arith)) at c.beside-2.ensures)
