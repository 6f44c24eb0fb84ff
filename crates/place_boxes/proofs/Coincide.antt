-- Two results that meet the contract of a public call coincide.
-- Assumes nothing.
use mathlib.Core.Path.{◌≡◌}
use mathlib.Core.Bool.{Bool}
use Rattle.base.proofs.Chain.{coincide}
use Rattle.rules.specs.Places.{in_box, box_fits, box_contains}
use Rattle.rules.specs.declared.World.{World}
use Rattle.rules.specs.declared.BoundingBox.{BoundingBox}
use Rattle.rules.specs.Answers.{Answer}

pub in-box : (b : BoundingBox) (w : World) {r s : Bool} → r ≡ in_box b w → s ≡ in_box b w → r ≡ s
in-box b w p q = coincide p q

pub box-fits : (b : BoundingBox) {r s : Bool} → r ≡ box_fits b → s ≡ box_fits b → r ≡ s
box-fits b p q = coincide p q

pub contains : (b : BoundingBox) (w : World) {r s : Answer Bool} → r ≡ box_contains b w → s ≡ box_contains b w → r ≡ s
contains b w p q = coincide p q
