-- `place_boxes::in_box` meets its contract: the column is asked only where the row lies in the box.
-- Assumes nothing.
use mathlib.Core.Path.{◌≡◌, sym, ◌∙◌}
use Prim.Native.Nat.{◌^◌, ◌<◌}
use lib.IntN.{ℤ}
use lib.Signed.{mag}
use mir.Syntax.{w32}
use mir.Val.{to_z, of_z}
use native.Mathlib.Omega.{arith}
use Rattle.base.specs.Whole.{within_z}
use Rattle.base.proofs.Bools.{and-go, and-halt}
use Rattle.places.proofs.Wide.{same}
use Rattle.place_boxes.proofs.Boxes.{box-sides}
use Rattle.place_boxes.proofs.in_box.Goals as goal

-- three numbers that are handed on to a test
within-same : (x y z : ℤ) → mag x < 2 ^ 31 → mag y < 2 ^ 31 → mag z < 2 ^ 31
    → within_z (to_z w32 (of_z w32 x)) (to_z w32 (of_z w32 y)) (to_z w32 (of_z w32 z)) ≡ within_z x y z
within-same x y z h k l = rw (same {z = x} h, same {z = y} k, same {z = z} l)

pub returns-then-in_range : goal.returns-then-in_range
returns-then-in_range c =
    let b = c.args.bounds in
    let w = c.args.place in
    and-go _ _
    (sym (c.in_range.ensures ∙ within-same b.min.0 b.max.0 w.0 (omega arith) (omega arith) (omega arith)) ∙ c.if-in_range.true)
    (c.in_range-then-in_range.ensures ∙ within-same b.min.1 b.max.1 w.1 (omega arith) (omega arith) (omega arith))
    ∙ box-sides b w

pub returns-else-in_range : goal.returns-else-in_range
returns-else-in_range c =
    let b = c.args.bounds in
    let w = c.args.place in
    and-halt _ _ (c.in_range.ensures ∙ within-same b.min.0 b.max.0 w.0 (omega arith) (omega arith) (omega arith)) c.if-in_range.false ∙ box-sides b w
