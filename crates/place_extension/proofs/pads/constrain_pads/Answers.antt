-- `place_extension::pads::constrain_pads` meets its contract: each pad is held to its side of the box.
-- Assumes nothing.
use native.Mathlib.Omega.{arith}
use mathlib.Core.Path.{◌∙◌}
use Rattle.rules.specs.Places.{boxed_before, boxed_after, boxed_pads}
use Rattle.check_sizes.proofs.Sides.{board-rows, board-cols}
use Rattle.places.proofs.Wide.{same-two}
use Rattle.place_extension.proofs.Edges.{four}
use Rattle.place_extension.proofs.pads.constrain_pads.Goals as goal

pub boxed_after-requires : goal.boxed_after-requires
boxed_after-requires c = ((board-rows _ _ c.requires.0).1, c.requires.1.right-in)

pub boxed_after-requires-2 : goal.boxed_after-requires-2
boxed_after-requires-2 c = ((board-cols _ _ c.requires.0).1, c.requires.1.bottom-in)

pub returns : goal.returns
unfolding boxed_pads
returns c =
    let a = c.args in
    let p = a.pads in
    four
    (c.boxed_before.ensures
    ∙ same-two (λ b o. boxed_before b o p.left) a.bounds.min.0 a.offset.0 (omega arith) (omega arith))
    (c.boxed_after.ensures
    ∙ same-two (λ b o. boxed_after b a.rows o p.right) a.bounds.max.0 a.offset.0 (omega arith) (omega arith))
    (c.boxed_before-2.ensures
    ∙ same-two (λ b o. boxed_before b o p.top) a.bounds.min.1 a.offset.1 (omega arith) (omega arith))
    (c.boxed_after-2.ensures
    ∙ same-two (λ b o. boxed_after b a.cols o p.bottom) a.bounds.max.1 a.offset.1 (omega arith) (omega arith))
