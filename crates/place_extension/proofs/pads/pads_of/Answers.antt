-- `place_extension::pads::pads_of` meets its contract: a pad for each end of each side.
-- Assumes nothing.
use native.Mathlib.Omega.{arith}
use mathlib.Core.Path.{◌∙◌}
use Rattle.rules.specs.Places.{pad_before, pad_after, pads_of}
use Rattle.check_sizes.proofs.Sides.{board-rows, board-cols}
use Rattle.places.proofs.Wide.{same-two}
use Rattle.place_extension.proofs.Edges.{four}
use Rattle.place_extension.proofs.pads.pads_of.Goals as goal

pub pad_after-requires : goal.pad_after-requires
pad_after-requires c = ((board-rows _ _ c.requires.sides).1, c.requires.near)

pub pad_after-requires-2 : goal.pad_after-requires-2
pad_after-requires-2 c = ((board-cols _ _ c.requires.sides).1, c.requires.near)

pub returns : goal.returns
unfolding pads_of
returns c =
    let a = c.args in
    let k = a.radius in
    four
    (c.pad_before.ensures
    ∙ same-two (λ x o. pad_before o x k) a.place.0 a.offset.0 (omega arith) (omega arith))
    (c.pad_after.ensures
    ∙ same-two (λ x o. pad_after a.rows o x k) a.place.0 a.offset.0 (omega arith) (omega arith))
    (c.pad_before-2.ensures
    ∙ same-two (λ x o. pad_before o x k) a.place.1 a.offset.1 (omega arith) (omega arith))
    (c.pad_after-2.ensures
    ∙ same-two (λ x o. pad_after a.cols o x k) a.place.1 a.offset.1 (omega arith) (omega arith))
