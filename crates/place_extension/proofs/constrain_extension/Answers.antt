-- `place_extension::constrain_extension` meets its contract: a refusal is handed on, then the box is asked, then the pads are held to it.
-- Assumes nothing.
use mathlib.Core.Path.{◌∙◌, ap}
use Rattle.base.proofs.Chain.{chain}
use Rattle.rules.proofs.Answered.{answers, handed_to, tells}
use Rattle.rules.specs.Places.{boxed_extension, extension_by, boxed_pads}
use Rattle.place_extension.proofs.Edges.{pads-low, boxed-low}
use Rattle.place_extension.proofs.Reach.{all-passed, reached}
use Rattle.place_extension.proofs.constrain_extension.Goals as goal

pub returns-in_err-check_extension : goal.returns-in_err-check_extension
unfolding boxed_extension
returns-in_err-check_extension c = handed_to c.from_residual.ensures (search (chain, answers, c.in_err-check_extension.was) depth 20 fits 5000)

pub returns-then-not-box_fits : goal.returns-then-not-box_fits
unfolding boxed_extension
returns-then-not-box_fits c = search (chain, answers, all-passed _ _ _ _ _ c.check_extension.ensures c.in_ok-check_extension.was) depth 20 fits 5000

pub pads_of-wanted-requires : goal.pads_of-wanted-requires
pads_of-wanted-requires c = reached _ _ _ _ _ c.check_extension.ensures c.in_ok-check_extension.was

pub constrain_pads-granted-requires : goal.constrain_pads-granted-requires
constrain_pads-granted-requires c =
    let h = reached _ _ _ _ _ c.check_extension.ensures c.in_ok-check_extension.was in
    (h.sides, pads-low _ _ _ _ _ c.pads_of-wanted.ensures h)

pub extension_by-requires : goal.extension_by-requires
extension_by-requires c =
    let h = reached _ _ _ _ _ c.check_extension.ensures c.in_ok-check_extension.was in
    (h.fitting, boxed-low _ _ _ _ _ c.constrain_pads-granted.ensures (pads-low _ _ _ _ _ c.pads_of-wanted.ensures h))

pub returns : goal.returns
unfolding boxed_extension
returns c =
    let a = c.args in
    tells _ (search (chain, all-passed _ _ _ _ _ c.check_extension.ensures c.in_ok-check_extension.was) depth 20 fits 5000)
    (c.extension_by.ensures
    ∙ ap (extension_by a.offset) (c.constrain_pads-granted.ensures ∙ ap (boxed_pads a.bounds a.rows a.cols a.offset) c.pads_of-wanted.ensures))
