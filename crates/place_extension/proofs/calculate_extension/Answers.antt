-- `place_extension::calculate_extension` meets its contract: a refusal is handed on, and without one the pads are worked out.
-- Assumes nothing.
use mathlib.Core.Path.{◌∙◌, ap}
use Rattle.base.proofs.Chain.{chain}
use Rattle.rules.proofs.Answered.{answers, handed_to, tells}
use Rattle.rules.specs.Places.{extension_of, extension_by}
use Rattle.place_extension.proofs.Edges.{pads-low}
use Rattle.place_extension.proofs.Reach.{all-passed, reached}
use Rattle.place_extension.proofs.calculate_extension.Goals as goal

pub returns-in_err-check_extension : goal.returns-in_err-check_extension
unfolding extension_of
returns-in_err-check_extension c = handed_to c.from_residual.ensures (search (chain, answers, c.in_err-check_extension.was) depth 20 fits 5000)

pub pads_of-wanted-requires : goal.pads_of-wanted-requires
pads_of-wanted-requires c = reached _ _ _ _ _ c.check_extension.ensures c.in_ok-check_extension.was

pub extension_by-requires : goal.extension_by-requires
extension_by-requires c =
    let h = reached _ _ _ _ _ c.check_extension.ensures c.in_ok-check_extension.was in
    (h.fitting, pads-low _ _ _ _ _ c.pads_of-wanted.ensures h)

pub returns : goal.returns
unfolding extension_of
returns c =
    tells _ (all-passed _ _ _ _ _ c.check_extension.ensures c.in_ok-check_extension.was)
    (c.extension_by.ensures ∙ ap (extension_by c.args.offset) c.pads_of-wanted.ensures)
