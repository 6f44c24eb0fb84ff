-- `place_extension::pads::pad_before` meets its contract: each difference fits 64 bits, and stands for the definition's.
-- Assumes nothing.
use mathlib.Core.Path.{◌∙◌, ap}
use Rattle.base.specs.Whole.{clip}
use Rattle.rules.specs.Places.{pad_before}
use Rattle.base.proofs.Signs.{sub-fits, subbed}
use Rattle.places.proofs.Wide.{widened}
use Rattle.place_spans.proofs.Radius.{reach-is}
use Rattle.place_extension.proofs.Edges.{first-is}
use Rattle.place_extension.proofs.pads.pad_before.Goals as goal

pub overflow_sub-first_of : goal.overflow_sub-first_of
overflow_sub-first_of c =
    sub-fits (first-is c.ranges.offset c.first_of.ensures) (subbed (widened c.ranges.coordinate) (reach-is c.requires) tt) tt

pub returns : goal.returns
unfolding pad_before
returns c =
    c.clip_to.ensures
    ∙ ap clip (subbed (first-is c.ranges.offset c.first_of.ensures) (subbed (widened c.ranges.coordinate) (reach-is c.requires) tt) tt).is
