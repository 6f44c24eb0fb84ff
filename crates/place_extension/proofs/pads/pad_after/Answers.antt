-- `place_extension::pads::pad_after` meets its contract: each sum fits 64 bits, and stands for the definition's.
-- Assumes nothing.
use mathlib.Core.Path.{◌∙◌, ap}
use Rattle.base.specs.Whole.{clip}
use Rattle.rules.specs.Places.{pad_after}
use Rattle.base.proofs.Signs.{sub-fits, added, subbed}
use Rattle.places.proofs.Wide.{widened}
use Rattle.place_spans.proofs.Radius.{reach-is}
use Rattle.place_extension.proofs.Edges.{last-is}
use Rattle.place_extension.proofs.pads.pad_after.Goals as goal

pub overflow_sub-coordinate : goal.overflow_sub-coordinate
overflow_sub-coordinate c =
    sub-fits (added (widened c.ranges.coordinate) (reach-is c.requires.1) tt) (last-is c.ranges.offset c.requires.0 c.last_of.ensures) tt

pub returns : goal.returns
unfolding pad_after
returns c =
    c.clip_to.ensures
    ∙ ap clip
    (subbed (added (widened c.ranges.coordinate) (reach-is c.requires.1) tt) (last-is c.ranges.offset c.requires.0 c.last_of.ensures) tt).is
