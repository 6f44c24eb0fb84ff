-- `place_extension::pads::last_of` meets its contract: each sum fits 64 bits, and stands for the definition's.
-- Assumes nothing.
use Rattle.base.proofs.Signs.{add-fits, sub-fits, added, subbed}
use Rattle.place_spans.proofs.Radius.{one-is}
use Rattle.rules.specs.Places.{last_of}
use Rattle.place_extension.proofs.Edges.{side-is, first-is}
use Rattle.place_extension.proofs.pads.last_of.Goals as goal

pub overflow_add-result : goal.overflow_add-result
overflow_add-result c = add-fits (first-is c.ranges.offset c.first_of.ensures) (side-is c.requires) tt

pub overflow_sub-result : goal.overflow_sub-result
overflow_sub-result c = sub-fits (added (first-is c.ranges.offset c.first_of.ensures) (side-is c.requires) tt) one-is tt

pub returns : goal.returns
unfolding last_of
returns c = (subbed (added (first-is c.ranges.offset c.first_of.ensures) (side-is c.requires) tt) one-is tt).is
