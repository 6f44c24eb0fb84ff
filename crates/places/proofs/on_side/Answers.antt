-- `places::on_side` meets its contract: the index, held to the side.
-- Assumes nothing.
use mathlib.Core.Path.{◌∙◌, ap}
use Rattle.base.specs.Whole.{index_below}
use Rattle.places.proofs.Wide.{index_is}
use Rattle.places.proofs.on_side.Goals as goal

pub returns : goal.returns
returns c =
    let s = c.before.before in
    c.index_below.ensures ∙ ap (index_below s.args.side) (index_is s.ranges.coordinate s.ranges.offset c.before.signed_index.ensures).is
