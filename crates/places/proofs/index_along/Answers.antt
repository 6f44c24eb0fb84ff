-- `places::index_along` meets its contract: the index, clipped.
-- Assumes nothing.
use mathlib.Core.Path.{◌∙◌, ap}
use Rattle.base.specs.Whole.{clip}
use Rattle.places.proofs.Wide.{index_is}
use Rattle.places.proofs.index_along.Goals as goal

pub returns : goal.returns
returns c =
    let f = c.before.before.ranges in
    c.clip_to.ensures ∙ ap clip (index_is f.coordinate f.offset c.before.signed_index.ensures).is
