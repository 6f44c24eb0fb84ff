-- `check_contents::piece_stored` meets its contract: the two comparisons are the definition's. Assumes nothing.
use mathlib.Core.Path.{refl}
use Rattle.base.specs.Counting.{within}
use Rattle.check_contents.proofs.piece_stored.Goals as goal

pub returns : goal.returns
unfolding within
returns c = refl
