-- `board_weights::lower_near` meets its contract: what the loop over the spans writes is what document 01 says of the whole plane.
-- Assumes nothing.
use mathlib.Core.Path.{◌∙◌}
use Rattle.board_weights.proofs.Shares.{lowered_is}
use Rattle.board_weights.proofs.lower_near.Goals as goal

pub returns : goal.returns
returns c = c.change_near.ensures ∙ lowered_is _ _ _ _ _ c.requires.0 c.requires.1
