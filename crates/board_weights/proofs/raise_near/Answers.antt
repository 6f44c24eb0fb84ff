-- `board_weights::raise_near` meets its contract: what the loop over the spans writes is what document 01 says of the whole plane.
-- Assumes nothing.
use mathlib.Core.Path.{◌∙◌}
use Rattle.board_weights.proofs.Shares.{raised_is}
use Rattle.board_weights.proofs.raise_near.Goals as goal

pub returns : goal.returns
returns c = c.change_near.ensures ∙ raised_is _ _ _ _ _ c.requires.0 c.requires.1
