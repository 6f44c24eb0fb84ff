-- `board_widen::move_pieces` meets its contract: the plane is filled and the rows are laid in it. Assumes nothing.
use Rattle.board_widen.proofs.Pieces.{pieces-moved}
use Rattle.board_widen.proofs.move_pieces.Goals as goal

pub returns : goal.returns
returns c = pieces-moved _ _ _ _ _ (c.lay_rows.ensures 0) c.fill.ensures c.requires.room-is
