-- `board_forced::check_board` meets its contract: the lengths, the tiles, and the contents by their number. Assumes nothing.
use Rattle.base.proofs.Chain.{chain, pass-by}
use Rattle.rules.proofs.Answered.{answers, handed_to, passed, then-part}
use Rattle.check_sizes.proofs.Lengths.{lengths}
use Rattle.check_sizes.proofs.Tiled.{is_whole, few-tiles}
use Rattle.board_planes.proofs.Planes.{contents-by}
use Rattle.board_forced.proofs.check_board.Goals as goal

pub returns-in_err-check_lengths : goal.returns-in_err-check_lengths
returns-in_err-check_lengths c =
    λ offset. handed_to c.from_residual.ensures (search (chain, answers, c.in_err-check_lengths.was) depth 20 fits 5000)

pub returns-in_default : goal.returns-in_default
returns-in_default c =
    λ offset. search (chain, answers, lengths, passed _ _ c.check_lengths.ensures c.in_ok-check_lengths.was) depth 20 fits 5000

pub check_cells-requires : goal.check_cells-requires
check_cells-requires c = few-tiles _ _ c.tile_number.ensures _ c.in-Ok.is

pub returns : goal.returns
returns c =
    λ offset.
    then-part _ _ (passed _ _ c.check_lengths.ensures c.in_ok-check_lengths.was)
    (then-part _ _ (pass-by 2 _ (is_whole _ _ c.tile_number.ensures _ c.in-Ok.is))
    (contents-by _ _ _ _ c.in-Ok.is c.tile_number.ensures c.check_cells.ensures))
