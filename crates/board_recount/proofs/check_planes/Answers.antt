-- `board_recount::check_planes` meets its contract: a chain of checks, of which the tiles' is an answer taken apart. Assumes nothing.
use mathlib.Core.Path.{sym, ◌∙◌}
use Rattle.base.proofs.Chain.{chain}
use Rattle.rules.proofs.Answered.{answers, handed_to, caught, then-part}
use Rattle.check_sizes.proofs.Lengths.{lengths}
use Rattle.check_sizes.proofs.Tiled.{few-tiles, is_whole}
use Rattle.base.specs.Refusal.{◌unless◌}
use Rattle.rules.specs.Bounds.{LENGTH}
use Rattle.rules.specs.Tests.{whole_tiles}
use Rattle.rules.specs.Tiles.{tiles_counted}
use Rattle.board_recount.proofs.Leaning.{counted-by}
use Rattle.board_recount.proofs.check_planes.Goals as goal

pub returns-then-not-board_sides : goal.returns-then-not-board_sides
returns-then-not-board_sides c = search (chain, answers, lengths) depth 20 fits 5000

pub cells_of-cells-requires : goal.cells_of-cells-requires
cells_of-cells-requires c = sym c.board_sides.ensures ∙ c.if-not-board_sides.false

pub returns-then-not-has_length : goal.returns-then-not-has_length
returns-then-not-has_length c = search (chain, answers, lengths) depth 20 fits 5000

pub returns-then-not-has_length-2 : goal.returns-then-not-has_length-2
returns-then-not-has_length-2 c = search (chain, answers, lengths) depth 20 fits 5000

pub returns-in_err-n : goal.returns-in_err-n
unfolding tiles_counted
returns-in_err-n c =
    let a = c.args in
    handed_to c.from_residual.ensures
    (search (chain, answers, lengths, caught (LENGTH unless whole_tiles a.tiles.now) _ c.tile_number.ensures c.in_err-n.was) depth 20 fits 5000)

pub check_counted-requires : goal.check_counted-requires
check_counted-requires c = few-tiles _ _ c.tile_number.ensures _ c.in_ok-n.was

pub returns : goal.returns
returns c =
    search (chain, answers, lengths, then-part, counted-by _ _ _ _ _ c.in_ok-n.was c.tile_number.ensures c.check_counted.ensures, is_whole _ _ c.tile_number.ensures _ c.in_ok-n.was)
    depth 20 fits 5000
