-- `board_widen_checks::check_widen` meets its contract: each exit answers the first check that fails, by the parts that pass before it.
-- Assumes nothing.
use mathlib.Core.Path.{sym, ◌∙◌}
use native.Mathlib.Omega.{arith}
use Rattle.base.specs.Refusal.{◌unless◌}
use Rattle.base.proofs.Chain.{chain}
use Rattle.rules.specs.Bounds.{LENGTH}
use Rattle.rules.specs.Tests.{whole_tiles}
use Rattle.rules.specs.Tiles.{tiles_counted}
use Rattle.rules.proofs.Answered.{answers, handed_to, by-number, caught}
use Rattle.check_sizes.proofs.Tiled.{few-tiles, is_whole}
use Rattle.board_planes.proofs.Planes.{planes-as, contents-by}
use Rattle.board_widen_checks.proofs.Moved.{pads-low, offset-as, planes-passed, contents-passed}
use Rattle.board_widen_checks.proofs.check_widen.Goals as goal

pub returns-then-not-board_sides : goal.returns-then-not-board_sides
returns-then-not-board_sides c = search (chain, answers) depth 20 fits 5000

pub returns-then-not-larger_sides : goal.returns-then-not-larger_sides
returns-then-not-larger_sides c = search (chain, answers) depth 20 fits 5000

pub cells_of-requires : goal.cells_of-requires
cells_of-requires c = sym c.board_sides.ensures ∙ c.if-not-board_sides.false

pub returns-in_err-check_planes : goal.returns-in_err-check_planes
returns-in_err-check_planes c =
    handed_to c.from_residual.ensures
    (search (chain, answers, caught _ _ (planes-as _ _ _ _ _ c.check_planes.ensures c.cells_of.ensures) c.in_err-check_planes.was) depth 20 fits 5000)

pub returns-in_err-n : goal.returns-in_err-n
unfolding tiles_counted
returns-in_err-n c =
    handed_to c.from_residual-in_err-n.ensures
    (search (
      chain,
      answers,
      planes-passed _ _ _ _ _ c.check_planes.ensures c.cells_of.ensures c.in_ok-check_planes.was,
      caught (LENGTH unless whole_tiles c.args.tiles.now) _ c.tile_number.ensures c.in_err-n.was,
    ) depth 20 fits 5000)

pub larger_cells-room-requires : goal.larger_cells-room-requires
larger_cells-room-requires c = sym c.larger_sides.ensures ∙ c.if-not-larger_sides.false

pub returns-in_err-check_planes-2 : goal.returns-in_err-check_planes-2
returns-in_err-check_planes-2 c =
    handed_to c.from_residual-in_err-check_planes-2.ensures
    (search (
      chain,
      answers,
      planes-passed _ _ _ _ _ c.check_planes.ensures c.cells_of.ensures c.in_ok-check_planes.was,
      is_whole _ _ c.tile_number.ensures _ c.in_ok-n.was,
      caught _ _ (planes-as _ _ _ _ _ c.check_planes-2.ensures c.larger_cells-room.ensures) c.in_err-check_planes-2.was,
    ) depth 20 fits 5000)

pub check_cells-requires : goal.check_cells-requires
check_cells-requires c = few-tiles _ _ c.tile_number.ensures _ c.in_ok-n.was

pub returns-in_err-check_cells : goal.returns-in_err-check_cells
returns-in_err-check_cells c =
    handed_to c.from_residual-in_err-check_cells.ensures
    (search (
      chain,
      answers,
      planes-passed _ _ _ _ _ c.check_planes.ensures c.cells_of.ensures c.in_ok-check_planes.was,
      is_whole _ _ c.tile_number.ensures _ c.in_ok-n.was,
      planes-passed _ _ _ _ _ c.check_planes-2.ensures c.larger_cells-room.ensures c.in_ok-check_planes-2.was,
      caught _ _ (contents-by _ _ _ _ c.in_ok-n.was c.tile_number.ensures c.check_cells.ensures) c.in_err-check_cells.was,
    ) depth 20 fits 5000)

pub returns-then-not-offset_fits : goal.returns-then-not-offset_fits
returns-then-not-offset_fits c =
    by-number _
    (search (
      chain,
      planes-passed _ _ _ _ _ c.check_planes.ensures c.cells_of.ensures c.in_ok-check_planes.was,
      is_whole _ _ c.tile_number.ensures _ c.in_ok-n.was,
      planes-passed _ _ _ _ _ c.check_planes-2.ensures c.larger_cells-room.ensures c.in_ok-check_planes-2.was,
      contents-passed _ _ _ _ c.in_ok-n.was c.tile_number.ensures c.check_cells.ensures c.in_ok-check_cells.was,
    ) depth 20 fits 5000)

pub offset_after-requires : goal.offset_after-requires
offset_after-requires c =
    let low = pads-low c.args.rows c.args.cols c.args.pads (sym c.larger_sides.ensures ∙ c.if-not-larger_sides.false) in
    (sym c.offset_fits.ensures ∙ c.if-not-offset_fits.false, omega (arith, low.0), omega (arith, low.1))

pub returns-then-not-offset_fits-2 : goal.returns-then-not-offset_fits-2
returns-then-not-offset_fits-2 c =
    by-number _
    (search (
      chain,
      planes-passed _ _ _ _ _ c.check_planes.ensures c.cells_of.ensures c.in_ok-check_planes.was,
      is_whole _ _ c.tile_number.ensures _ c.in_ok-n.was,
      planes-passed _ _ _ _ _ c.check_planes-2.ensures c.larger_cells-room.ensures c.in_ok-check_planes-2.was,
      contents-passed _ _ _ _ c.in_ok-n.was c.tile_number.ensures c.check_cells.ensures c.in_ok-check_cells.was,
      offset-as,
    ) depth 20 fits 5000)

pub returns : goal.returns
returns c =
    search (
      chain,
      answers,
      planes-passed _ _ _ _ _ c.check_planes.ensures c.cells_of.ensures c.in_ok-check_planes.was,
      is_whole _ _ c.tile_number.ensures _ c.in_ok-n.was,
      planes-passed _ _ _ _ _ c.check_planes-2.ensures c.larger_cells-room.ensures c.in_ok-check_planes-2.was,
      contents-passed _ _ _ _ c.in_ok-n.was c.tile_number.ensures c.check_cells.ensures c.in_ok-check_cells.was,
      offset-as,
    ) depth 20 fits 5000
