-- `copy_checks::check_copy` meets its contract: each exit answers the first check that fails.
-- Assumes nothing.
use Rattle.base.proofs.Bools.{passes}
use Rattle.base.proofs.Chain.{chain}
use Rattle.rules.proofs.Answered.{answers}
use Rattle.copy_checks.proofs.Sides.{lengths}
use Rattle.copy_checks.proofs.check_copy.Goals as goal

pub returns-then-not-board_sides : goal.returns-then-not-board_sides
returns-then-not-board_sides c = search (chain, answers) depth 20 fits 5000

pub returns-then-not-larger_sides : goal.returns-then-not-larger_sides
returns-then-not-larger_sides c = search (chain, answers) depth 20 fits 5000

pub cells_of-requires : goal.cells_of-requires
cells_of-requires c = search passes

pub returns-then-held-cells_of : goal.returns-then-held-cells_of
returns-then-held-cells_of c = search (chain, answers, lengths) depth 20 fits 5000

pub larger_cells-requires : goal.larger_cells-requires
larger_cells-requires c = search passes

pub returns-then-room-larger_cells : goal.returns-then-room-larger_cells
returns-then-room-larger_cells c = search (chain, answers, lengths) depth 20 fits 5000

pub returns : goal.returns
returns c = search (chain, answers, lengths) depth 20 fits 5000
