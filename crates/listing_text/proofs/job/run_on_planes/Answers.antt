-- `listing_text::job::run_on_planes` meets its contract: a board has 1,024 cells at the most, so each plane holds them. Assumes nothing.
use mathlib.Core.Path.{sym}
use native.Mathlib.Omega.{arith}
use lib.ListN.{length-take}
use Rattle.listing_text.proofs.Telling.{board-few, board-sides}
use Rattle.listing_end.specs.Ending.{panel_with}
use Rattle.listing_text.proofs.job.run_on_planes.Goals as goal

pub overflow_mul-cells : goal.overflow_mul-cells
overflow_mul-cells c = omega (arith, board-few c.args.setup.board.rows c.args.setup.board.cols c.requires.1)

pub slice_bounds-pieces-end : goal.slice_bounds-pieces-end
slice_bounds-pieces-end c = omega (arith, board-few c.args.setup.board.rows c.args.setup.board.cols c.requires.1)

pub slice_bounds-run-end : goal.slice_bounds-run-end
slice_bounds-run-end c = sym (simp length-take (omega (arith, board-few c.args.setup.board.rows c.args.setup.board.cols c.requires.1)))

pub slice_bounds-weights-end : goal.slice_bounds-weights-end
slice_bounds-weights-end c = omega (arith, board-few c.args.setup.board.rows c.args.setup.board.cols c.requires.1)

pub slice_bounds-run-end-2 : goal.slice_bounds-run-end-2
slice_bounds-run-end-2 c = sym (simp length-take (omega (arith, board-few c.args.setup.board.rows c.args.setup.board.cols c.requires.1)))

pub slice_bounds-counts-end : goal.slice_bounds-counts-end
slice_bounds-counts-end c = omega (arith, board-few c.args.setup.board.rows c.args.setup.board.cols c.requires.1)

pub slice_bounds-run-end-3 : goal.slice_bounds-run-end-3
slice_bounds-run-end-3 c = sym (simp length-take (omega (arith, board-few c.args.setup.board.rows c.args.setup.board.cols c.requires.1)))

pub run-requires : goal.run-requires
unfolding panel_with
run-requires c = let few = board-few c.args.setup.board.rows c.args.setup.board.cols c.requires.1 in (record { sides = board-sides _ _ c.requires.1; tiles = c.requires.0; pieces = simp length-take (omega (arith, few)); weights = simp length-take (omega (arith, few)); counts = simp length-take (omega (arith, few)) }, c.requires.2)
