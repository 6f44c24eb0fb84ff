-- `probability_influence::change_colours` meets its contract: a sweep, colour by colour. Assumes nothing.
use Prim.Native.Nat.{ℕ, ◌*◌, ◌/◌, ◌%◌}
use lib.ListN.{get_or}
use lib.Ieee.{nan}
use Rattle.base.proofs.Sweep.{Sweep}
use Rattle.probability_influence.specs.Step.{region_in, block_of}
use Rattle.probability_influence.proofs.change_colours.Given as goal

abbrev pub invariant-loop-t : goal.invariant-loop-t
invariant-loop-t g l =
    Sweep nan
    (λ (q : ℕ).
    g.C.Change.cell (region_in l.spans.rows l.spans.cols) (block_of l.brows l.bcols l.block) (get_or l.initial.plane q nan) (q / l.cells) (q % l.cells / l.cols) (q % l.cells % l.cols))
    l.initial.plane l.plane (l.t * l.cells)
