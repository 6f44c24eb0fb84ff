-- `probability_normal::gather` meets its contract: a sweep, which reads another plane. Assumes nothing.
use Prim.Native.Nat.{ℕ, ◌+◌, ◌*◌}
use lib.ListN.{get_or}
use lib.Ieee.{nan}
use Rattle.base.proofs.Sweep.{Sweep}
use Rattle.probability_normal.proofs.gather.Given as goal

abbrev pub invariant-loop-t : goal.invariant-loop-t
invariant-loop-t l = Sweep nan (λ (j : ℕ). get_or l.plane (j * l.cells + l.at) nan) l.initial.out l.out l.t
