-- `probability_normal::share_out` meets its contract: a sweep. Assumes nothing.
use Prim.Native.Nat.{ℕ}
use lib.ListN.{get_or}
use lib.Ieee.{nan}
use Rattle.base.proofs.Sweep.{Sweep}
use Rattle.rules.specs.Floats.{over}
use Rattle.probability_normal.proofs.share_out.Given as goal

abbrev pub invariant-loop-p : goal.invariant-loop-p
invariant-loop-p l = Sweep nan (λ (j : ℕ). over (over (get_or l.initial.ps j nan) l.most) l.sum) l.initial.ps l.ps l.p-index
