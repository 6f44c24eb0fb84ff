-- `probability_influence::Product` meets the contract of `change_row`: a sweep. Assumes nothing.
use Prim.Native.Nat.{ℕ}
use lib.ListN.{get_or}
use lib.Ieee.{nan}
use Rattle.base.proofs.Sweep.{Sweep}
use Rattle.probability_influence.specs.Step.{multiplied_by}
use Rattle.probability_influence.proofs.ProductChange.change_row.Given as goal

abbrev pub invariant-loop-j : goal.invariant-loop-j
invariant-loop-j l = Sweep nan (λ (i : ℕ). multiplied_by l.factors (get_or l.initial.row i nan) i) l.initial.row l.row l.j
