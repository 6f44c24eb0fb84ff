-- `probability_influence::Quotient` meets the contract of `change_row`: a sweep that ends where the row or its factors end. Assumes nothing.
use Prim.Native.Nat.{ℕ}
use lib.ListN.{get_or}
use lib.Ieee.{nan}
use Rattle.base.proofs.Sweep.{Sweep}
use Rattle.probability_influence.specs.Step.{divided_by}
use Rattle.probability_influence.proofs.QuotientChange.change_row.Given as goal

abbrev pub invariant-loop-j : goal.invariant-loop-j
invariant-loop-j l = Sweep nan (λ (i : ℕ). divided_by l.factors (get_or l.initial.row i nan) i) l.initial.row l.row l.j
