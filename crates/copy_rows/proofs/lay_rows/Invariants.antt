-- `copy_rows::lay_rows` meets its contract: a loop over a region of the larger plane, in which each row's part becomes that row.
-- Assumes nothing.
use Rattle.copy_checks.proofs.Copied.{Laying}
use Rattle.copy_rows.proofs.lay_rows.Given as goal

abbrev pub invariant-loop-i : goal.invariant-loop-i
invariant-loop-i g l = Laying l.plane l.initial.target l.rows l.cols l.pads.left l.pads.top l.wide l.target l.i
