-- `copy_rows::lay_row` meets its contract. The loop's invariant: as many entries as were passed are the row's. Assumes nothing.
use mathlib.Core.Path.{◌≡◌}
use lib.ListN.{take}
use Rattle.copy_rows.proofs.lay_row.Given as goal

abbrev pub invariant-loop-j : goal.invariant-loop-j
invariant-loop-j g l = take l.j l.part ≡ take l.j l.row
