-- `fit_forced::beside` meets its contract: the sum fits 32 bits, since the coordinate is in bounds, and stands for the definition's.
-- Assumes nothing.
use lib.Dec.{lit<}
use lib.IntN.{pos, ◌+ℤ◌}
use mir.Syntax.{w32}
use mir.Val.{of_z}
use Rattle.base.proofs.Signs.{Reads, given, ranged, counted, add-fits, sub-fits, added, subbed, add_b}
use Rattle.fit_forced.proofs.beside.Goals.{Start}
use Rattle.fit_forced.proofs.beside.Goals as goal

module _ (c : Start) where
  coordinate-is : Reads w32 (of_z w32 c.args.coordinate) c.args.coordinate 1000001
  coordinate-is = given w32 (ranged 999999 1000000 c.args.coordinate c.requires.coordinate_value (lit< tt) (lit< tt)) tt

  step_is : Reads w32 c.args.step (pos c.args.step) 3
  step_is = counted w32 c.requires.step_bound tt

  sum_is : Reads w32 (add_b w32 (of_z w32 c.args.coordinate) c.args.step) (c.args.coordinate +ℤ pos c.args.step) 1000004
  sum_is = added coordinate-is step_is tt

one-is : Reads w32 1 (pos 1) 2
one-is = counted w32 (lit< tt) tt

pub overflow_add-result : goal.overflow_add-result
overflow_add-result c = add-fits (coordinate-is c) (step_is c) tt

pub overflow_sub-result : goal.overflow_sub-result
overflow_sub-result c = sub-fits (sum_is c) one-is tt

pub returns : goal.returns
returns c = (subbed (sum_is c) one-is tt).is
