-- `check_contents::all_pass` meets its contract. The loop's invariant: the answer so far is the test of every entry passed, whatever function
-- the test's answers are of. Assumes nothing.
use mathlib.Core.Path.{◌≡◌}
use mathlib.Core.Bool.{Bool}
use lib.ListN.{get_or}
use Rattle.base.specs.Counting.{every}
use Rattle.check_contents.proofs.all_pass.Given as goal

abbrev pub invariant-loop-x : goal.invariant-loop-x
invariant-loop-x g l =
    (f : g.row.T.Denot → Bool) (none : g.row.T.Denot) → ((x : g.row.T.Denot) (r : Bool) → goal.F-post g l.test x r → r ≡ f x)
    → l.fine ≡ every l.x-index (λ k. f (get_or l.plane k none))
