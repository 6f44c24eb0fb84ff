-- `listing_job::job::are_steps` meets its contract. The loop's invariant: what is left is whole exactly if all of it is. Assumes nothing.
use mathlib.Core.Path.{◌≡◌}
use Prim.Native.Nat.{◌-◌}
use lib.ListN.{length, drop}
use Rattle.listing_job.specs.Form.{steps_in, is_whole}
use Rattle.listing_job.proofs.Forming.{whole_from}
use Rattle.listing_job.proofs.job.are_steps.Given as goal

abbrev pub invariant-loop-p : goal.invariant-loop-p
invariant-loop-p l = whole_from l.numbers l.p ≡ is_whole (steps_in (drop l.from l.numbers))

abbrev pub decreases-loop-p : goal.decreases-loop-p
decreases-loop-p l = length l.numbers - l.p
