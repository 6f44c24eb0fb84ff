-- `listing_steps::run_steps` meets its contract. The loop's invariant: the planes and the page keep their lengths, and what is left to do comes
-- to the whole.
-- Assumes nothing.
use mathlib.Core.Path.{◌≡◌}
use Prim.Native.Nat.{◌-◌}
use lib.ListN.{length}
use Rattle.rules.specs.Promises.{board}
use Rattle.listing_end.specs.Ending.{panel_with}
use Rattle.listing_steps.specs.Walks.{steps_from}
use Rattle.listing_steps.proofs.Walking.{Running}
use Rattle.listing_steps.proofs.run_steps.Given as goal

abbrev pub invariant-loop-p : goal.invariant-loop-p
invariant-loop-p l = (length l.pieces ≡ length l.initial.pieces) × (length l.weights ≡ length l.initial.weights) × (length l.counts ≡ length l.initial.counts) × (length l.out ≡ length l.initial.out) × Running (panel_with l.setup l.tiles) l.setup.count l.numbers (board l.initial.pieces l.initial.weights l.initial.counts) (steps_from l.numbers l.from) l.at l.initial.out l.p l.q (board l.pieces l.weights l.counts) l.out

abbrev pub decreases-loop-p : goal.decreases-loop-p
decreases-loop-p l = length l.numbers - l.p
