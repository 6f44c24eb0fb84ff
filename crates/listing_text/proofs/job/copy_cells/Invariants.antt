-- `listing_text::job::copy_cells` meets its contract. The loop's invariant: the cells passed hold their numbers, the others what they held.
-- Assumes nothing.
use mathlib.Core.Path.{◌≡◌}
use lib.ListN.{length}
use Rattle.base.proofs.Swept.{swept}
use Rattle.listing_text.specs.Runs.{cell_byte}
use Rattle.listing_text.proofs.job.copy_cells.Given as goal

abbrev pub invariant-loop-k : goal.invariant-loop-k
invariant-loop-k l = (length l.sample ≡ length l.initial.sample) × (l.sample ≡ swept 0 l.k (cell_byte l.numbers) l.initial.sample)
