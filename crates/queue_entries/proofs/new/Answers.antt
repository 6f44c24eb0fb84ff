-- `queue_entries::new` meets its contract, by evaluation: sixty-four entries that are 0 are the padding of no entry.
-- Assumes nothing.
use mathlib.Core.Path.{refl}
use Rattle.rules.specs.Forced.{queue_of, padded}
use Rattle.queue_entries.proofs.new.Goals as goal

pub returns : goal.returns
unfolding queue_of padded
returns c = refl
