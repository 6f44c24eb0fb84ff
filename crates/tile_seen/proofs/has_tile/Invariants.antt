-- `tile_seen::has_tile` meets its contract: the walk along the chain of the bucket. Assumes nothing.
use Rattle.tile_seen.proofs.Buckets.{Searching}
use Rattle.tile_seen.proofs.has_tile.Given as goal

abbrev pub invariant-loop-last : goal.invariant-loop-last
invariant-loop-last l = Searching l.tiles l.tile l.last

abbrev pub decreases-loop-last : goal.decreases-loop-last
decreases-loop-last l = l.last
