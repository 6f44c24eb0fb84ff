-- `tile_seen::bucket_of` meets its contract: the loop takes cell after cell. Assumes nothing.
use Prim.Native.Nat.{◌<◌}
use mathlib.Core.Path.{◌≡◌}
use lib.ListN.{get_or}
use Rattle.tile_seen.specs.Chains.{buckets, bucket_to}
use Rattle.tile_seen.proofs.bucket_of.Given as goal

abbrev pub invariant-loop-cell : goal.invariant-loop-cell
invariant-loop-cell l = (l.bucket < buckets) × (l.bucket ≡ bucket_to (λ i. get_or l.tile i 0) l.cell-index)
