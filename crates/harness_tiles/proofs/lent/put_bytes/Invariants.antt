-- `harness_tiles::lent::put_bytes` meets its contract: at each turn what is left to store gives the whole. Assumes nothing.
use mathlib.Core.Path.{◌≡◌}
use lib.ListN.{drop}
use Rattle.harness_tiles.specs.Lent.{put_from}
use Rattle.harness_tiles.proofs.lent.put_bytes.Given as goal

abbrev pub invariant-loop-k : goal.invariant-loop-k
invariant-loop-k l = put_from l.k (drop l.k l.bytes) l.out ≡ put_from 0 l.bytes l.initial.out
