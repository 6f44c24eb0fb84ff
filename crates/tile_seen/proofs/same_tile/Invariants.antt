-- `tile_seen::same_tile` meets its contract: a search that leaves at the first difference. Assumes nothing.
use Prim.Native.Nat.{◌+◌, ◌*◌}
use mathlib.Core.Path.{◌≡◌}
use mathlib.Core.Bool.{true}
use lib.Dec.{eqb}
use lib.ListN.{get_or}
use Rattle.base.specs.Counting.{every}
use Rattle.tile_seen.proofs.same_tile.Given as goal

abbrev pub invariant-loop-k : goal.invariant-loop-k
invariant-loop-k l = every l.k (λ i. eqb (get_or l.tiles (l.n * 9 + i) 0) (get_or l.tile i 0)) ≡ true
