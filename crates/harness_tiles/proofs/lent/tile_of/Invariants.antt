-- `harness_tiles::lent::tile_of` meets its contract: the loop fills the table entry by entry. Assumes nothing.
use mathlib.Core.Path.{◌≡◌}
use lib.ListN.{get_or}
use Rattle.base.proofs.Swept.{swept}
use Rattle.harness_tiles.proofs.lent.tile_of.Given as goal

abbrev pub invariant-loop-k : goal.invariant-loop-k
invariant-loop-k l = l.cell-items ≡ swept 0 l.k (λ i. get_or l.bytes i 0) l.initial.cell-items
