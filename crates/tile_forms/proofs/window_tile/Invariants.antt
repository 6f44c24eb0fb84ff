-- `tile_forms::window_tile` meets its contract: the loop fills the table cell by cell. Assumes nothing.
use Prim.Native.Nat.{◌+◌, ◌/◌, ◌%◌}
use mathlib.Core.Path.{◌≡◌}
use Rattle.base.proofs.Swept.{swept}
use Rattle.rules.specs.Tiles.{sample_cell}
use Rattle.tile_forms.proofs.window_tile.Given as goal

abbrev pub invariant-loop-k : goal.invariant-loop-k
invariant-loop-k l = l.cell-items ≡ swept 0 l.k (λ i. sample_cell l.sample l.rows l.cols (l.r + i / 3) (l.c + i % 3)) l.initial.cell-items
