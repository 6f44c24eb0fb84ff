-- Two results that meet the contract of a function coincide.
-- Assumes nothing.
use Prim.Native.Nat.{ℕ}
use mathlib.Core.Path.{◌≡◌}
use Rattle.base.proofs.Chain.{coincide}
use Rattle.rules.specs.Grid.{cell_at, distance}
use Rattle.rules.specs.declared.World.{World}
use Rattle.rules.specs.declared.Offset.{Offset}
use Rattle.rules.specs.declared.Cell.{Cell}
use Rattle.board_near.specs.Near.{near_spans}
use Rattle.rules.specs.Answers.{Answer}
use Rattle.rules.specs.declared.Spans.{Spans}

pub near-spans : (rows cols : ℕ) (w : World) (o : Offset) {r s : Answer Spans} → r ≡ near_spans rows cols w o → s ≡ near_spans rows cols w o → r ≡ s
near-spans rows cols w o p q = coincide p q

pub distance-of : (cell : Cell) (row col : ℕ) {r s : ℕ} → r ≡ distance cell (cell_at row col) → s ≡ distance cell (cell_at row col) → r ≡ s
distance-of cell row col p q = coincide p q
