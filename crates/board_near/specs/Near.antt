-- What loops over the span of radius 2 round a cell lean on, and the spans that `near_spans` gives. The calls themselves are stated by
-- document 01's definitions.
use Rattle.std.specs.Prelude.{ℕ, ◌+◌, ◌-◌, ◌*◌, ◌<◌, ◌≤◌, min, ◌≡◌, List, ◌+ℤ◌, length}
use Rattle.base.specs.Refusal.{refusal}
use Rattle.rules.specs.Bounds.{max_board_side}
use Rattle.rules.specs.Answers.{Answer, answered}
use Rattle.rules.specs.Places.{span_of}
use Rattle.rules.specs.Fit.{place_checks}
use Rattle.rules.specs.declared.World.{World}
use Rattle.rules.specs.declared.Offset.{Offset}
use Rattle.rules.specs.declared.Cell.{Cell}
use Rattle.rules.specs.declared.Span.{Span}
use Rattle.rules.specs.declared.Spans.{Spans}

-- a plane of a board in bounds, and a cell on it
pub record OnPlane (plane : List ℕ) (rows cols : ℕ) (cell : Cell) : Type 0 where
  pub tall : rows ≤ max_board_side
  pub wide : cols ≤ max_board_side
  pub long : length plane ≡ rows * cols
  pub rowwise : cell.0 < rows
  pub colwise : cell.1 < cols

-- the spans of radius 2 round a cell, their ends clipped to the sides
pub record Nearby (rows cols : ℕ) (cell : Cell) (spans : Spans) : Type 0 where
  pub top : spans.rows.0 ≡ cell.0 - 2
  pub bottom : spans.rows.1 ≡ min (cell.0 + 3) rows
  pub left : spans.cols.0 ≡ cell.1 - 2
  pub right : spans.cols.1 ≡ min (cell.1 + 3) cols

-- those spans of a place that has to lie on the board
abbrev pub end_clipped : ℕ → Span → Span
end_clipped side s = record { 0 = s.0; 1 = min s.1 side }

unfoldable pub near_spans : ℕ → ℕ → World → Offset → Answer Spans
near_spans rows cols place offset =
    answered
    (refusal (place_checks rows cols place offset))
    (record {
      rows = end_clipped rows (span_of (place.0 +ℤ offset.0) 2);
      cols = end_clipped cols (span_of (place.1 +ℤ offset.1) 2);
    })
