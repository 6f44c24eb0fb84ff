-- Document 01, "Probabilities". All probabilities stand in one plane, colour by colour, each row by row; an influence block likewise.
use Rattle.std.specs.Prelude.{ℕ, ◌+◌, ◌-◌, ◌*◌, ◌/◌, ◌%◌, min, Bool, ◌&&◌, List, map, leb, ltb, length, get_or, Float}
use Rattle.std.specs.Float.{nan}
use Rattle.std.specs.Float.Ieee.{lt, ne}
use Rattle.base.specs.Counting.{pick, within}
use Rattle.base.specs.Tables.{tab, fold}
use Rattle.base.specs.Refusal.{Checks, ◌unless◌, ◌then◌}
use Rattle.rules.specs.Bounds.{max_radius, max_influence_side, SHAPE, LENGTH, COUNT, NUMBER, PLACE}
use Rattle.rules.specs.Tests.{board_sides, has_length, colour_count, row_index, col_index, on_wall, offset_fits, on_board}
use Rattle.rules.specs.Places.{cell_of, span_of}
use Rattle.rules.specs.Grid.{cell_at, entry_of}
use Rattle.rules.specs.Fit.{place_checks}
use Rattle.rules.specs.Floats.{zero64, one64, inf64, plus, times, over, float_of, is_number, is_finite, all_are}
use Rattle.rules.specs.Scores.{in_span}
use Rattle.rules.specs.declared.World.{World}
use Rattle.rules.specs.declared.Offset.{Offset}
use Rattle.rules.specs.declared.Span.{Span}

-- ---- normalising

-- the largest, 0.0 at the least
abbrev pub larger : Float → Float → Float
larger a b = pick (lt a b) b a

unfoldable pub largest_of : List Float → Float
largest_of ps = fold larger zero64 ps

-- p / largest, summed by colour upwards from 0.0
abbrev pub plus_share : Float → Float → Float → Float
plus_share largest a p = plus a (over p largest)

unfoldable pub total_of : Float → List Float → Float
total_of largest ps = fold (plus_share largest) zero64 ps

-- if the largest is 0 or infinite, each answer is 1.0 / count; otherwise p / largest / total
abbrev pub usable : Float → Bool
usable largest = lt zero64 largest && lt largest inf64

unfoldable pub normalised : List Float → List Float
normalised ps =
    let largest : Float = largest_of ps in
    pick (usable largest)
    (map (λ p. over (over p largest) (total_of largest ps)) ps)
    (map (λ p. over one64 (float_of (length ps))) ps)

-- the probabilities of a place, colour by colour; one off the board counts as all zeros
unfoldable pub probabilities_at : List Float → ℕ → ℕ → ℕ → World → Offset → List Float
probabilities_at plane rows cols count place offset =
    tab count (λ t. pick (on_board rows cols place offset) (get_or plane (t * (rows * cols) + entry_of cols (cell_of place offset)) nan) zero64)

abbrev pub normalise_checks : List Float → ℕ → ℕ → ℕ → World → Offset → List Float → Checks
normalise_checks plane rows cols count place offset out =
    SHAPE unless board_sides rows cols
    then LENGTH unless has_length plane (count * (rows * cols))
    then LENGTH unless has_length out count
    then COUNT unless colour_count count
    then NUMBER unless all_are is_number plane
    then PLACE unless on_wall place
    then PLACE unless offset_fits offset

-- ---- the product step and its reverse

-- the chosen colour's influence block: its sides and its entries
pub record Block : Type 0 where
  pub rows : ℕ
  pub cols : ℕ
  pub entries : List Float

-- the clipped region: the spans of the radius, clipped to the board
pub record Region : Type 0 where
  pub rows : Span
  pub cols : Span

abbrev pub clipped_to : ℕ → Span → Span
clipped_to side s = record { 0 = min s.0 side; 1 = min s.1 side }

unfoldable pub region_of : ℕ → ℕ → World → Offset → ℕ → Region
region_of rows cols place offset k =
    record { rows = clipped_to rows (span_of (row_index place offset) k); cols = clipped_to cols (span_of (col_index place offset) k) }

-- the block's entry (0, 0) goes to the first cell of the clipped region
abbrev pub in_region : Region → ℕ → ℕ → Bool
in_region g r c = in_span g.rows r && in_span g.cols c

abbrev pub in_block : Region → Block → ℕ → ℕ → Bool
in_block g b r c = ltb (r - g.rows.0) b.rows && ltb (c - g.cols.0) b.cols

unfoldable pub influence : Region → Block → ℕ → ℕ → ℕ → Float
influence g b t r c = get_or b.entries (t * (b.rows * b.cols) + entry_of b.cols (cell_at (r - g.rows.0) (c - g.cols.0))) nan

-- beyond the block the factor is 1.0
unfoldable pub product_at : Region → Block → Float → ℕ → ℕ → ℕ → Float
product_at g b p t r c = pick (in_region g r c) (times p (pick (in_block g b r c) (influence g b t r c) one64)) p

-- the reverse divides, and skips factors equal to zero and cells beyond the block
unfoldable pub quotient_at : Region → Block → Float → ℕ → ℕ → ℕ → Float
quotient_at g b p t r c =
    pick (in_region g r c && in_block g b r c && ne (influence g b t r c) zero64) (over p (influence g b t r c)) p

-- each probability changed by its colour, row and column
unfoldable pub changed_by : ℕ → ℕ → (Float → ℕ → ℕ → ℕ → Float) → List Float → List Float
changed_by rows cols f plane =
    tab (length plane)
    (λ q. f (get_or plane q nan) (q / (rows * cols)) (q % (rows * cols) / cols) (q % (rows * cols) % cols))

unfoldable pub multiplied : ℕ → ℕ → Block → World → Offset → ℕ → List Float → List Float
multiplied rows cols b place offset k plane = changed_by rows cols (product_at (region_of rows cols place offset k) b) plane

unfoldable pub divided : ℕ → ℕ → Block → World → Offset → ℕ → List Float → List Float
divided rows cols b place offset k plane = changed_by rows cols (quotient_at (region_of rows cols place offset k) b) plane

abbrev pub influence_sizes : List Float → ℕ → ℕ → ℕ → Block → ℕ → Checks
influence_sizes plane rows cols count b k =
    SHAPE unless board_sides rows cols
    then SHAPE unless within 1 max_influence_side b.rows && within 1 max_influence_side b.cols
    then SHAPE unless leb k max_radius
    then LENGTH unless has_length plane (count * (rows * cols))
    then LENGTH unless has_length b.entries (count * (b.rows * b.cols))
    then COUNT unless colour_count count

abbrev pub influence_checks : List Float → ℕ → ℕ → ℕ → Block → World → Offset → ℕ → Checks
influence_checks plane rows cols count b place offset k =
    influence_sizes plane rows cols count b k
    then NUMBER unless all_are is_finite plane
    then NUMBER unless all_are is_finite b.entries
    then place_checks rows cols place offset
