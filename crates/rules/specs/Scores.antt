-- Document 01, "Weights, counts, scores": fractions and the two scores; and document 02's plain score (request 4).
use Rattle.std.specs.Prelude.{ℕ, ◌+◌, ◌-◌, ◌*◌, ◌/◌, ◌%◌, min, Bool, ◌&&◌, List, leb, ltb, length, get_or, Float}
use Rattle.std.specs.Float.{nan}
use Rattle.base.specs.Counting.{pick}
use Rattle.base.specs.Regions.{between}
use Rattle.base.specs.Tables.{tab, those, fold}
use Rattle.base.specs.Refusal.{Checks, ◌unless◌, ◌then◌, refusal}
use Rattle.rules.specs.Bounds.{SHAPE, LENGTH, CELL, NUMBER, PLACE}
use Rattle.rules.specs.Tests.{board_sides, has_length, tile_number_fits, none_above, row_index, col_index}
use Rattle.rules.specs.Answers.{Answer, answered}
use Rattle.rules.specs.Places.{span_of}
use Rattle.rules.specs.Grid.{cell_at, entry_of, on_grid}
use Rattle.rules.specs.Fit.{place_checks}
use Rattle.rules.specs.Floats.{zero64, plus, times, over, float_of, is_finite, all_are}
use Rattle.rules.specs.declared.World.{World}
use Rattle.rules.specs.declared.Offset.{Offset}
use Rattle.rules.specs.declared.Cell.{Cell}
use Rattle.rules.specs.declared.Span.{Span}

-- Fraction = count / tiles
unfoldable pub fraction : List ℕ → ℕ → ℕ → Float
fraction counts tiles k = over (float_of (get_or counts k 0)) (float_of tiles)

unfoldable pub squared_fraction : List ℕ → ℕ → ℕ → Float
squared_fraction counts tiles k = times (fraction counts tiles k) (fraction counts tiles k)

-- the cells at rows r-2..=r, columns c-2..=c within the grid, row by row
abbrev pub box_has : ℕ → ℕ → ℕ → ℕ → ℕ → Bool
box_has rows cols r c i = leb 2 (r + i / 3) && ltb (r + i / 3 - 2) rows && leb 2 (c + i % 3) && ltb (c + i % 3 - 2) cols

abbrev pub box_cell : ℕ → ℕ → ℕ → ℕ → ℕ
box_cell cols r c i = entry_of cols (cell_at (r + i / 3 - 2) (c + i % 3 - 2))

unfoldable pub box_cells : ℕ → ℕ → ℕ → ℕ → List ℕ
box_cells rows cols r c = those 9 (box_has rows cols r c) (box_cell cols r c)

-- Sums run row by row from 0.0, then one division
abbrev pub plus_term : (ℕ → Float) → Float → ℕ → Float
plus_term term a k = plus a (term k)

unfoldable pub mean_of : (ℕ → Float) → List ℕ → Float
mean_of term cells = over (fold (plus_term term) zero64 cells) (float_of (length cells))

-- the cells that fall to a score get the mean of a term over their box, the others stay
unfoldable pub scored : ℕ → ℕ → (ℕ → ℕ → Bool) → (ℕ → Float) → List Float → List Float
scored rows cols falls term scores =
    tab (length scores)
    (λ k. pick (falls (k / cols) (k % cols)) (mean_of term (box_cells rows cols (k / cols) (k % cols))) (get_or scores k nan))

abbrev pub in_span : Span → ℕ → Bool
in_span s x = between s.0 s.1 x

-- after a lay: targets from span start+1 to the span's end (radius 2, end clipped to the board), and the cell one further down
-- and right of each; the target and its neighbours are that cell's box. A write off the board is dropped: no cell is past it
abbrev pub past_target : ℕ → Span → ℕ → Bool
past_target side s x = leb (s.0 + 1 + 1) x && ltb x (min s.1 side + 1)

abbrev pub lay_falls : ℕ → ℕ → World → Offset → ℕ → ℕ → Bool
lay_falls rows cols place offset r c = past_target rows (span_of (row_index place offset) 2) r && past_target cols (span_of (col_index place offset) 2) c

unfoldable pub lay_scores : ℕ → ℕ → List ℕ → ℕ → World → Offset → List Float → List Float
lay_scores rows cols counts tiles place offset scores = scored rows cols (lay_falls rows cols place offset) (fraction counts tiles) scores

-- the lift score writes each cell of its spans: the mean of the squared fractions
abbrev pub lift_falls : Span → Span → ℕ → ℕ → Bool
lift_falls rowspan colspan r c = in_span rowspan r && in_span colspan c

unfoldable pub lift_scores : ℕ → ℕ → List ℕ → ℕ → Span → Span → List Float → List Float
lift_scores rows cols counts tiles rowspan colspan scores =
    scored rows cols (lift_falls rowspan colspan) (squared_fraction counts tiles) scores

-- 02, request 4: "a plain score, for either occasion: for any cell, the mean of the unsquared fractions"; in each cell of its spans
unfoldable pub plain_scores : ℕ → ℕ → List ℕ → ℕ → Span → Span → List Float → List Float
plain_scores rows cols counts tiles rowspan colspan scores =
    scored rows cols (lift_falls rowspan colspan) (fraction counts tiles) scores

-- a score of the cell of entry k: the mean of a term over its box
abbrev pub score_of : ℕ → ℕ → (ℕ → Float) → ℕ → Float
score_of rows cols term k = mean_of term (box_cells rows cols (k / cols) (k % cols))

-- "a whole-board scoring by it depends only on the counts"
unfoldable pub whole_scores : ℕ → ℕ → List ℕ → ℕ → List Float
whole_scores rows cols counts tiles = tab (rows * cols) (score_of rows cols (fraction counts tiles))

-- ---- the calls

abbrev pub fraction_checks : List ℕ → ℕ → ℕ → ℕ → Cell → Checks
fraction_checks counts rows cols tiles k =
    SHAPE unless board_sides rows cols
    then LENGTH unless has_length counts (rows * cols)
    then LENGTH unless tile_number_fits tiles
    then CELL unless none_above counts tiles
    then PLACE unless on_grid rows cols k

unfoldable pub fraction_at : List ℕ → ℕ → ℕ → ℕ → Cell → Answer Float
fraction_at counts rows cols tiles k =
    answered (refusal (fraction_checks counts rows cols tiles k)) (fraction counts tiles (entry_of cols k))

abbrev pub score_checks : List Float → List ℕ → ℕ → ℕ → ℕ → Checks
score_checks scores counts rows cols tiles =
    LENGTH unless has_length scores (rows * cols)
    then LENGTH unless has_length counts (rows * cols)
    then LENGTH unless tile_number_fits tiles
    then CELL unless none_above counts tiles
    then NUMBER unless all_are is_finite scores

abbrev pub lay_score_checks : List Float → List ℕ → ℕ → ℕ → ℕ → World → Offset → Checks
lay_score_checks scores counts rows cols tiles place offset =
    SHAPE unless board_sides rows cols
    then score_checks scores counts rows cols tiles
    then place_checks rows cols place offset

-- Span ends at most the board's side
abbrev pub lift_score_checks : List Float → List ℕ → ℕ → ℕ → ℕ → Span → Span → Checks
lift_score_checks scores counts rows cols tiles rowspan colspan =
    SHAPE unless board_sides rows cols
    then SHAPE unless leb rowspan.1 rows
    then SHAPE unless leb colspan.1 cols
    then score_checks scores counts rows cols tiles

-- all that a call asks of the planes and the number of tiles which fills the scores whole: the old ones are not read
abbrev pub counted_checks : List Float → List ℕ → ℕ → ℕ → ℕ → Checks
counted_checks scores counts rows cols tiles =
    LENGTH unless has_length scores (rows * cols)
    then LENGTH unless has_length counts (rows * cols)
    then LENGTH unless tile_number_fits tiles
    then CELL unless none_above counts tiles

abbrev pub whole_score_checks : List Float → List ℕ → ℕ → ℕ → ℕ → Checks
whole_score_checks scores counts rows cols tiles =
    SHAPE unless board_sides rows cols
    then counted_checks scores counts rows cols tiles
