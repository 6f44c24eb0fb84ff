-- The whole board's scores: those of all rows and columns. And the title of the request, a score "on the same scale": what the lay score
-- writes is the plain score of the cell.
-- Assumes nothing.
use Prim.Native.Nat.{ℕ, ◌*◌, ◌/◌, ◌%◌, ◌<◌}
use mathlib.Core.Path.{◌≡◌, refl, sym, ◌∙◌, ap}
use mathlib.Core.Bool.{true}
use mathlib.Core.List.{List}
use native.Mathlib.Omega.{arith}
use lib.ListN.{length, get_or}
use lib.Ieee.{Float, nan}
use Rattle.base.specs.Counting.{pick}
use Rattle.base.specs.Tables.{tab}
use Rattle.base.proofs.Numbers.{row_lt, col-lt}
use Rattle.base.proofs.Regions.{is-between}
use Rattle.base.proofs.Tabled.{tab-ext, get_d-tab}
use Rattle.rules.specs.Tests.{board_sides}
use Rattle.rules.specs.Scores.{fraction, score_of, lift_falls, lay_falls, scored, lay_scores, plain_scores, whole_scores}
use Rattle.rules.specs.declared.World.{World}
use Rattle.rules.specs.declared.Offset.{Offset}
use Rattle.rules.specs.declared.Span.{Span}
use Rattle.check_sizes.proofs.Sides.{board-cols}
use Rattle.score_mean.specs.Box.{unsquared}
use Rattle.score_regions.specs.Region.{region_scored}
use Rattle.score_regions.proofs.Scored.{region-scored}

-- from the first to the end
abbrev up_to : ℕ → Span
up_to side = record { 0 = 0; 1 = side }

module _ (scores : List Float) (counts : List ℕ) (rows cols tiles : ℕ) (sides : board_sides rows cols ≡ true) (long : length scores ≡ rows * cols) where
  -- every cell is in the spans of the sides, so none stays
  pub near-whole : plain_scores rows cols counts tiles (up_to rows) (up_to cols) scores ≡ whole_scores rows cols counts tiles
  unfolding plain_scores whole_scores scored
  near-whole =
      ap (λ (n : ℕ). tab n cell) long
      ∙ tab-ext (rows * cols) cell (score_of rows cols (fraction counts tiles))
      (λ k h.
      let wide : 0 < cols = (board-cols rows cols sides).0 in
      rw (is-between 0 rows (k / cols) (omega arith) (row_lt k rows cols wide h), is-between 0 cols (k % cols) (omega arith) (col-lt k cols wide)))
    where
      cell : ℕ → Float
      cell k = pick (lift_falls (up_to rows) (up_to cols) (k / cols) (k % cols)) (score_of rows cols (fraction counts tiles) k) (get_or scores k nan)

  pub whole-scored : region_scored unsquared counts tiles cols (up_to rows) (up_to cols) scores ≡ whole_scores rows cols counts tiles
  unfolding plain_scores
  whole-scored =
      region-scored scores counts rows cols tiles sides long unsquared (up_to rows) (up_to cols) (lift_falls (up_to rows) (up_to cols)) (λ r c r< c<. refl) ∙ near-whole

  -- a cell that falls to the lay score gets its plain score by it
  pub lay-scale : (w : World) (o : Offset) (k : ℕ) → k < rows * cols → lay_falls rows cols w o (k / cols) (k % cols) ≡ true
      → get_or (lay_scores rows cols counts tiles w o scores) k nan ≡ get_or (whole_scores rows cols counts tiles) k nan
  unfolding lay_scores whole_scores scored
  lay-scale w o k k< falls =
      get_d-tab (length scores) _ k nan (omega arith)
      ∙ (rw falls (sym (get_d-tab (rows * cols) (score_of rows cols (fraction counts tiles)) k nan k<)))
