-- Recounting every region of a board, in a plane that was filled with the number of tiles, gives what the pieces alone say.
-- Assumes nothing.
use Prim.Native.Nat.{ℕ, ◌*◌, ◌/◌, ◌%◌, ◌<◌, ◌≤◌}
use mathlib.Core.Path.{◌≡◌, sym, ◌∙◌, ap}
use mathlib.Core.Bool.{true}
use mathlib.Core.List.{List}
use native.Mathlib.Nat.{mul-le-mul_right}
use native.Mathlib.Omega.{arith}
use lib.ListN.{length}
use Rattle.base.specs.Counting.{pick}
use Rattle.base.specs.Tables.{tab}
use Rattle.base.specs.Regions.{inside}
use Rattle.base.proofs.Bools.{and_both, never}
use Rattle.base.proofs.Numbers.{row_lt, col-lt, cell-is, mul-le}
use Rattle.base.proofs.Tabled.{length-tab, get_d-tab}
use Rattle.base.proofs.Regions.{is-between, region-is}
use Rattle.rules.specs.Bounds.{max_board_side, max_cells}
use Rattle.rules.specs.Tests.{tiles_in}
use Rattle.rules.specs.Grid.{flat}
use Rattle.rules.specs.Fit.{pattern, fit_count}
use Rattle.rules.specs.Board.{counts_of}
use Rattle.rules.specs.declared.Spans.{Spans}
use Rattle.board_recount.specs.Recounted.{recounted_by, recounted_in, InSpans}

-- the spans of the first rows and columns
abbrev first : ℕ → ℕ → Spans
first r c = record { rows = record { 0 = 0; 1 = r }; cols = record { 0 = 0; 1 = c } }

module _ (rows cols : ℕ) where
  -- the first rows and columns of a plane in bounds
  pub first-spans : (counts : List ℕ) (r c : ℕ) → r ≤ rows → c ≤ cols → rows ≤ max_board_side → cols ≤ max_board_side → 0 < cols
      → length counts ≡ rows * cols → InSpans counts rows cols (first r c)
  first-spans counts r c rowwise colwise tall low wide size =
      let few : rows * cols ≤ max_cells = mul-le tall low in
      let room : r * cols ≤ rows * cols = mul-le-mul_right cols rowwise in
      record {
        region = record { wide = wide; rowwise = omega arith; colwise = omega arith; ends = colwise; room = omega arith };
        long = size;
        short = omega arith;
        bottom = rowwise;
      }

  -- all of them
  pub all-counted : (tiles pieces : List ℕ) {counts : List ℕ} (m : ℕ) → 0 < cols → length pieces ≡ rows * cols
      → counts ≡ tab m (λ k. tiles_in tiles) → m ≡ rows * cols
      → recounted_in (flat rows cols) cols tiles pieces (first rows cols) counts ≡ counts_of (flat rows cols) tiles pieces
  unfolding recounted_in recounted_by counts_of
  all-counted tiles pieces m wide long e q =
      rw (e, q)
      (region-is 0 _ cols 0 rows 0 cols (tab n (λ k. tiles_in tiles)) count
      (λ k k< i. rw (cell-is k cols, get_d-tab n (λ (j : ℕ). tiles_in tiles) k 0 (omega (arith, size))))
      (λ k k< o. never _ (in_all k (omega (arith, size))) o)
      ∙ ap (λ (i : ℕ). tab i count) (size ∙ sym long))
    where
      n : ℕ
      n = rows * cols

      count : ℕ → ℕ
      count s = pick ((flat rows cols).whole s) (fit_count tiles (pattern (flat rows cols) pieces s)) (tiles_in tiles)

      size : length (tab n (λ (k : ℕ). tiles_in tiles)) ≡ n
      size = length-tab n (λ (k : ℕ). tiles_in tiles)

      in_all : (k : ℕ) → k < n → inside 0 rows 0 cols (k / cols) (k % cols) ≡ true
      in_all k k< =
          and_both _ _
          (is-between 0 rows (k / cols) (omega arith) (row_lt k rows cols wide k<))
          (is-between 0 cols (k % cols) (omega arith) (col-lt k cols wide))
