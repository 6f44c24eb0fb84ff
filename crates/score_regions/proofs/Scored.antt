-- The scores of a region as a plane whose cells get them, and what the functions lean on, by the checks that a call has made.
-- Assumes nothing.
use Prim.Native.Nat.{ℕ, ◌*◌, ◌/◌, ◌%◌, ◌<◌, ◌≤◌}
use mathlib.Core.Path.{◌≡◌, sym, ◌∙◌}
use mathlib.Core.Bool.{Bool, true}
use mathlib.Core.List.{List}
use native.Mathlib.Nat.{mul-le-mul_right}
use native.Mathlib.Omega.{arith}
use lib.ListN.{length}
use lib.Ieee.{Float}
use Rattle.base.specs.Regions.{between, over_region}
use Rattle.base.proofs.Bools.{same_test}
use Rattle.base.proofs.Regions.{is-between, between-low, between-high}
use Rattle.base.proofs.Numbers.{row_lt, col-lt}
use Rattle.base.proofs.Tabled.{tab-ext}
use Rattle.rules.specs.Tests.{board_sides, tile_number_fits}
use Rattle.rules.specs.Scores.{lift_falls, scored}
use Rattle.rules.specs.declared.Span.{Span}
use Rattle.check_sizes.proofs.Sides.{board-cols}
use Rattle.score_mean.specs.Box.{term_of, score_at}
use Rattle.score_mean.proofs.Box.{box-is}
use Rattle.score_regions.specs.Region.{region_scored, ScoresFit}

-- two spans that have the same of a number
pub same-between : (from to start end x : ℕ) → (from ≤ x → x < to → (start ≤ x) × (x < end)) → (start ≤ x → x < end → (from ≤ x) × (x < to))
    → between from to x ≡ between start end x
same-between from to start end x there back =
    same_test _ _
    (λ e. let h = there (between-low from to x e) (between-high from to x e) in is-between start end x h.0 h.1)
    (λ e. let h = back (between-low start end x e) (between-high start end x e) in is-between from to x h.0 h.1)

module _ (scores : List Float) (counts : List ℕ) (rows cols tiles : ℕ) (sides : board_sides rows cols ≡ true) (long : length scores ≡ rows * cols) where
  pub region-scored : (f : Float → Float) (rs cs : Span) (falls : ℕ → ℕ → Bool) → ((r c : ℕ) → r < rows → c < cols → lift_falls rs cs r c ≡ falls r c)
      → region_scored f counts tiles cols rs cs scores ≡ scored rows cols falls (term_of f counts tiles) scores
  unfolding region_scored over_region scored score_at
  region-scored f rs cs falls same =
      tab-ext (length scores) _ _
      (λ k h.
      let wide : 0 < cols = (board-cols rows cols sides).0 in
      let r< : k / cols < rows = row_lt k rows cols wide (omega arith) in
      let c< : k % cols < cols = col-lt k cols wide in
      rw (same (k / cols) (k % cols) r< c<, box-is rows cols (k / cols) (k % cols) r< c<))

-- the region of spans of the sides, over planes that have their cells
pub scores-fit : (scores : List Float) (counts : List ℕ) (rows cols tiles : ℕ) → board_sides rows cols ≡ true
    → length scores ≡ rows * cols → length counts ≡ rows * cols → tile_number_fits tiles ≡ true
    → (rs cs : Span) → rs.0 ≤ rs.1 → rs.1 ≤ rows → cs.0 ≤ cs.1 → cs.1 ≤ cols → ScoresFit scores counts cols tiles rs cs
scores-fit scores counts rows cols tiles sides scores-long counts-long number rs cs rl rr cl cr =
    record {
      region =
          record {
            wide = (board-cols rows cols sides).0;
            rowwise = rl;
            colwise = cl;
            ends = cr;
            room = omega (arith, mul-le-mul_right cols rr, scores-long);
          };
      number = number;
      long = counts-long ∙ sym scores-long;
    }
