-- What the loops over the spans round a cell write is what document 01 says of the whole plane: further than 2 away nothing is added. And
-- a row to which such a loop comes lies in the plane.
-- Assumes nothing.
use Prim.Native.Nat.{ℕ, ◌+◌, ◌-◌, ◌*◌, ◌<◌, ◌≤◌}
use mathlib.Core.Path.{◌≡◌, refl, ◌∙◌, ap}
use mathlib.Core.List.{List}
use native.Mathlib.Omega.{arith}
use lib.ListN.{length, get_or}
use Rattle.base.specs.Tables.{tab}
use Rattle.base.specs.Regions.{over_region}
use Rattle.base.proofs.Regions.{RowsDone, region-is, row_room}
use Rattle.rules.specs.Bounds.{max_cells}
use Rattle.rules.specs.Grid.{entry_of, cell_with, distance, flat}
use Rattle.rules.specs.Board.{share, reach, raised, lowered}
use Rattle.rules.specs.declared.Cell.{Cell}
use Rattle.rules.specs.declared.Spans.{Spans}
use Rattle.rules.proofs.Shares.{share-far}
use Rattle.board_near.specs.Near.{OnPlane, Nearby}
use Rattle.board_near.proofs.Nearby.{apart-is, near-far, near-region}
use Rattle.board_near.proofs.Leaning.{in-plane}
use Rattle.board_weights.specs.Shares.{changed_by}

module _ (rows cols : ℕ) (cell : Cell) (spans : Spans) (l : List ℕ) (on : OnPlane l rows cols cell) (near : Nearby rows cols cell spans) where
  reach-is : (k : ℕ) → reach (flat rows cols) (entry_of cols cell) k ≡ share (distance cell (cell_with cols k))
  reach-is k = ap (λ (n : ℕ). share n) (apart-is rows cols cell k on.colwise)

  -- a step that adds or takes a share, over the spans, is the same over the whole plane
  by-share : (step : ℕ → ℕ → ℕ) → ((x : ℕ) → step x 0 ≡ x) → (f : ℕ → ℕ)
      → ((k : ℕ) → f k ≡ step (get_or l k 0) (reach (flat rows cols) (entry_of cols cell) k))
      → over_region 0 (changed_by step cell) cols spans.rows.0 spans.rows.1 spans.cols.0 spans.cols.1 l
      ≡ tab (length l) f
  by-share step none f is =
      region-is 0 _ cols spans.rows.0 spans.rows.1 spans.cols.0 spans.cols.1 l f
      (λ k k< e. is k ∙ ap (step (get_or l k 0)) (reach-is k))
      (λ k k< e.
      is k
      ∙ ap (step (get_or l k 0)) (reach-is k ∙ share-far _ (near-far rows cols cell spans near k (omega (arith, on.colwise)) (omega (arith, on.long)) e))
      ∙ none (get_or l k 0))

  pub raised_is : over_region 0 (changed_by ◌+◌ cell) cols spans.rows.0 spans.rows.1 spans.cols.0 spans.cols.1 l ≡ raised (flat rows cols) (entry_of cols cell) l
  unfolding raised
  raised_is = by-share ◌+◌ (λ x. omega arith) _ (λ k. refl)

  pub lowered_is : over_region 0 (changed_by ◌-◌ cell) cols spans.rows.0 spans.rows.1 spans.cols.0 spans.cols.1 l ≡ lowered (flat rows cols) (entry_of cols cell) l
  unfolding lowered
  lowered_is = by-share ◌-◌ (λ x. omega arith) _ (λ k. refl)

  -- the next row of a loop over the spans is in the plane, which is small
  pub row-in : (step : ℕ → ℕ → ℕ → ℕ) {w : List ℕ} {row : ℕ} → RowsDone 0 step cols spans.rows.0 spans.rows.1 spans.cols.0 spans.cols.1 l w row → row < spans.rows.1
      → (row * cols + cols ≤ length l) × (length l ≤ max_cells)
  row-in step d h =
      let held = row_room 0 step _ _ _ _ _ _ (near-region rows cols cell spans near l on) d h in
      (omega (arith, held, d.long), (in-plane _ _ _ _ on).1)
