-- The look at the cells round a cell gives demand 3's weight: a piece outside the box of radius 2, clipped to the grid, adds nothing.
-- Assumes nothing.
use Prim.Native.Nat.{ℕ, ◌+◌, ◌-◌, ◌*◌, ◌<◌, ◌≤◌, min}
use mathlib.Core.Path.{◌≡◌, refl, sym, ◌∙◌, ap}
use mathlib.Core.Bool.{true}
use mathlib.Core.List.{List}
use native.Mathlib.Nat.{min-le_right}
use native.Mathlib.Omega.{arith}
use lib.ListN.{length, get_or}
use Rattle.base.specs.Counting.{pick, sum}
use Rattle.base.specs.Regions.{between, inside}
use Rattle.base.proofs.Bools.{by-test, and_left, and_right}
use Rattle.base.proofs.Numbers.{cell-lt, row_of, col-of}
use Rattle.base.proofs.Counted.{sum-ext}
use Rattle.base.proofs.Sums.{InBox, sum-box}
use Rattle.base.proofs.Tabled.{get_d-tab}
use Rattle.base.proofs.Regions.{between-low, between-high}
use Rattle.rules.specs.Grid.{cell_at, entry_of, cell_with, gap, distance, laid_on, flat}
use Rattle.rules.specs.Board.{share, reach, weights_of}
use Rattle.rules.specs.declared.Cell.{Cell}
use Rattle.rules.specs.declared.Span.{Span}
use Rattle.rules.specs.declared.Spans.{Spans}
use Rattle.rules.proofs.Shares.{share-far}
use Rattle.board_near.specs.Near.{OnPlane, Nearby}
use Rattle.board_near.proofs.Nearby.{near-far}
use Rattle.board_weigh.specs.Added.{near_span, near_spans, sum_over, added_by, row_adds, box_adds}

-- the span round an index ends with the side or before
pub near-ends : {span : Span} {side : ℕ} (x : ℕ) → span ≡ near_span x side → span.1 ≤ side
near-ends {span} {side} x e = let to : span.1 ≡ min (x + 3) side = ap (λ (s : Span). s.1) e in omega (arith, min-le_right (x + 3) side)

pub both-near : {r c : Span} (rows cols : ℕ) (cell : Cell) → r ≡ near_span cell.0 rows → c ≡ near_span cell.1 cols
    → ◌≡◌ {A = Spans} (record { rows = r; cols = c }) (near_spans rows cols cell)
both-near rows cols cell p q = rw (p, q)

-- the distance is the same both ways
distance-both : (j k : Cell) → distance j k ≡ distance k j
distance-both j k =
    let r : gap j.0 k.0 ≡ gap k.0 j.0 = omega arith in
    let c : gap j.1 k.1 ≡ gap k.1 j.1 = omega arith in
    rw (r, c)

module _ (pieces : List ℕ) (rows cols : ℕ) (cell : Cell) (on : OnPlane pieces rows cols cell) where
  -- what each cell of the grid adds
  adds : ℕ → ℕ
  adds j = pick (laid_on pieces j) (reach (flat rows cols) j (entry_of cols cell)) 0

  adds-is : (r c : ℕ) → c < cols → adds (entry_of cols (cell_at r c)) ≡ added_by pieces cols cell r c
  unfolding flat adds
  adds-is r c h = rw (row_of r h, col-of r h, row_of cell.0 on.colwise, col-of cell.0 on.colwise)

  nearby : Nearby rows cols cell (near_spans rows cols cell)
  nearby = record { top = refl; bottom = refl; left = refl; right = refl }

  boxed : (r c : ℕ) → inside (cell.0 - 2) (min (cell.0 + 3) rows) (cell.1 - 2) (min (cell.1 + 3) cols) r c ≡ true
      → InBox (cell.0 - 2) (min (cell.0 + 3) rows - (cell.0 - 2)) (cell.1 - 2) (min (cell.1 + 3) cols - (cell.1 - 2)) r c
  boxed r c e =
      let inrow = between (cell.0 - 2) (min (cell.0 + 3) rows) r in
      let row = and_left inrow _ e in
      let col = and_right inrow _ e in
      let below = between-low (cell.0 - 2) (min (cell.0 + 3) rows) r row in
      let after = between-low (cell.1 - 2) (min (cell.1 + 3) cols) c col in
      record {
        below = below;
        above = omega (arith, below, between-high (cell.0 - 2) (min (cell.0 + 3) rows) r row);
        after = after;
        before = omega (arith, after, between-high (cell.1 - 2) (min (cell.1 + 3) cols) c col);
      }

  outside : (r c : ℕ) → r < rows → c < cols
      → (InBox (cell.0 - 2) (min (cell.0 + 3) rows - (cell.0 - 2)) (cell.1 - 2) (min (cell.1 + 3) cols - (cell.1 - 2)) r c → ⊥)
      → added_by pieces cols cell r c ≡ 0
  outside r c r< c< out =
      by-test (inside (cell.0 - 2) (min (cell.0 + 3) rows) (cell.1 - 2) (min (cell.1 + 3) cols) r c)
      (λ e. absurd (out (boxed r c e)))
      (λ e.
      let k : ℕ = r * cols + c in
      let far : 2 < distance cell (cell_with cols k) =
      near-far rows cols cell _ nearby k (omega arith) (cell-lt r< c<) (rw (row_of r c<, col-of r c<) e) in
      nothing (rw (distance-both (cell_at r c) cell) (share-far _ (rw (row_of r c<, col-of r c<) at far))))
    where
      nothing : share (distance (cell_at r c) cell) ≡ 0 → added_by pieces cols cell r c ≡ 0
      nothing e = by-test (laid_on pieces (entry_of cols (cell_at r c))) (λ t. rw t e) (λ t. rw t)

  near-weight : sum (rows * cols) adds ≡ box_adds pieces cols cell (near_spans rows cols cell)
  unfolding box_adds row_adds sum_over
  near-weight =
      sum-box rows cols (cell.0 - 2) tall (cell.1 - 2) wide adds below right
      (λ r c r< c< out. adds-is r c c< ∙ outside r c r< c< out)
      ∙ sum-ext _ _ tall
      (λ r r<. sum-ext _ _ wide (λ c c<. adds-is (cell.0 - 2 + r) (cell.1 - 2 + c) (omega (arith, right))))
    where
      tall : ℕ
      tall = min (cell.0 + 3) rows - (cell.0 - 2)

      wide : ℕ
      wide = min (cell.1 + 3) cols - (cell.1 - 2)

      below : cell.0 - 2 + tall ≤ rows
      below = omega (arith, on.rowwise, min-le_right (cell.0 + 3) rows)

      right : cell.1 - 2 + wide ≤ cols
      right = omega (arith, on.colwise, min-le_right (cell.1 + 3) cols)

  pub weight_is : {n : ℕ} {spans : Spans} → spans ≡ near_spans rows cols cell → n ≡ box_adds pieces cols cell spans
      → 1 + n ≡ get_or (weights_of (flat rows cols) pieces) (entry_of cols cell) 0
  unfolding weights_of adds
  weight_is p e =
      let here : entry_of cols cell < length pieces = omega (arith, on.long, cell-lt on.rowwise on.colwise) in
      ap (λ (m : ℕ). 1 + m) (e ∙ rw p (sym near-weight) ∙ ap (λ (m : ℕ). sum m adds) (sym on.long))
      ∙ sym (get_d-tab (length pieces) _ (entry_of cols cell) 0 here)
