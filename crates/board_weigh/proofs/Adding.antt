-- A loop that adds up along a span, and bounds of what is added.
--     adding-start, adding-turn, adding-done     before the first index; one index; past the last
--     adding-low, added-low, row_low, box-low     a sum of small terms is small
-- Assumes nothing.
use Prim.Native.Nat.{ℕ, ◌+◌, ◌-◌, ◌*◌, ◌<◌, ◌≤◌}
use mathlib.Core.Path.{◌≡◌, sym, ◌∙◌, ap}
use mathlib.Core.List.{List}
use native.Mathlib.Nat.{le_trans, mul-le-mul_right}
use native.Mathlib.Omega.{arith}
use Rattle.base.specs.Counting.{sum}
use Rattle.base.proofs.Bools.{by-test}
use Rattle.base.proofs.Sums.{sum_low, sum_more}
use Rattle.rules.specs.Bounds.{max_board_side}
use Rattle.rules.specs.Grid.{cell_at, entry_of, distance, laid_on}
use Rattle.rules.specs.declared.Cell.{Cell}
use Rattle.rules.specs.declared.Span.{Span}
use Rattle.rules.specs.declared.Spans.{Spans}
use Rattle.rules.proofs.Shares.{share-le}
use Rattle.board_weigh.specs.Added.{sum_over, added_by, row_adds, box_adds}

-- at most a board's side of small terms
sum-few : (n m : ℕ) (f : ℕ → ℕ) → n ≤ max_board_side → ((i : ℕ) → f i ≤ m) → sum n f ≤ max_board_side * m
sum-few n m f h low = le_trans (sum_low n m f (λ i _. low i)) (mul-le-mul_right {m = n} m h)

-- the indices of the span before `at` are added up
pub record Adding (span : Span) (f : ℕ → ℕ) (total at : ℕ) : Type 0 where
  pub low : span.0 ≤ at
  pub high : at - span.0 ≤ span.1 - span.0
  pub is : total ≡ sum (at - span.0) (λ i. f (span.0 + i))

module _ (span : Span) (f : ℕ → ℕ) where
  pub adding-start : Adding span f 0 span.0
  unfolding sum
  adding-start =
      let none : span.0 - span.0 ≡ 0 = omega arith in
      record { low = omega arith; high = omega arith; is = sym (ap (λ (n : ℕ). sum n (λ i. f (span.0 + i))) none) }

  module _ {total at : ℕ} (d : Adding span f total at) where
    pub adding-turn : {here : ℕ} → at < span.1 → here ≡ f at → Adding span f (total + here) (at + 1)
    adding-turn {here} h e =
        let n : ℕ = at - span.0 in
        let next : at + 1 - span.0 ≡ n + 1 = omega (arith, d.low) in
        let back : at ≡ span.0 + n = omega (arith, d.low) in
        record {
          low = omega (arith, d.low);
          high = omega (arith, d.low);
          is =
              rw (d.is, e ∙ ap f back)
              (sym (ap (λ (m : ℕ). sum m (λ i. f (span.0 + i))) next ∙ sum_more n (λ i. f (span.0 + i))));
        }

    pub adding-done : span.1 ≤ at → total ≡ sum_over span f
    unfolding sum_over
    adding-done h =
        let all : at - span.0 ≡ span.1 - span.0 = omega (arith, d.high) in
        d.is ∙ ap (λ (n : ℕ). sum n (λ i. f (span.0 + i))) all

    pub adding-low : (m : ℕ) → ((i : ℕ) → f i ≤ m) → span.1 ≤ max_board_side → total ≤ max_board_side * m
    adding-low m low h = rw d.is (sum-few (at - span.0) m (λ i. f (span.0 + i)) (omega (arith, d.high)) (λ i. low (span.0 + i)))

  over-low : (m : ℕ) → ((i : ℕ) → f i ≤ m) → span.1 ≤ max_board_side → sum_over span f ≤ max_board_side * m
  unfolding sum_over
  over-low m low h = sum-few (span.1 - span.0) m (λ i. f (span.0 + i)) (omega arith) (λ i. low (span.0 + i))

module _ (pieces : List ℕ) (cols : ℕ) (cell : Cell) where
  pub added-low : (r c : ℕ) → added_by pieces cols cell r c ≤ 3
  added-low r c =
      by-test (laid_on pieces (entry_of cols (cell_at r c))) (λ e. rw e (share-le (distance (cell_at r c) cell))) (λ e. rw e (omega arith))

  pub row_low : (colspan : Span) → colspan.1 ≤ max_board_side → (r : ℕ) → row_adds pieces cols cell colspan r ≤ 192
  unfolding row_adds
  row_low colspan h r = over-low colspan (added_by pieces cols cell r) 3 (added-low r) h

  pub box-low : (spans : Spans) → spans.rows.1 ≤ max_board_side → spans.cols.1 ≤ max_board_side → box_adds pieces cols cell spans ≤ 12288
  unfolding box_adds
  box-low spans h k = over-low spans.rows (row_adds pieces cols cell spans.cols) 192 (row_low spans.cols k) h
