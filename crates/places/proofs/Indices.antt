-- Laws of indices: what the sign test leaves of them, that a place on the board has a cell there, and that the span of radius k round
-- a cell's row or column x runs from x - k (0 where k is larger) up to, not including, x + k + 1.
-- Assumes nothing.
use Prim.Native.Nat.{ℕ, zero, suc, ◌+◌, ◌-◌, ◌*◌, ◌<◌, ◌≤◌}
use mathlib.Core.Path.{◌≡◌, refl, ap, ◌∙◌}
use mathlib.Core.Bool.{Bool, true, false, cond}
use native.Mathlib.Omega.{arith}
use lib.Dec.{T, ltb, lit<}
use lib.IntN.{ℤ, pos, negsuc, nat_abs, sub_ℕ, ◌+ℤ◌}
use lib.Signed.{lt_z, mag, non_neg}
use borrow.Author.Tests.{leb-true, le-leb, le-ltb, ltb-true}
use Rattle.std.specs.Prelude.{Ok}
use Rattle.rules.specs.declared.Spans.{Spans}
use Rattle.rules.specs.declared.Cell.{Cell}
use Rattle.base.specs.Whole.{clip, within_z, index_below}
use Rattle.base.specs.Refusal.{refusal}
use Rattle.base.proofs.Bools.{and_left, and_right, never}
use Rattle.base.proofs.Numbers.{cell-lt}
use Rattle.base.proofs.Chain.{all_pass}
use Rattle.base.proofs.Signs.{index-clip, index-pos, ranged}
use Rattle.rules.specs.Bounds.{min_coordinate, max_coordinate, min_offset, max_offset, max_radius}
use Rattle.rules.specs.Tests.{on_wall, offset_fits, on_board}
use Rattle.rules.specs.Places.{cell_of, span_of, span_checks, region_spans}
use Rattle.rules.specs.Grid.{entry_of}
use Rattle.rules.specs.Fit.{place_checks}
use Rattle.rules.specs.declared.World.{World}
use Rattle.rules.specs.declared.Offset.{Offset}
use Rattle.rules.specs.declared.Span.{Span}

-- what the test `z < 0` leaves of `index_below`
pub below-index : (n : ℕ) (z : ℤ) → lt_z z (pos 0) ≡ true → false ≡ index_below n z
below-index n (pos z) e = never (ltb z 0) e (le-ltb z 0 (omega arith))
below-index n (negsuc z) e = refl

pub nat_abs-index : (n : ℕ) (z : ℤ) → T (non_neg z) → ltb (nat_abs z) n ≡ index_below n z
nat_abs-index n (pos z) t = refl
nat_abs-index n (negsuc z) t = absurd t

-- the span of radius k round x
abbrev pub span_round : ℕ → ℕ → Span
span_round x k = record { 0 = x - k; 1 = x + k + 1 }

clip-sub : (x k : ℕ) → clip (sub_ℕ x k) ≡ x - k
clip-sub x k = pick-clip (ltb x k) (λ e. ltb-true x k e)
  where
    pick-clip : (t : Bool) → (t ≡ true → x < k) → clip (cond t (negsuc (k - suc x)) (pos (x - k))) ≡ x - k
    pick-clip true h = let g : x < k = h refl in omega arith
    pick-clip false h = refl

pub span-round : (x k : ℕ) → span_of (pos x) k ≡ span_round x k
unfolding span_of
span-round x zero = let e : x + 0 ≡ x - 0 = omega arith in ap (λ (n : ℕ). record { 0 = n; 1 = x + 0 + 1 }) e
span-round x (suc k) = ap (λ (n : ℕ). record { 0 = n; 1 = x + suc k + 1 }) (clip-sub x (suc k))

-- the numbers of a coordinate that is on the wall, and of an offset that fits, are small
pub wall-low : (w : World) → on_wall w ≡ true → (mag w.0 < 1000001) × (mag w.1 < 1000001)
unfolding on_wall
wall-low w e =
    let f = within_z min_coordinate max_coordinate in (
      ranged 999999 1000000 w.0 (and_left (f w.0) (f w.1) e) (lit< tt) (lit< tt),
      ranged 999999 1000000 w.1 (and_right (f w.0) (f w.1) e) (lit< tt) (lit< tt),
    )

pub offset-low : (o : Offset) → offset_fits o ≡ true → (mag o.0 < 1000001) × (mag o.1 < 1000001)
unfolding offset_fits
offset-low o e =
    let f = within_z min_offset max_offset in (
      ranged 999936 1000000 o.0 (and_left (f o.0) (f o.1) e) (lit< tt) (lit< tt),
      ranged 999936 1000000 o.1 (and_right (f o.0) (f o.1) e) (lit< tt) (lit< tt),
    )

-- what a radius round a place gives that was not refused
pub record Region (o : Offset) (w : World) (k : ℕ) : Type 0 where
  pub near : k ≤ max_radius
  pub walled : on_wall w ≡ true
  pub fitting : offset_fits o ≡ true

pub region : (o : Offset) (w : World) (k : ℕ) → refusal (span_checks o w k) ≡ 0 → Region o w k
region o w k e =
    let h = all_pass (span_checks o w k) refl e in record { near = leb-true k max_radius (search); walled = search; fitting = search }

-- what a place that was not refused gives
pub record Placed (rows cols : ℕ) (w : World) (o : Offset) : Type 0 where
  pub walled : on_wall w ≡ true
  pub fitting : offset_fits o ≡ true
  pub boarded : on_board rows cols w o ≡ true

pub placed : (rows cols : ℕ) (w : World) (o : Offset) → refusal (place_checks rows cols w o) ≡ 0 → Placed rows cols w o
placed rows cols w o e =
    let h = all_pass (place_checks rows cols w o) refl e in record { walled = search; fitting = search; boarded = search }

module _ (rows cols : ℕ) (w : World) (o : Offset) (h : on_board rows cols w o ≡ true) where
  row_on : index_below rows (w.0 +ℤ o.0) ≡ true
  unfolding on_board
  row_on = and_left (index_below rows (w.0 +ℤ o.0)) (index_below cols (w.1 +ℤ o.1)) h

  col-on : index_below cols (w.1 +ℤ o.1) ≡ true
  unfolding on_board
  col-on = and_right (index_below rows (w.0 +ℤ o.0)) (index_below cols (w.1 +ℤ o.1)) h

  pub row_below : (cell_of w o).0 < rows
  unfolding cell_of
  row_below = index-clip rows (w.0 +ℤ o.0) row_on

  pub col-below : (cell_of w o).1 < cols
  unfolding cell_of
  col-below = index-clip cols (w.1 +ℤ o.1) col-on

  pub entry-below : entry_of cols (cell_of w o) < rows * cols
  entry-below = cell-lt row_below col-below

  -- the spans round it
  pub row-span : (k : ℕ) → span_of (w.0 +ℤ o.0) k ≡ span_round (cell_of w o).0 k
  unfolding cell_of
  row-span k = ap (λ (x : ℤ). span_of x k) (index-pos rows (w.0 +ℤ o.0) row_on) ∙ span-round (clip (w.0 +ℤ o.0)) k

  pub col-span : (k : ℕ) → span_of (w.1 +ℤ o.1) k ≡ span_round (cell_of w o).1 k
  unfolding cell_of
  col-span k = ap (λ (x : ℤ). span_of x k) (index-pos cols (w.1 +ℤ o.1) col-on) ∙ span-round (clip (w.1 +ℤ o.1)) k

-- the spans round a cell
abbrev pub spans_round : Cell → ℕ → Spans
spans_round cell k = record { rows = span_round cell.0 k; cols = span_round cell.1 k }

-- so the spans round a place that was not refused are given
pub spans-given : (rows cols : ℕ) (w : World) (o : Offset) (k : ℕ) → Placed rows cols w o → k ≤ max_radius
    → region_spans o w k ≡ Ok (spans_round (cell_of w o) k)
unfolding region_spans refusal
spans-given rows cols w o k p h =
    rw
    (le-leb k max_radius h, p.walled, p.fitting, row-span rows cols w o p.boarded k, col-span rows cols w o p.boarded k)
