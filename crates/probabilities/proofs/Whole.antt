-- The whole step over the clipped region of a place that was not refused, of any step and of the rules' two, and that the region lies on
-- the board.
-- Assumes nothing.
use Prim.Native.Nat.{ℕ, ◌+◌, ◌*◌, ◌≤◌, min}
use mathlib.Core.Path.{◌≡◌, refl}
use mathlib.Core.Bool.{true}
use mathlib.Core.List.{List}
use native.Mathlib.Nat.{mul-le-mul_right}
use native.Mathlib.Omega.{arith}
use lib.Ieee.{Float}
use Rattle.base.specs.Regions.{RegionFits}
use Rattle.rules.specs.Tests.{board_sides}
use Rattle.rules.specs.Places.{cell_of}
use Rattle.rules.specs.Probabilities.{Block, clipped_to, region_of, changed_by, product_at, quotient_at, multiplied, divided}
use Rattle.rules.specs.declared.World.{World}
use Rattle.rules.specs.declared.Offset.{Offset}
use Rattle.rules.specs.declared.Span.{Span}
use Rattle.check_sizes.proofs.Sides.{board-cols}
use Rattle.places.proofs.Indices.{Placed, span_round, row-span, col-span}
use Rattle.probability_influence.specs.Step.{CellStep, region_in, colours_changed}
use Rattle.probabilities.specs.Calls.{stepped}

-- the whole step, over the clipped region
pub whole-step : (cell : CellStep) (rows cols : ℕ) (b : Block) (w : World) (o : Offset) (k : ℕ) (plane : List Float)
    → colours_changed cell (rows * cols) cols (region_of rows cols w o k) b plane ≡ stepped cell rows cols b w o k plane
unfolding colours_changed stepped changed_by
whole-step cell rows cols b w o k plane = refl

-- and of the rules' two, as the calls promise them
pub whole-product : (rows cols : ℕ) (b : Block) (w : World) (o : Offset) (k : ℕ) (plane : List Float)
    → colours_changed product_at (rows * cols) cols (region_of rows cols w o k) b plane ≡ multiplied rows cols b w o k plane
unfolding stepped multiplied
whole-product rows cols b w o k plane = whole-step product_at rows cols b w o k plane

pub whole-quotient : (rows cols : ℕ) (b : Block) (w : World) (o : Offset) (k : ℕ) (plane : List Float)
    → colours_changed quotient_at (rows * cols) cols (region_of rows cols w o k) b plane ≡ divided rows cols b w o k plane
unfolding stepped divided
whole-quotient rows cols b w o k plane = whole-step quotient_at rows cols b w o k plane

module _ (rows cols : ℕ) (w : World) (o : Offset) (k : ℕ) (p : Placed rows cols w o) {rs cs : Span}
    (r-is : rs ≡ clipped_to rows (span_round (cell_of w o).0 k)) (c-is : cs ≡ clipped_to cols (span_round (cell_of w o).1 k)) where
  pub region-is : region_in rs cs ≡ region_of rows cols w o k
  unfolding region_of
  region-is = rw (r-is, c-is, row-span rows cols w o p.boarded k, col-span rows cols w o p.boarded k)

  pub region-fits : board_sides rows cols ≡ true → RegionFits (rows * cols) cols rs.0 rs.1 cs.0 cs.1
  region-fits e =
      let x = (cell_of w o).0 in
      let y = (cell_of w o).1 in
      let ends : min (x + k + 1) rows ≤ rows = omega arith in
      rw (r-is, c-is)
      (record { wide = (board-cols rows cols e).0; rowwise = omega arith; colwise = omega arith; ends = omega arith; room = mul-le-mul_right cols ends })
