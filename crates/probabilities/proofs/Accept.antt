-- What an accepted call has passed.
-- Assumes nothing.
use Prim.Native.Nat.{ℕ, ◌*◌, ◌≤◌}
use mathlib.Core.Path.{◌≡◌, refl}
use mathlib.Core.Bool.{true}
use mathlib.Core.List.{List}
use lib.ListN.{length}
use lib.Ieee.{Float}
use borrow.Author.Tests.{leb-true}
use Rattle.base.specs.Counting.{within}
use Rattle.base.specs.Refusal.{refusal}
use Rattle.base.proofs.Bools.{and_left, and_right}
use Rattle.base.proofs.Numbers.{within-high}
use Rattle.base.proofs.Chain.{all_pass}
use Rattle.check_sizes.proofs.Sides.{long}
use Rattle.rules.specs.Bounds.{max_radius, max_influence_side}
use Rattle.rules.specs.Tests.{board_sides, colour_count}
use Rattle.rules.specs.Floats.{is_number, is_finite, all_are}
use Rattle.rules.specs.Probabilities.{Block, normalise_checks, influence_checks}
use Rattle.rules.specs.declared.World.{World}
use Rattle.rules.specs.declared.Offset.{Offset}
use Rattle.places.proofs.Indices.{Placed}
use Rattle.probability_normal.specs.Fits.{PlaceFits}

pub record NormalPasses (plane out : List Float) (rows cols count : ℕ) : Type 0 where
  pub fits : PlaceFits plane out rows cols count
  pub colours : colour_count count ≡ true
  pub numbers : all_are is_number plane ≡ true

pub normal-passes : (plane out : List Float) (rows cols count : ℕ) (w : World) (o : Offset)
    → refusal (normalise_checks plane rows cols count w o out) ≡ 0 → NormalPasses plane out rows cols count
normal-passes plane out rows cols count w o e =
    let h = all_pass (normalise_checks plane rows cols count w o out) refl e in
    record {
      fits = record { sides = search; long = long plane (count * (rows * cols)) (search); out-long = long out count (search) };
      colours = search;
      numbers = search;
    }

module _ (plane : List Float) (rows cols count : ℕ) (b : Block) (w : World) (o : Offset) (k : ℕ) where
  pub record StepPasses : Type 0 where
    pub sides : board_sides rows cols ≡ true
    pub block-rows : b.rows ≤ max_influence_side
    pub block-cols : b.cols ≤ max_influence_side
    pub radius : k ≤ max_radius
    pub long : length plane ≡ count * (rows * cols)
    pub block-long : length b.entries ≡ count * (b.rows * b.cols)
    pub colours : colour_count count ≡ true
    pub finite : all_are is_finite plane ≡ true
    pub block-finite : all_are is_finite b.entries ≡ true
    pub place : Placed rows cols w o

  pub step-passes : refusal (influence_checks plane rows cols count b w o k) ≡ 0 → StepPasses
  step-passes e =
      let h = all_pass (influence_checks plane rows cols count b w o k) refl e in
      let r = within 1 max_influence_side b.rows in
      let c = within 1 max_influence_side b.cols in
      record {
        sides = search;
        block-rows = within-high 1 max_influence_side b.rows (and_left r c (search));
        block-cols = within-high 1 max_influence_side b.cols (and_right r c (search));
        radius = leb-true k max_radius (search);
        long = long plane (count * (rows * cols)) (search);
        block-long = long b.entries (count * (b.rows * b.cols)) (search);
        colours = search;
        finite = search;
        block-finite = search;
        place = record { walled = search; fitting = search; boarded = search };
      }
