-- What extraction answers and leaves: a refusal, or what was gathered. Assumes nothing.
use Prim.Native.Nat.{ℕ, ◌*◌, ◌≤◌}
use mathlib.Core.Path.{◌≡◌, refl, sym, ◌∙◌, ap}
use mathlib.Core.Bool.{Bool, true}
use mathlib.Core.List.{List}
use Rattle.base.specs.Counting.{within}
use Rattle.base.specs.Refusal.{refusal}
use Rattle.base.proofs.Bools.{and_left, and_right}
use Rattle.base.proofs.Numbers.{within-high}
use Rattle.base.proofs.Chain.{all_pass, go, has_new}
use Rattle.rules.specs.Bounds.{max_sample_side}
use Rattle.rules.specs.Tests.{sample_sides, tiles_in}
use Rattle.rules.specs.Answers.{Answer, answered, checked}
use Rattle.rules.specs.Tiles.{sample_checks, room_check, extraction_checks, extracted, extraction, store_after, store_with}
use Rattle.rules.specs.Promises.{Extracts}
use Rattle.rules.proofs.Answered.{refuses, stopped, refused}
use Rattle.std.specs.Prelude.{Err}
use Rattle.rules.specs.declared.Refusal.{Refusal}
use Rattle.check_sizes.proofs.Sides.{long}
use Rattle.tile_forms.specs.Sample.{Sample}
use Rattle.tiles.specs.Adding.{Gathers}

pub sides-few : (rows cols : ℕ) → sample_sides rows cols ≡ true → (rows ≤ max_sample_side) × (cols ≤ max_sample_side)
unfolding sample_sides
sides-few rows cols e = (
  within-high 1 max_sample_side rows (and_left (within 1 max_sample_side rows) (within 1 max_sample_side cols) e),
  within-high 1 max_sample_side cols (and_right (within 1 max_sample_side rows) (within 1 max_sample_side cols) e),
)

module _ (source : List ℕ) (rows cols count : ℕ) where
  -- a sample that passed its checks
  pub sound : 0 ≡ refusal (sample_checks source rows cols count) → Sample source rows cols
  sound e =
      let h = all_pass (sample_checks source rows cols count) refl (sym e) in
      let s = sides-few rows cols (search) in
      record { low = s.0; narrow = s.1; whole = long source (rows * cols) (search) }

  module _ (rotations reflections : Bool) (store : List ℕ) where
    abbrev tiles : List ℕ
    tiles = extracted source rows cols rotations reflections

    -- the checks of the sample come before the check of the room
    pub told-refused : {r : Refusal} → Err r ≡ checked (sample_checks source rows cols count)
        → Extracts source rows cols count rotations reflections store (Err r) store
    unfolding extraction store_after
    told-refused e =
        record {
          answered = refuses (extraction_checks source rows cols count rotations reflections store) (tiles_in tiles) (stopped _ _ e);
          leaves = (refused {A = Unit {0}} (sample_checks source rows cols count) tt (store_with tiles store) store e).leaves;
        }

    pub told-gathered : (a : Answer ℕ) (x : List ℕ) → 0 ≡ refusal (sample_checks source rows cols count) → Gathers tiles store a x
        → Extracts source rows cols count rotations reflections store a x
    unfolding extraction store_after
    told-gathered a x e w =
        record {
          answered = w.answered ∙ ap (λ (m : ℕ). answered m (tiles_in tiles)) (go _ (sample_checks source rows cols count) (room_check tiles store) e refl);
          leaves = w.leaves ∙ sym (has_new (refusal (sample_checks source rows cols count)) _ store (sym e));
        }
