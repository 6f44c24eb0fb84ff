-- What the functions beneath the calls lean on: the checks that their callers have made.
use Rattle.std.specs.Prelude.{ℕ, ◌*◌, ◌≤◌, ◌≡◌, List, length, Float}
use Rattle.base.specs.Regions.{RegionFits}
use Rattle.rules.specs.Bounds.{max_influence_side}
use Rattle.rules.specs.declared.Span.{Span}

-- one colour's plane and its part of the block
pub record ColourFits (plane block : List Float) (cols brows bcols : ℕ) (rowspan colspan : Span) : Type 0 where
  pub region : RegionFits (length plane) cols rowspan.0 rowspan.1 colspan.0 colspan.1
  pub block-rows : brows ≤ max_influence_side
  pub block-cols : bcols ≤ max_influence_side
  pub block-long : length block ≡ brows * bcols

-- those of all colours
pub record StepFits (plane block : List Float) (cells cols count brows bcols : ℕ) (rowspan colspan : Span) : Type 0 where
  pub region : RegionFits cells cols rowspan.0 rowspan.1 colspan.0 colspan.1
  pub long : length plane ≡ count * cells
  pub block-rows : brows ≤ max_influence_side
  pub block-cols : bcols ≤ max_influence_side
  pub block-long : length block ≡ count * (brows * bcols)
