-- The scores of the cells of two spans, the cells that the targets of a lay write, and what the functions lean on: the checks that their
-- callers have made.
use Rattle.std.specs.Prelude.{ℕ, ◌+◌, min, ◌≡◌, true, List, length, Float}
use Rattle.std.specs.Float.{nan}
use Rattle.base.specs.Regions.{RegionFits, over_region}
use Rattle.rules.specs.Tests.{tile_number_fits}
use Rattle.rules.specs.declared.Span.{Span}
use Rattle.score_mean.specs.Box.{score_at}

-- each cell of a region gets its score, whatever it held; the others stay
abbrev pub score_step : (Float → Float) → List ℕ → ℕ → ℕ → ℕ → ℕ → Float → Float
score_step f counts tiles cols r c old = score_at f counts tiles cols r c

unfoldable pub region_scored : (Float → Float) → List ℕ → ℕ → ℕ → Span → Span → List Float → List Float
region_scored f counts tiles cols rowspan colspan scores =
    over_region nan (score_step f counts tiles cols) cols rowspan.0 rowspan.1 colspan.0 colspan.1 scores

-- the cells one further down or right than the targets of a lay, as far as the side goes
abbrev pub past_targets : ℕ → Span → Span
past_targets side s = record { 0 = min (s.0 + 2) (min (s.1 + 1) side); 1 = min (s.1 + 1) side }

pub record ScoresFit (scores : List Float) (counts : List ℕ) (cols tiles : ℕ) (rowspan colspan : Span) : Type 0 where
  pub region : RegionFits (length scores) cols rowspan.0 rowspan.1 colspan.0 colspan.1
  pub number : tile_number_fits tiles ≡ true
  pub long : length counts ≡ length scores
