-- The plane that a score of two spans leaves, as a region's whose cells get their scores.
-- Assumes nothing.
use Prim.Native.Nat.{ℕ, ◌*◌}
use mathlib.Core.Path.{◌≡◌}
use mathlib.Core.Bool.{true}
use mathlib.Core.List.{List}
use native.Mathlib.Omega.{arith}
use lib.ListN.{length}
use lib.Ieee.{Float}
use Rattle.rules.specs.Tests.{board_sides}
use Rattle.rules.specs.Scores.{in_span, lift_falls, scored}
use Rattle.rules.specs.declared.Span.{Span}
use Rattle.score_mean.specs.Box.{term_of}
use Rattle.score_regions.specs.Region.{region_scored}
use Rattle.score_regions.proofs.Scored.{same-between, region-scored}
use Rattle.score_spans.specs.Spans.{ordered_span}

-- the test of a span in order says the same
ordered-falls : (s : Span) (x : ℕ) → in_span (ordered_span s) x ≡ in_span s x
ordered-falls s x = same-between _ _ _ _ x (λ a b. (omega arith, b)) (λ a b. (omega arith, b))

pub spans-scored : (scores : List Float) (counts : List ℕ) (rows cols tiles : ℕ) → board_sides rows cols ≡ true → length scores ≡ rows * cols
    → (f : Float → Float) (rs cs : Span)
    → region_scored f counts tiles cols (ordered_span rs) (ordered_span cs) scores ≡ scored rows cols (lift_falls rs cs) (term_of f counts tiles) scores
spans-scored scores counts rows cols tiles sides long f rs cs =
    region-scored scores counts rows cols tiles sides long f (ordered_span rs) (ordered_span cs) (lift_falls rs cs)
    (λ r c _ _. rw (ordered-falls rs r, ordered-falls cs c))
