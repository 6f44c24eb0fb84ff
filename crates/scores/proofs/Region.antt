-- The planes that the two scores leave, as a region's whose cells get their scores; and what an accepted lift score has passed.
-- Assumes nothing.
use Prim.Native.Nat.{ℕ, ◌*◌, ◌<◌}
use mathlib.Core.Path.{◌≡◌}
use mathlib.Core.Bool.{true}
use mathlib.Core.List.{List}
use native.Mathlib.Omega.{arith}
use lib.ListN.{length}
use lib.Ieee.{Float}
use Rattle.base.specs.Refusal.{refusal}
use Rattle.rules.specs.Tests.{board_sides, on_board}
use Rattle.rules.specs.Places.{cell_of}
use Rattle.rules.specs.Scores.{in_span, lay_falls, past_target, squared_fraction, lay_scores, lift_scores, lift_score_checks}
use Rattle.rules.specs.declared.World.{World}
use Rattle.rules.specs.declared.Offset.{Offset}
use Rattle.rules.specs.declared.Span.{Span}
use Rattle.rules.specs.declared.Spans.{Spans}
use Rattle.places.proofs.Indices.{spans_round, row-span, col-span}
use Rattle.score_mean.specs.Box.{unsquared, squared}
use Rattle.score_regions.specs.Region.{region_scored, past_targets}
use Rattle.score_regions.proofs.Scored.{same-between, region-scored}
use Rattle.score_checks.proofs.Accept.{SpansPass, spans-pass}
use Rattle.score_spans.specs.Spans.{ordered_span}
use Rattle.score_spans.proofs.Region.{spans-scored}

-- the test of the cells past the targets says the same of every cell of the side
past-falls : (side : ℕ) (s : Span) (x : ℕ) → x < side → in_span (past_targets side s) x ≡ past_target side s x
past-falls side s x h = same-between _ _ _ _ x (λ a b. (omega arith, omega arith)) (λ a b. (omega arith, omega arith))

pub lay-scored : (scores : List Float) (counts : List ℕ) (rows cols tiles : ℕ) → board_sides rows cols ≡ true → length scores ≡ rows * cols
    → (w : World) (o : Offset) → on_board rows cols w o ≡ true → {round : Spans} → round ≡ spans_round (cell_of w o) 2
    → region_scored unsquared counts tiles cols (past_targets rows round.rows) (past_targets cols round.cols) scores ≡ lay_scores rows cols counts tiles w o scores
unfolding lay_scores
lay-scored scores counts rows cols tiles sides long w o on {round} p =
    region-scored scores counts rows cols tiles sides long unsquared (past_targets rows round.rows) (past_targets cols round.cols) (lay_falls rows cols w o)
    (λ r c r< c<. rw (past-falls rows round.rows r r<, past-falls cols round.cols c c<, p, row-span rows cols w o on 2, col-span rows cols w o on 2))

pub lift-scored : (scores : List Float) (counts : List ℕ) (rows cols tiles : ℕ) → board_sides rows cols ≡ true → length scores ≡ rows * cols → (rs cs : Span)
    → region_scored squared counts tiles cols (ordered_span rs) (ordered_span cs) scores ≡ lift_scores rows cols counts tiles rs cs scores
unfolding lift_scores squared_fraction
lift-scored scores counts rows cols tiles sides long rs cs = spans-scored scores counts rows cols tiles sides long squared rs cs

pub lift-passes : (scores : List Float) (counts : List ℕ) (rows cols tiles : ℕ) (rs cs : Span)
    → refusal (lift_score_checks scores counts rows cols tiles rs cs) ≡ 0 → SpansPass scores counts rows cols tiles rs cs
lift-passes scores counts rows cols tiles rs cs e = spans-pass scores counts rows cols tiles rs cs e
