-- A score of each cell of two spans, of what it sums of a fraction: what the lift score and the plain score share.
use Rattle.std.specs.Prelude.{ℕ, min, List, Float}
use Rattle.rules.specs.Scores.{lift_falls, scored, lift_score_checks}
use Rattle.rules.specs.Promises.{Writes}
use Rattle.rules.specs.declared.Span.{Span}
use Rattle.score_mean.specs.Box.{term_of}
use Rattle.rules.specs.Answers.{Answer}

-- a span with the same cells whose start is not past its end
abbrev pub ordered_span : Span → Span
ordered_span s = record { 0 = min s.0 s.1; 1 = s.1 }

abbrev pub ScoresSpans : (Float → Float) → ℕ → ℕ → List ℕ → ℕ → Span → Span → List Float → Answer Unit → List Float → Type 0
ScoresSpans f rows cols counts tiles rowspan colspan old =
    Writes (lift_score_checks old counts rows cols tiles rowspan colspan) (scored rows cols (lift_falls rowspan colspan) (term_of f counts tiles) old) old
