-- No accepted call of the plain score makes a NaN: what stays is finite, and no score is one.
-- Assumes nothing.
use Prim.Native.Nat.{ℕ}
use mathlib.Core.Path.{◌≡◌, sym, subst}
use mathlib.Core.Bool.{true}
use mathlib.Core.List.{List}
use lib.Ieee.{Float}
use Rattle.std.specs.Prelude.{Ok}
use Rattle.rules.specs.Floats.{no_nan, all_are}
use Rattle.rules.specs.Scores.{fraction, lift_falls, plain_scores, whole_scores, lift_score_checks, whole_score_checks}
use Rattle.rules.specs.Promises.{ScoresPlain, ScoresWhole}
use Rattle.rules.proofs.Answered.{was-written}
use Rattle.rules.specs.declared.Span.{Span}
use Rattle.score_mean.proofs.Numbers.{fraction-upward, scored-numbers, whole_numbers}
use Rattle.score_checks.proofs.Accept.{spans-pass, whole-passes}

module _ (scores : List Float) (counts : List ℕ) (rows cols tiles : ℕ) {l : List Float} where
  pub plain-score-near-numbers : (rs cs : Span) → ScoresPlain rows cols counts tiles rs cs scores (Ok tt) l → all_are no_nan l ≡ true
  unfolding plain_scores
  plain-score-near-numbers rs cs done =
      let d = was-written (lift_score_checks scores counts rows cols tiles rs cs) (plain_scores rows cols counts tiles rs cs scores) scores done in
      let s = spans-pass scores counts rows cols tiles rs cs d.0 in
      subst (λ (x : List Float). all_are no_nan x ≡ true) (sym d.1)
      (scored-numbers (fraction counts tiles) (λ k. fraction-upward counts tiles k s.scored.planes.number) rows cols (lift_falls rs cs)
      scores s.sides s.scored.planes.scores-long s.scored.finite)

  -- the old scores may be anything
  pub plain-score-numbers : ScoresWhole rows cols counts tiles scores (Ok tt) l → all_are no_nan l ≡ true
  unfolding whole_scores
  plain-score-numbers done =
      let d = was-written (whole_score_checks scores counts rows cols tiles) (whole_scores rows cols counts tiles) scores done in
      let s = whole-passes scores counts rows cols tiles d.0 in
      subst (λ (x : List Float). all_are no_nan x ≡ true) (sym d.1)
      (whole_numbers (fraction counts tiles) (λ k. fraction-upward counts tiles k s.planes.number) rows cols s.sides)
