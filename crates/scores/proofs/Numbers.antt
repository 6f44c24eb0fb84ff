-- No accepted score call makes a NaN: what stays is finite, and no score is one.
-- Assumes nothing.
use Prim.Native.Nat.{ℕ}
use mathlib.Core.Path.{◌≡◌, sym, subst}
use mathlib.Core.Bool.{true}
use mathlib.Core.List.{List}
use lib.Ieee.{Float}
use Rattle.std.specs.Prelude.{Ok}
use Rattle.rules.specs.Floats.{no_nan, all_are}
use Rattle.rules.specs.Scores.{fraction, squared_fraction, lay_falls, lift_falls, lay_scores, lift_scores, lay_score_checks, lift_score_checks}
use Rattle.rules.specs.Promises.{ScoresLay, ScoresLift}
use Rattle.rules.proofs.Answered.{was-written}
use Rattle.rules.specs.declared.World.{World}
use Rattle.rules.specs.declared.Offset.{Offset}
use Rattle.rules.specs.declared.Span.{Span}
use Rattle.score_mean.proofs.Numbers.{fraction-upward, squared-upward, scored-numbers}
use Rattle.score_checks.proofs.Accept.{lay-passes, spans-pass}

module _ (scores : List Float) (counts : List ℕ) (rows cols tiles : ℕ) {l : List Float} where
  pub lay-score-numbers : (w : World) (o : Offset) → ScoresLay rows cols counts tiles w o scores (Ok tt) l → all_are no_nan l ≡ true
  unfolding lay_scores
  lay-score-numbers w o done =
      let d = was-written (lay_score_checks scores counts rows cols tiles w o) (lay_scores rows cols counts tiles w o scores) scores done in
      let s = lay-passes scores counts rows cols tiles w o d.0 in
      subst (λ (x : List Float). all_are no_nan x ≡ true) (sym d.1)
      (scored-numbers (fraction counts tiles) (λ k. fraction-upward counts tiles k s.scored.planes.number) rows cols (lay_falls rows cols w o)
      scores s.sides s.scored.planes.scores-long s.scored.finite)

  pub lift-score-numbers : (rs cs : Span) → ScoresLift rows cols counts tiles rs cs scores (Ok tt) l → all_are no_nan l ≡ true
  unfolding lift_scores
  lift-score-numbers rs cs done =
      let d = was-written (lift_score_checks scores counts rows cols tiles rs cs) (lift_scores rows cols counts tiles rs cs scores) scores done in
      let s = spans-pass scores counts rows cols tiles rs cs d.0 in
      subst (λ (x : List Float). all_are no_nan x ≡ true) (sym d.1)
      (scored-numbers (squared_fraction counts tiles) (λ k. squared-upward counts tiles k s.scored.planes.number) rows cols (lift_falls rs cs)
      scores s.sides s.scored.planes.scores-long s.scored.finite)
