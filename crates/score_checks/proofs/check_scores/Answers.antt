-- `score_checks::check_scores` meets its contract: planes and number, then the old scores. Assumes nothing.
use mathlib.Core.Path.{◌≡◌, ◌∙◌}
use Rattle.std.specs.Prelude.{Ok, Err}
use Rattle.base.proofs.Chain.{chain}
use Rattle.rules.proofs.Answered.{answers, handed_to, passed}
use Rattle.rules.specs.Answers.{Answer, checked}
use Rattle.rules.specs.declared.Refusal.TheVariants as Refusal·
use Rattle.score_checks.proofs.Grouped.{then-old, grouped-answer}
use Rattle.score_checks.proofs.check_scores.Goals as goal

pub returns-in_err-check_counted : goal.returns-in_err-check_counted
returns-in_err-check_counted c =
    let a = c.args in
    let e : Err c.in_err-check_counted.field-0.0 ≡ checked (then-old a.scores.now a.counts.now a.rows a.cols a.tiles) =
    search (chain, answers, c.in_err-check_counted.was) depth 20 fits 5000 in
    handed_to c.from_residual.ensures (e ∙ grouped-answer a.scores.now a.counts.now a.rows a.cols a.tiles)

pub returns-then-not-all_finite : goal.returns-then-not-all_finite
returns-then-not-all_finite c =
    let a = c.args in
    let e : ◌≡◌ {A = Answer Unit} (Err Refusal·.Number) (checked (then-old a.scores.now a.counts.now a.rows a.cols a.tiles)) =
    search (chain, answers, passed _ _ c.check_counted.ensures c.in_ok-check_counted.was) depth 20 fits 5000 in
    e ∙ grouped-answer a.scores.now a.counts.now a.rows a.cols a.tiles

pub returns : goal.returns
returns c =
    let a = c.args in
    let e : ◌≡◌ {A = Answer Unit} (Ok tt) (checked (then-old a.scores.now a.counts.now a.rows a.cols a.tiles)) =
    search (chain, answers, passed _ _ c.check_counted.ensures c.in_ok-check_counted.was) depth 20 fits 5000 in
    e ∙ grouped-answer a.scores.now a.counts.now a.rows a.cols a.tiles
