-- `probabilities::change_probabilities` meets its contract: refused, or every colour changed over the clipped region. Assumes nothing.
use mathlib.Core.Path.{refl, sym, ap, ◌∙◌}
use Prim.Native.Nat.{◌*◌}
use native.Mathlib.Omega.{arith}
use Rattle.rules.specs.Probabilities.{Region, clipped_to}
use Rattle.rules.specs.declared.Spans.{Spans}
use Rattle.rules.proofs.Answered.{passed, done}
use Rattle.check_sizes.proofs.Sides.{few-cells}
use Rattle.place_spans.proofs.Spanned.{never-refused, spans-round}
use Rattle.probability_influence.specs.Step.{block_of, colours_changed}
use Rattle.probabilities.proofs.Accept.{step-passes}
use Rattle.probabilities.proofs.Whole.{whole-step, region-is, region-fits}
use Rattle.probabilities.proofs.change_probabilities.Goals as goal

pub returns-in_err-round : goal.returns-in_err-round
returns-in_err-round g c =
    let s = step-passes _ _ _ _ _ _ _ _ (sym (passed _ _ c.check_step.ensures c.in_ok-check_step.was)) in
    absurd (never-refused _ _ _ _ c.args.radius s.place s.radius c.get_region_spans.ensures c.in_err-round.was)

pub overflow_mul-rows : goal.overflow_mul-rows
overflow_mul-rows g c =
    let s = step-passes _ _ _ _ _ _ _ _ (sym (passed _ _ c.check_step.ensures c.in_ok-check_step.was)) in
    record { fits = omega (arith, few-cells _ _ s.sides) }

pub change_colours-requires : goal.change_colours-requires
change_colours-requires g c =
    let a = c.args in
    let s = step-passes _ _ _ _ _ _ _ _ (sym (passed _ _ c.check_step.ensures c.in_ok-check_step.was)) in
    let round = spans-round _ _ _ _ a.radius s.place s.radius c.get_region_spans.ensures c.in_ok-round.was in
    let rows = c.clipped.ensures ∙ ap (λ (x : Spans). clipped_to a.rows x.rows) round in
    let cols = c.clipped-2.ensures ∙ ap (λ (x : Spans). clipped_to a.cols x.cols) round in
    record {
      region = region-fits _ _ _ _ a.radius s.place rows cols s.sides;
      long = s.long;
      block-rows = s.block-rows;
      block-cols = s.block-cols;
      block-long = s.block-long;
    }

pub returns : goal.returns
returns g c =
    let a = c.args in
    let b = block_of a.brows a.bcols a.block.now in
    let all = passed _ _ c.check_step.ensures c.in_ok-check_step.was in
    let s = step-passes _ _ _ _ _ _ _ _ (sym all) in
    let round = spans-round _ _ _ _ a.radius s.place s.radius c.get_region_spans.ensures c.in_ok-round.was in
    let rows = c.clipped.ensures ∙ ap (λ (x : Spans). clipped_to a.rows x.rows) round in
    let cols = c.clipped-2.ensures ∙ ap (λ (x : Spans). clipped_to a.cols x.cols) round in
    done _ _ _ _ all refl
    (c.change_colours.ensures
    ∙ ap (λ (x : Region). colours_changed g.C.Change.cell (a.rows * a.cols) a.cols x b a.probabilities.now)
    (region-is _ _ _ _ a.radius s.place rows cols)
    ∙ whole-step g.C.Change.cell a.rows a.cols b a.place a.offset a.radius a.probabilities.now)
