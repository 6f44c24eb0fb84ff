-- `place_spans::get_region_spans` meets its contract: a refusal is handed on, and without one the two spans are answered.
-- Assumes nothing.
use mathlib.Core.Path.{◌≡◌, sym, ◌∙◌}
use native.Mathlib.Omega.{arith}
use lib.IntN.{ℤ, ◌+ℤ◌}
use Rattle.base.proofs.Chain.{chain}
use Rattle.rules.proofs.Answered.{answers, handed_to, passed, tells}
use Rattle.rules.specs.Places.{span_of, region_spans}
use Rattle.rules.specs.declared.Span.{Span}
use Rattle.rules.specs.declared.Spans.{Spans}
use Rattle.places.proofs.Wide.{same-two}
use Rattle.places.proofs.Indices.{region}
use Rattle.place_spans.proofs.get_region_spans.Goals as goal

pub returns-in_err-check_region : goal.returns-in_err-check_region
unfolding region_spans
returns-in_err-check_region c = handed_to c.from_residual.ensures (search (chain, answers, c.in_err-check_region.was) depth 20 fits 5000)

pub span_along-requires : goal.span_along-requires
span_along-requires c = (region _ _ _ (sym (passed _ _ c.check_region.ensures c.in_ok-check_region.was))).near

pub span_along-requires-2 : goal.span_along-requires-2
span_along-requires-2 c = (region _ _ _ (sym (passed _ _ c.check_region.ensures c.in_ok-check_region.was))).near

both : {r s p q : Span} → r ≡ p → s ≡ q → ◌≡◌ {A = Spans} (record { rows = r; cols = s }) (record { rows = p; cols = q })
both e h = rw (e, h)

pub returns : goal.returns
unfolding region_spans
returns c =
    let a = c.args in
    let span : ℤ → ℤ → Span = λ x y. span_of (x +ℤ y) a.radius in
    tells _ (passed _ _ c.check_region.ensures c.in_ok-check_region.was)
    (both
    (c.span_along.ensures ∙ same-two span a.place.0 a.offset.0 (omega arith) (omega arith))
    (c.span_along-2.ensures ∙ same-two span a.place.1 a.offset.1 (omega arith) (omega arith)))
