-- `listing_numbers::numbers::survey` meets its contract. The loop's invariant: the state is what the bytes passed make. Assumes nothing.
use mathlib.Core.Path.{sym, ◌∙◌, ap}
use native.Mathlib.Omega.{arith}
use Rattle.listing_numbers.specs.States.{found_by, bytes_read}
use Rattle.listing_numbers.proofs.Reading.{counted_none, counted-turn, counted-all}
use Rattle.listing_numbers.proofs.numbers.survey.Goals as goal

pub loop-b-init : goal.loop-b-init
loop-b-init c = counted_none _ _ _

pub after_byte-s-requires : goal.after_byte-s-requires
after_byte-s-requires c = omega (arith, c.loop-b.invariant.few)

pub loop-b-preserved : goal.loop-b-preserved
loop-b-preserved c = counted-turn _ _ _ _ c.loop-b.invariant c.loop-b-test.true c.after_byte-s.ensures

pub overflow_add-result : goal.overflow_add-result
overflow_add-result c = omega (arith, c.loop-b.invariant.few, c.loop-b.invariant.within, ap bytes_read c.in-Inside.is)

pub returns-in-Spoilt : goal.returns-in-Spoilt
returns-in-Spoilt c = ap found_by (sym c.in-Spoilt.is ∙ counted-all _ _ _ c.loop-b.invariant c.loop-b-test.false)

pub returns-in-Between : goal.returns-in-Between
returns-in-Between c = ap found_by (sym c.in-Between.is ∙ counted-all _ _ _ c.loop-b.invariant c.loop-b-test.false)

pub returns-in-Inside : goal.returns-in-Inside
returns-in-Inside c = ap found_by (sym c.in-Inside.is ∙ counted-all _ _ _ c.loop-b.invariant c.loop-b-test.false)
