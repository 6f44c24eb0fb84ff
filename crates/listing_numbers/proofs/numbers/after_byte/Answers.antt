-- `listing_numbers::numbers::after_byte` meets its contract, exit by exit. Assumes nothing.
use mathlib.Core.Path.{sym, ◌∙◌, ap}
use native.Mathlib.Omega.{arith}
use Rattle.listing_numbers.specs.States.{bytes_read}
use Rattle.listing_numbers.proofs.Reading.{next-spoilt, next-blank, next-first, next-end, next-digit}
use Rattle.listing_numbers.proofs.numbers.after_byte.Goals as goal

pub returns-then-is_blank : goal.returns-then-is_blank
returns-then-is_blank c = next-blank _ _ _ _ _ c.in-Between.is (sym c.is_blank.ensures ∙ c.if-is_blank.true)

pub overflow_add-result : goal.overflow_add-result
overflow_add-result c = omega (arith, c.requires, ap bytes_read c.in-Inside.is)

pub returns-then-is_blank-2 : goal.returns-then-is_blank-2
returns-then-is_blank-2 c = next-end _ _ _ _ _ _ c.in-Inside.is (sym c.is_blank-in-Inside.ensures ∙ c.if-is_blank-2.true)

pub returns-in-Spoilt : goal.returns-in-Spoilt
returns-in-Spoilt c = next-spoilt _ _ _ _ c.in-Spoilt.is

pub returns-else-is_blank : goal.returns-else-is_blank
returns-else-is_blank c = next-first _ _ _ _ _ _ c.in-Between.is (sym c.is_blank.ensures ∙ c.if-is_blank.false) c.grown_by.ensures

pub returns-else-is_blank-2 : goal.returns-else-is_blank-2
returns-else-is_blank-2 c = next-digit _ _ _ _ _ _ _ c.in-Inside.is (sym c.is_blank-in-Inside.ensures ∙ c.if-is_blank-2.false) c.grown_by-in-Inside.ensures
