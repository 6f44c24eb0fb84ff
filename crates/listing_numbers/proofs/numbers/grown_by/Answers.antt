-- `listing_numbers::numbers::grown_by` meets its contract, exit by exit; the last cast loses nothing, since the number is within the limit.
-- Assumes nothing.
use mathlib.Core.Logic.{⊎_elim}
use native.Mathlib.Omega.{arith}
use Rattle.listing_numbers.proofs.Reading.{below-digits, above-digits, too_large, a-digit}
use Rattle.listing_numbers.proofs.numbers.grown_by.Goals as goal

pub returns-then-not-is_ascii_digit : goal.returns-then-not-is_ascii_digit
returns-then-not-is_ascii_digit c = ⊎_elim (λ h. below-digits _ _ _ _ h) (λ h. above-digits _ _ _ _ h) c.if-not-is_ascii_digit.ensures.cases

pub returns-then-from-next : goal.returns-then-from-next
returns-then-from-next c = too_large _ _ _ _ _ c.with_digit-next.ensures (omega arith)

pub returns : goal.returns
returns c =
    a-digit _ _ _ _ _ c.if-not-is_ascii_digit.ensures.cases.0 c.if-not-is_ascii_digit.ensures.cases.1 c.with_digit-next.ensures (omega arith)
