-- `listing_numbers::numbers::with_digit` meets its contract: the sum in 64 bits is the number, by arithmetic. Assumes nothing.
use native.Mathlib.Omega.{arith}
use Rattle.listing_numbers.specs.Decimals.{with_digit}
use Rattle.listing_numbers.proofs.numbers.with_digit.Goals as goal

pub returns : goal.returns
unfolding with_digit
returns c = omega arith
