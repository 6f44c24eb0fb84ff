-- `listing_numbers::numbers::read_input` meets its contract: a longer input is bad, any other is what the parse makes of it. Assumes nothing.
use mathlib.Core.Path.{refl}
use Rattle.listing_numbers.proofs.Reading.{input-long, input-short}
use Rattle.listing_numbers.proofs.numbers.read_input.Goals as goal

pub returns-then-input-gt-MAX_INPUT : goal.returns-then-input-gt-MAX_INPUT
returns-then-input-gt-MAX_INPUT c = rw (input-long _ c.if-input-gt-MAX_INPUT.true) (record { answered = refl; leaves = refl })

pub returns : goal.returns
returns c = rw (input-short _ c.before.before.before.before.before.if-input-gt-MAX_INPUT.false) c.before.before.parse.ensures
