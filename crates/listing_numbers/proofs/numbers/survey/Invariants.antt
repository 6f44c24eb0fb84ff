-- `listing_numbers::numbers::survey` meets its contract. The loop's invariant: the state is what the bytes passed make. Assumes nothing.
use Rattle.listing_numbers.proofs.Reading.{Counted}
use Rattle.listing_numbers.proofs.numbers.survey.Given as goal

abbrev pub invariant-loop-b : goal.invariant-loop-b
invariant-loop-b l = Counted l.blanks l.limit l.text l.b-index l.s
