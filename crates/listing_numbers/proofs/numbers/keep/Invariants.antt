-- `listing_numbers::numbers::keep` meets its contract. The loop's invariant: the state is what the bytes passed make, and the store starts with the
-- numbers begun so far. Assumes nothing.
use Rattle.listing_numbers.proofs.Reading.{Kept}
use Rattle.listing_numbers.proofs.numbers.keep.Given as goal

abbrev pub invariant-loop-b : goal.invariant-loop-b
invariant-loop-b l = Kept l.blanks l.limit l.text l.initial.store l.b-index l.s l.store
