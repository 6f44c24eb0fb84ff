-- `listing_numbers::numbers::keep` meets its contract. The loop's invariant: the state is what the bytes passed make, and the store starts with the
-- numbers begun so far. Assumes nothing.
use native.Mathlib.Omega.{arith}
use Rattle.listing_numbers.proofs.Reading.{kept-none, kept-room, kept-turn, kept-all}
use Rattle.listing_numbers.proofs.numbers.keep.Goals as goal

pub loop-b-init : goal.loop-b-init
loop-b-init c = kept-none _ _ _ _

pub after_byte-s-requires : goal.after_byte-s-requires
after_byte-s-requires c = omega (arith, c.loop-b.invariant.counted.few)

pub hold-requires : goal.hold-requires
hold-requires c = kept-room _ _ _ _ c.requires c.loop-b.invariant c.loop-b-test.true c.after_byte-s.ensures

pub loop-b-preserved : goal.loop-b-preserved
loop-b-preserved c = kept-turn _ _ _ _ c.requires c.loop-b.invariant c.loop-b-test.true c.after_byte-s.ensures c.hold.ensures c.hold.auto.store

pub shape_of-store : goal.shape_of-store
shape_of-store c = c.loop-b.invariant.same

pub returns : goal.returns
returns c = kept-all _ _ _ _ c.loop-b.invariant c.loop-b-test.false
