-- `bitset::insert` meets its contract: a refusal, a colour past the size, or the bit set. Assumes nothing.
use native.Mathlib.Omega.{arith}
use Rattle.base.proofs.Chain.{chain}
use Rattle.rules.proofs.Answered.{answers, handed_to, passed}
use Rattle.rules.specs.Sets.{inserted}
use Rattle.bitset_colours.proofs.Words.{past_is}
use Rattle.bitset_colours.proofs.Calls.{of-bits}
use Rattle.bitset.proofs.Calls.{few, marked}
use Rattle.bitset.proofs.insert.Goals as goal

pub returns-in_err-check_set : goal.returns-in_err-check_set
unfolding inserted
returns-in_err-check_set c = handed_to c.from_residual.ensures (search (chain, answers, c.in_err-check_set.was) depth 20 fits 5000)

pub returns-then-set-tile : goal.returns-then-set-tile
unfolding inserted
returns-then-set-tile c =
    let a = c.args in
    let s = a.set in
    let h = passed _ _ c.check_set.ensures c.in_ok-check_set.was in
    let same = of-bits s.size s.bits _ (past_is s.size s.bits a.tile (marked s h) c.if-set-tile.true) in
    search (chain, answers) depth 20 fits 5000

pub with_colour-bits-requires : goal.with_colour-bits-requires
with_colour-bits-requires c = omega (arith, few c.args.set (passed _ _ c.check_set.ensures c.in_ok-check_set.was), c.if-set-tile.false)

pub returns : goal.returns
unfolding inserted
returns c = let h = passed _ _ c.check_set.ensures c.in_ok-check_set.was in search (chain, answers, of-bits, marked, c.with_colour-bits.ensures) depth 20 fits 5000
