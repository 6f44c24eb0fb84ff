-- `bitset::contains` meets its contract: a refusal, a colour past the size, or its digit. Assumes nothing.
use mathlib.Core.Path.{sym}
use native.Mathlib.Omega.{arith}
use Rattle.base.proofs.Chain.{chain}
use Rattle.rules.proofs.Answered.{answers, handed_to, passed}
use Rattle.rules.specs.Sets.{contained}
use Rattle.bitset_colours.proofs.Digits.{has-past}
use Rattle.bitset.proofs.Calls.{few, marked}
use Rattle.bitset.proofs.contains.Goals as goal

pub returns-in_err-check_set : goal.returns-in_err-check_set
unfolding contained
returns-in_err-check_set c = handed_to c.from_residual.ensures (search (chain, answers, c.in_err-check_set.was) depth 20 fits 5000)

pub returns-then-set-tile : goal.returns-then-set-tile
unfolding contained
returns-then-set-tile c =
    let h = passed _ _ c.check_set.ensures c.in_ok-check_set.was in
    let s = c.args.set in
    let out = sym (has-past s.size s.bits c.args.tile (marked s h) c.if-set-tile.true) in
    search (chain, answers) depth 20 fits 5000

pub has_colour-requires : goal.has_colour-requires
has_colour-requires c = omega (arith, few c.args.set (passed _ _ c.check_set.ensures c.in_ok-check_set.was), c.if-set-tile.false)

pub returns : goal.returns
unfolding contained
returns c = let h = passed _ _ c.check_set.ensures c.in_ok-check_set.was in search (chain, answers) depth 20 fits 5000
