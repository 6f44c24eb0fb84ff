-- `bitset::all` meets its contract: the empty set of the size, then the set of all. Assumes nothing.
use Prim.Native.Nat.{ℕ}
use mathlib.Core.Path.{◌≡◌, ap}
use Rattle.base.proofs.Chain.{chain}
use Rattle.rules.specs.Sets.{empty_set, full_set}
use Rattle.rules.specs.declared.TileBitset.{TileBitset}
use Rattle.rules.proofs.Answered.{answers, handed_to, passed, tells, told-by}
use Rattle.check_sizes.proofs.Sides.{count_most}
use Rattle.bitset.proofs.Calls.{counted}
use Rattle.bitset.proofs.all.Goals as goal

pub returns-in_err-empty : goal.returns-in_err-empty
unfolding empty_set full_set
returns-in_err-empty c = handed_to c.from_residual.ensures (search (chain, answers, c.in_err-empty.was) depth 20 fits 5000)

pub all_colours-bits-requires : goal.all_colours-bits-requires
unfolding empty_set
all_colours-bits-requires c = count_most c.args.size (counted c.args.size (passed _ _ c.new.ensures c.in_ok-empty.was))

of-sized : {x y b n : ℕ} → x ≡ b → y ≡ n → ◌≡◌ {A = TileBitset} (record { bits = x; size = y }) (record { bits = b; size = n })
of-sized p q = rw (p, q)

pub returns : goal.returns
unfolding empty_set full_set
returns c =
    let h = passed _ _ c.new.ensures c.in_ok-empty.was in
    tells _ h (of-sized c.all_colours-bits.ensures (ap (λ (s : TileBitset). s.size) (told-by _ _ c.new.ensures c.in_ok-empty.was)))
