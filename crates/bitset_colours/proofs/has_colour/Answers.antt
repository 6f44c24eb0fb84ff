-- `bitset_colours::has_colour` meets its contract: the digit of the colour, which is asked only where the colour is not 0. Assumes nothing.
use mathlib.Core.Path.{sym, ◌∙◌, ap}
use Prim.Native.Nat.{◌-◌}
use native.Mathlib.Omega.{arith}
use Rattle.rules.specs.Sets.{has}
use Rattle.bitset_colours.proofs.Digits.{has-zero}
use Rattle.bitset_colours.proofs.Words.{has-next}
use Rattle.bitset_colours.proofs.has_colour.Goals as goal

pub returns-then-t-ne0 : goal.returns-then-t-ne0
returns-then-t-ne0 c = has-next c.args.bits (c.args.t - 1) ∙ ap (has c.args.bits) (omega (arith, c.if-t-ne0.true))

pub returns-else-t-ne0 : goal.returns-else-t-ne0
returns-else-t-ne0 c = rw c.if-t-ne0.false (sym (has-zero c.args.bits))
