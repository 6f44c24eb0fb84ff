-- `bitset_colours::all_colours` meets its contract: `all-is`. Assumes nothing.
use mathlib.Core.Path.{◌∙◌, ap}
use Prim.Native.Nat.{ℕ, ◌-◌}
use native.Mathlib.Omega.{arith}
use Rattle.bitset_colours.proofs.Words.{shl_one}
use Rattle.bitset_colours.proofs.Digits.{all-is}
use Rattle.bitset_colours.proofs.all_colours.Goals as goal

pub returns : goal.returns
returns c = ap (λ (x : ℕ). x - 1) (shl_one 32 c.args.size (omega arith)) ∙ all-is c.args.size
