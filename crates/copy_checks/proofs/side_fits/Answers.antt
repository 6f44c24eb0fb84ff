-- `copy_checks::side_fits` meets its contract: a sum that does not fit is past the bound, and so is the largest number, where it stays.
-- Assumes nothing.
use Prim.Native.Nat.{◌+◌}
use mathlib.Core.Path.{◌≡◌, ◌∙◌}
use native.Mathlib.Omega.{arith}
use Rattle.std.proofs.Common.{rules}
use Rattle.base.specs.Counting.{within}
use Rattle.rules.specs.Bounds.{max_board_side}
use Rattle.copy_checks.proofs.Sides.{same-within}
use Rattle.copy_checks.proofs.side_fits.Goals as goal

pub returns : goal.returns
unfolding within
returns c =
    let a = c.args in
    let told : c.contains.result ≡ within 1 max_board_side c.saturating_add-2.result = search rules in
    told
    ∙ same-within 1 max_board_side c.saturating_add-2.result (a.before + a.side + a.after) (λ h. (omega (arith, h), omega (arith, h)))
    (λ h. (omega (arith, h), omega (arith, h)))
