-- `fit_pattern::is_bare` meets its contract: eight cells read as one number, and the ninth, are 0. Assumes nothing.
use Prim.Native.Nat.{◌<◌}
use native.Mathlib.Omega.{arith}
use Rattle.fit_pattern.specs.Patch.{shown_in}
use Rattle.fit_pattern.proofs.Packed.{bare-cells}
use Rattle.fit_pattern.proofs.Patch.{shown-each, last-is}
use Rattle.fit_pattern.proofs.is_bare.Goals as goal

pub returns : goal.returns
returns c =
    let a = c.args in
    rw (c.eight-first.ensures, last-is a.cells.now a.width a.at) (bare-cells (shown_in a.cells.now a.width a.at)
    (shown-each a.cells.now a.width a.at (λ x. x < 256) (λ i. omega (arith, c.type_inv.cells i))))
