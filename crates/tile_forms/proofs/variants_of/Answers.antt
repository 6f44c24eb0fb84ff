-- `tile_forms::variants_of` meets its contract: a product of three small numbers. Assumes nothing.
use Prim.Native.Nat.{◌≤◌}
use native.Mathlib.Omega.{arith}
use Rattle.tile_forms.proofs.Variants.{turns-le, forms-le, variants-le, variants-is}
use Rattle.tile_forms.proofs.variants_of.Goals as goal

pub returns : goal.returns
returns c =
    let tall : c.starts_along.result ≤ 30 = omega (arith, c.starts_along.ensures, c.requires.0) in
    let wide : c.starts_along-2.result ≤ 30 = omega (arith, c.starts_along-2.ensures, c.requires.1) in
    let few : c.forms_of.result ≤ 8 = omega (arith, c.forms_of.ensures, forms-le c.args.rotations c.args.reflections, turns-le c.args.rotations) in (
      variants-is c.args.rows c.args.cols _ _ _ c.args.rotations c.args.reflections c.starts_along.ensures c.starts_along-2.ensures c.forms_of.ensures,
      variants-le tall wide few,
    )
