-- `tiles::gather` meets its contract: the loop keeps the distinct tiles of the variants so far, and their chains. Assumes nothing.
use mathlib.Core.Path.{◌∙◌}
use native.Mathlib.Omega.{arith}
use Rattle.rules.specs.Tiles.{extracted}
use Rattle.rules.proofs.Answered.{handed_to}
use Rattle.tile_forms.proofs.Variants.{variant-nine}
use Rattle.tiles.proofs.Store.{kept_none, kept-chained, kept_on, full-end, done_end}
use Rattle.tiles.proofs.gather.Goals as goal

pub loop-v-init : goal.loop-v-init
loop-v-init c = kept_none _ _

pub add_tile-requires : goal.add_tile-requires
add_tile-requires c =
    let k = c.loop-v.invariant in (
      omega (arith, k.fitted, k.same),
      omega (arith, k.few, c.loop-v-test.true, c.variants_of-total.ensures.1),
      variant-nine _ _ _ _ _ _ _ c.variant_of-tile.ensures,
      kept-chained _ _ _ _ _ _ _ k,
    )

pub returns-in_err-n : goal.returns-in_err-n
unfolding extracted
returns-in_err-n c =
    let g = full-end _ _ _ _ _ _ _ c.loop-v.invariant _ _ _ _ c.variant_of-tile.ensures (variant-nine _ _ _ _ _ _ _ c.variant_of-tile.ensures) c.add_tile.ensures
    _ c.in_err-n.was (omega (arith, c.loop-v-test.true, c.variants_of-total.ensures.0)) in
    record { answered = handed_to c.from_residual.ensures g.answered; leaves = g.leaves }

pub loop-v-preserved : goal.loop-v-preserved
loop-v-preserved c =
    kept_on _ _ _ _ _ _ _ c.loop-v.invariant _ _ _ _ c.variant_of-tile.ensures (variant-nine _ _ _ _ _ _ _ c.variant_of-tile.ensures) c.add_tile.ensures
    c.in_ok-n.was (c.add_tile.auto.store ∙ c.loop-v.invariant.same)

pub returns : goal.returns
unfolding extracted
returns c = done_end _ _ _ _ _ _ _ c.loop-v.invariant _ (omega (arith, c.loop-v-test.false, c.variants_of-total.ensures.0))
