-- `tile_forms::variant_of` meets its contract: the form of the window that the number says. Assumes nothing.
use Rattle.tile_forms.proofs.Variants.{variant_is}
use Rattle.tile_forms.proofs.variant_of.Goals as goal

pub returns : goal.returns
returns c =
    variant_is _ _ _ c.args.rotations c.args.reflections _ _ _ _ _ c.forms_of-n.ensures c.starts_along-wide.ensures c.window_tile-tile.ensures
    c.form_of.ensures
