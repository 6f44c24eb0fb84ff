-- `tile_forms::form_of` meets its contract: a turned form or the reflection of one. Assumes nothing.
use Rattle.tile_forms.proofs.Variants.{form-turned, form-reflected}
use Rattle.tile_forms.proofs.form_of.Goals as goal

pub returns-then-i-n : goal.returns-then-i-n
returns-then-i-n c = form-turned _ _ _ _ _ c.turns_of-n.ensures c.if-i-n.true c.rotate_times.ensures

pub returns : goal.returns
returns c = form-reflected _ _ _ _ _ c.turns_of-n.ensures _ c.if-i-n.false c.rotate_times-2.ensures c.reflect.ensures
