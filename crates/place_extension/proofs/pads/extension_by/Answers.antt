-- `place_extension::pads::extension_by` meets its contract: the pads and the new offset, put together. Assumes nothing.
use mathlib.Core.Path.{◌≡◌}
use mathlib.Core.Bool.{Bool}
use Rattle.rules.specs.Places.{extension_by}
use Rattle.rules.specs.declared.Offset.{Offset}
use Rattle.rules.specs.declared.Pads.{Pads}
use Rattle.rules.specs.declared.ExtensionInfo.{ExtensionInfo}
use Rattle.place_extension.proofs.pads.extension_by.Goals as goal

moved : {p : Pads} {n : Bool} {x y : Offset} → x ≡ y → ◌≡◌ {A = ExtensionInfo} (record { pads = p; offset = x; needed = n }) (record { pads = p; offset = y; needed = n })
moved e = rw e

pub returns : goal.returns
unfolding extension_by
returns c = moved c.offset_after.ensures
