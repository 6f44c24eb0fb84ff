-- Two results that meet the contract of a public call coincide.
-- Assumes nothing.
use Prim.Native.Nat.{ℕ}
use mathlib.Core.Path.{◌≡◌}
use Rattle.base.proofs.Chain.{coincide}
use Rattle.rules.specs.Places.{extension_of, boxed_extension}
use Rattle.rules.specs.declared.World.{World}
use Rattle.rules.specs.declared.Offset.{Offset}
use Rattle.rules.specs.declared.BoundingBox.{BoundingBox}
use Rattle.rules.specs.Answers.{Answer}
use Rattle.rules.specs.declared.ExtensionInfo.{ExtensionInfo}

pub calculate-extension : (rows cols : ℕ) (o : Offset) (w : World) (k : ℕ) {r s : Answer ExtensionInfo}
    → r ≡ extension_of rows cols o w k → s ≡ extension_of rows cols o w k → r ≡ s
calculate-extension rows cols o w k p q = coincide p q

pub constrain-extension : (rows cols : ℕ) (o : Offset) (w : World) (k : ℕ) (b : BoundingBox) {r s : Answer ExtensionInfo}
    → r ≡ boxed_extension rows cols o w k b → s ≡ boxed_extension rows cols o w k b → r ≡ s
constrain-extension rows cols o w k b p q = coincide p q
