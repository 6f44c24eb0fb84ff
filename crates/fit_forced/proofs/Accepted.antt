-- What accepted checks of the call give.
-- Assumes nothing.
use Rattle.std.specs.Prelude.{Option}
use Prim.Native.Nat.{ℕ}
use mathlib.Core.Path.{◌≡◌, refl}
use mathlib.Core.List.{List}
use Rattle.base.specs.Refusal.{refusal}
use Rattle.base.proofs.Chain.{all_pass}
use Rattle.rules.specs.Forced.{forced_checks}
use Rattle.rules.specs.declared.World.{World}
use Rattle.rules.specs.declared.Offset.{Offset}
use Rattle.fit_windows.proofs.Accepted.{ready-from}
use Rattle.fit_forced.specs.Round.{Roundable}
use Rattle.rules.specs.declared.BoundingBox.{BoundingBox}

module _ (pieces : List ℕ) (rows cols : ℕ) (tiles : List ℕ) (count : ℕ) (w : World) (o : Offset) (b : Option BoundingBox) where
  pub roundable : refusal (forced_checks pieces rows cols tiles count w o b) ≡ 0 → Roundable pieces rows cols tiles count w
  roundable e =
      let h = all_pass (forced_checks pieces rows cols tiles count w o b) refl e in
      record { ready = ready-from pieces rows cols tiles count (search); walled = search }
