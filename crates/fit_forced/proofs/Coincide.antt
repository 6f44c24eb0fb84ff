-- Two results that meet the contract of a public call coincide.
-- Assumes nothing.
use Prim.Native.Nat.{ℕ}
use mathlib.Core.Path.{◌≡◌}
use mathlib.Core.List.{List}
use Rattle.std.specs.Prelude.{Option}
use Rattle.base.proofs.Chain.{coincide}
use Rattle.rules.specs.Grid.{Kind}
use Rattle.rules.specs.Forced.{forced_checks, forced_neighbours}
use Rattle.rules.specs.declared.World.{World}
use Rattle.rules.specs.declared.Offset.{Offset}
use Rattle.rules.specs.Answers.{Answer, checked}
use Rattle.rules.specs.declared.BoundingBox.{BoundingBox}
use Rattle.rules.specs.declared.ForcedPositions.{ForcedPositions}

module _ (pieces : List ℕ) (rows cols : ℕ) (tiles : List ℕ) (count : ℕ) (w : World) (o : Offset) (b : Option BoundingBox) where
  pub check-forced : {r s : Answer Unit} → r ≡ checked (forced_checks pieces rows cols tiles count w o b)
      → s ≡ checked (forced_checks pieces rows cols tiles count w o b) → r ≡ s
  check-forced p q = coincide p q

  pub detect-forced-positions : (kind : Kind) {r s : Answer ForcedPositions} → r ≡ forced_neighbours kind pieces rows cols tiles count w o b
      → s ≡ forced_neighbours kind pieces rows cols tiles count w o b → r ≡ s
  detect-forced-positions kind p q = coincide p q
