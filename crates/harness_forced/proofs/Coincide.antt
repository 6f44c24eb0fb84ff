-- Two results that meet the contract of a function for tests coincide: the number, and what the lent memory holds. One theorem a function.
-- Assumes nothing.
use Prim.Native.Nat.{ℕ}
use Rattle.std.specs.Prelude.{Option}
use mathlib.Core.Path.{◌≡◌}
use mathlib.Core.List.{List}
use lib.IntN.{ℤ}
use denote.MutBor.{MutBor}
use Rattle.base.proofs.Chain.{gives-coincide}
use Rattle.rules.specs.Forced.{queue_empty, queue_length}
use Rattle.boundary.specs.Boundary.{value_stored, truth_stored, Tells}
use Rattle.harness_forced.specs.Slices.{queue_from, PortForces, PortAdds, PortTakes, slices, taking}
use Rattle.rules.specs.declared.World.{World}
use Rattle.rules.specs.declared.Offset.{Offset}
use Rattle.rules.specs.declared.ForcedPositions.{ForcedPositions}
use Rattle.boundary.proofs.Back.{lent, Decides, gives-decides}
use Rattle.rules.specs.declared.BoundingBox.{BoundingBox}

pub port-queue-is-empty-coincide : (coordinates : List ℤ) (colours : List ℕ) (len : ℕ) (out : List ℕ)
    → Decides (Tells truth_stored (queue_empty (queue_from coordinates colours len)) out)
port-queue-is-empty-coincide coordinates colours len out = gives-decides _ _

pub port-queue-len-coincide : (coordinates : List ℤ) (colours : List ℕ) (len : ℕ) (out : List ℕ)
    → Decides (Tells value_stored (queue_length (queue_from coordinates colours len)) out)
port-queue-len-coincide coordinates colours len out = gives-decides _ _

-- the slices before the call, and as each of the two calls leaves them; a place, an offset, bounds and an added list of any value stand where
-- the contracts have those of their arguments
module _ (coordinates coordinates₁ coordinates₂ : MutBor (List ℤ)) (colours colours₁ colours₂ len len₁ len₂ : MutBor (List ℕ)) {r s : ℕ} where
  pub port-forced-coincide : (pieces : List ℕ) (rows cols : ℕ) (tiles : List ℕ) (count : ℕ) (place : World) (offset : Offset) (bounds : Option BoundingBox)
      → PortForces pieces rows cols tiles count place offset bounds (lent coordinates coordinates₁) (lent colours colours₁) (lent len len₁) r
      → PortForces pieces rows cols tiles count place offset bounds (lent coordinates coordinates₂) (lent colours colours₂) (lent len len₂) s
      → (r ≡ s) × (slices coordinates₁.now colours₁.now len₁.now ≡ slices coordinates₂.now colours₂.now len₂.now)
  port-forced-coincide pieces rows cols tiles count place offset bounds = gives-coincide

  pub port-queue-add-coincide : (added : ForcedPositions) → PortAdds added (lent coordinates coordinates₁) (lent colours colours₁) (lent len len₁) r
      → PortAdds added (lent coordinates coordinates₂) (lent colours colours₂) (lent len len₂) s
      → (r ≡ s) × (slices coordinates₁.now colours₁.now len₁.now ≡ slices coordinates₂.now colours₂.now len₂.now)
  port-queue-add-coincide added = gives-coincide

  pub port-queue-take-coincide : (taken taken₁ taken₂ : MutBor (List ℤ)) (colour colour₁ colour₂ found found₁ found₂ : MutBor (List ℕ))
      → PortTakes (lent coordinates coordinates₁) (lent colours colours₁) (lent len len₁) (lent taken taken₁) (lent colour colour₁) (lent found found₁) r
      → PortTakes (lent coordinates coordinates₂) (lent colours colours₂) (lent len len₂) (lent taken taken₂) (lent colour colour₂) (lent found found₂) s
      → (r ≡ s) × (taking (slices coordinates₁.now colours₁.now len₁.now) taken₁.now colour₁.now found₁.now
      ≡ taking (slices coordinates₂.now colours₂.now len₂.now) taken₂.now colour₂.now found₂.now)
  port-queue-take-coincide taken taken₁ taken₂ colour colour₁ colour₂ found found₁ found₂ = gives-coincide
