-- Two results that meet a call's contract coincide: the answer, and what the lent plane holds then.
-- Assumes nothing.
use Prim.Native.Nat.{ℕ}
use mathlib.Core.Path.{◌≡◌}
use mathlib.Core.List.{List}
use lib.Ieee.{Float}
use Rattle.base.proofs.Chain.{gives-coincide}
use Rattle.rules.specs.Promises.{Normalises, Multiplies, Divides}
use Rattle.rules.specs.Probabilities.{Block}
use Rattle.rules.specs.declared.World.{World}
use Rattle.rules.specs.declared.Offset.{Offset}
use Rattle.rules.specs.Answers.{Answer}

module _ (plane : List Float) (rows cols count : ℕ) (w : World) (o : Offset) {a c : Answer Unit} {l m : List Float} where
  pub get-tile-probabilities-at-position-coincides : (out : List Float)
      → Normalises plane rows cols count w o out a l → Normalises plane rows cols count w o out c m → (a ≡ c) × (l ≡ m)
  get-tile-probabilities-at-position-coincides out p q = gives-coincide p q

  pub update-probabilities-coincides : (b : Block) (k : ℕ)
      → Multiplies rows cols count b w o k plane a l → Multiplies rows cols count b w o k plane c m → (a ≡ c) × (l ≡ m)
  update-probabilities-coincides b k p q = gives-coincide p q

  pub revert-probabilities-coincides : (b : Block) (k : ℕ)
      → Divides rows cols count b w o k plane a l → Divides rows cols count b w o k plane c m → (a ≡ c) × (l ≡ m)
  revert-probabilities-coincides b k p q = gives-coincide p q
