-- Two results that meet the contract of a call coincide: the answer, and the weights plane too.
-- Assumes nothing.
use Prim.Native.Nat.{ℕ}
use mathlib.Core.Path.{◌≡◌}
use mathlib.Core.List.{List}
use Rattle.base.proofs.Chain.{gives-coincide}
use Rattle.rules.specs.Grid.{flat}
use Rattle.rules.specs.Promises.{Raises, Lowers}
use Rattle.rules.specs.declared.World.{World}
use Rattle.rules.specs.declared.Offset.{Offset}
use Rattle.rules.specs.Answers.{Answer}

module _ (rows cols : ℕ) (w : World) (o : Offset) (old : List ℕ) {a c : Answer Unit} {l m : List ℕ} where
  pub raise-coincide : Raises flat rows cols w o old a l → Raises flat rows cols w o old c m → (a ≡ c) × (l ≡ m)
  raise-coincide p q = gives-coincide p q

  pub revert-coincide : Lowers flat rows cols w o old a l → Lowers flat rows cols w o old c m → (a ≡ c) × (l ≡ m)
  revert-coincide p q = gives-coincide p q
