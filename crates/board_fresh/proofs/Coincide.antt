-- Two results that meet the contract of fresh coincide: the answer, and the three planes.
-- Assumes nothing.
use Prim.Native.Nat.{ℕ}
use mathlib.Core.Path.{◌≡◌}
use Rattle.base.proofs.Chain.{gives-coincide}
use Rattle.rules.specs.Board.{Board}
use Rattle.rules.specs.Promises.{Freshens}
use Rattle.rules.specs.Answers.{Answer}

pub fresh-coincide : (rows cols tiles : ℕ) (old : Board) {a c : Answer Unit} {l m : Board}
    → Freshens rows cols tiles old a l → Freshens rows cols tiles old c m → (a ≡ c) × (l ≡ m)
fresh-coincide rows cols tiles old p q = gives-coincide p q
