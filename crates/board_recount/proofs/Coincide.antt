-- Two results that meet the contract of the recount coincide: the answer, and the counts plane.
-- Assumes nothing.
use Prim.Native.Nat.{ℕ}
use mathlib.Core.Path.{◌≡◌}
use mathlib.Core.List.{List}
use Rattle.base.proofs.Chain.{gives-coincide}
use Rattle.rules.specs.Board.{Panel}
use Rattle.rules.specs.Promises.{Recounts}
use Rattle.rules.specs.declared.World.{World}
use Rattle.rules.specs.Answers.{Answer}

pub recount-coincide : (j : Panel) (count : ℕ) (w : World) (pieces old : List ℕ) {a c : Answer Unit} {l m : List ℕ}
    → Recounts j count w pieces old a l → Recounts j count w pieces old c m → (a ≡ c) × (l ≡ m)
recount-coincide j count w pieces old p q = gives-coincide p q
