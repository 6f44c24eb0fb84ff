-- Two results that meet the contract of a call coincide: the answer, and the three planes.
-- Assumes nothing.
use Prim.Native.Nat.{ℕ}
use mathlib.Core.Path.{◌≡◌}
use Rattle.base.proofs.Chain.{gives-coincide}
use Rattle.rules.specs.Board.{Panel, Board}
use Rattle.rules.specs.Promises.{Lays, Lifts}
use Rattle.rules.specs.declared.World.{World}
use Rattle.rules.specs.Answers.{Answer}

pub lay-coincide : (j : Panel) (count : ℕ) (w : World) (colour : ℕ) (old : Board) {a c : Answer Unit} {l m : Board}
    → Lays j count w colour old a l → Lays j count w colour old c m → (a ≡ c) × (l ≡ m)
lay-coincide j count w colour old p q = gives-coincide p q

pub lift-coincide : (j : Panel) (count : ℕ) (w : World) (old : Board) {a c : Answer Unit} {l m : Board}
    → Lifts j count w old a l → Lifts j count w old c m → (a ≡ c) × (l ≡ m)
lift-coincide j count w old p q = gives-coincide p q
