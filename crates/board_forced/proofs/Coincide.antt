-- Two results that meet the contract of the call coincide: the answer, and the three planes.
-- Assumes nothing.
use Prim.Native.Nat.{ℕ}
use mathlib.Core.Path.{◌≡◌}
use Rattle.std.specs.Prelude.{Option}
use Rattle.base.proofs.Chain.{gives-coincide}
use Rattle.rules.specs.Board.{Panel, Board}
use Rattle.rules.specs.Promises.{RunsOut}
use Rattle.rules.specs.declared.World.{World}
use Rattle.rules.specs.Answers.{Answer}
use Rattle.rules.specs.declared.BoundingBox.{BoundingBox}
use Rattle.rules.specs.declared.RanOut.{RanOut}

pub forced-run-coincide : (j : Panel) (count : ℕ) (w : World) (bounds : Option BoundingBox) (budget : ℕ) (old : Board) {a c : Answer RanOut} {l m : Board}
    → RunsOut j count w bounds budget old a l → RunsOut j count w bounds budget old c m → (a ≡ c) × (l ≡ m)
forced-run-coincide j count w bounds budget old p q = gives-coincide p q
