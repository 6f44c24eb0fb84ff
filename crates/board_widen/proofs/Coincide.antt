-- Two results that meet the contract of widen coincide: the answer, and the three larger planes.
-- Assumes nothing.
use Prim.Native.Nat.{ℕ}
use mathlib.Core.Path.{◌≡◌}
use Rattle.base.proofs.Chain.{gives-coincide}
use Rattle.rules.specs.Board.{Panel, Board}
use Rattle.rules.specs.Promises.{Widens}
use Rattle.rules.specs.declared.Pads.{Pads}
use Rattle.rules.specs.Answers.{Answer}
use Rattle.rules.specs.declared.Offset.{Offset}

pub widen-coincide : (j : Panel) (count : ℕ) (p : Pads) (old lent : Board) {a c : Answer Offset} {l m : Board}
    → Widens j count p old lent a l → Widens j count p old lent c m → (a ≡ c) × (l ≡ m)
widen-coincide j count p old lent g h = gives-coincide g h
