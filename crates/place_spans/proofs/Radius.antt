-- A radius, and 1, in the 64 bits in which sums of coordinates are taken. Assumes nothing.
use Prim.Native.Nat.{ℕ, ◌≤◌}
use native.Mathlib.Omega.{arith}
use lib.IntN.{pos}
use mir.Syntax.{w64}
use Rattle.base.proofs.Signs.{Reads, counted}
use Rattle.rules.specs.Bounds.{max_radius}

pub one-is : Reads w64 1 (pos 1) 2
one-is = counted w64 (omega arith) tt

pub reach-is : {k : ℕ} → k ≤ max_radius → Reads w64 k (pos k) 64
reach-is h = counted w64 (omega arith) tt
