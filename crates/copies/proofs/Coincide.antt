-- Two results that meet the contract of a public call coincide, and so do the targets that they leave.
-- Assumes nothing.
use Prim.Native.Nat.{ℕ}
use mathlib.Core.Path.{◌≡◌}
use mathlib.Core.List.{List}
use lib.Ieee.{Float}
use Rattle.base.proofs.Chain.{gives-coincide}
use Rattle.rules.specs.Promises.{CopiesWords, CopiesFloats}
use Rattle.rules.specs.declared.Pads.{Pads}
use Rattle.rules.specs.Answers.{Answer}

pub extend-array-2d-u32 : (rows cols : ℕ) (p : Pads) (plane target : List ℕ) {r s : Answer Unit} {u v : List ℕ}
    → CopiesWords rows cols p plane target r u → CopiesWords rows cols p plane target s v → (r ≡ s) × (u ≡ v)
extend-array-2d-u32 rows cols p plane target g h = gives-coincide g h

pub extend-array-2d-f64 : (rows cols : ℕ) (p : Pads) (plane target : List Float) {r s : Answer Unit} {u v : List Float}
    → CopiesFloats rows cols p plane target r u → CopiesFloats rows cols p plane target s v → (r ≡ s) × (u ≡ v)
extend-array-2d-f64 rows cols p plane target g h = gives-coincide g h
