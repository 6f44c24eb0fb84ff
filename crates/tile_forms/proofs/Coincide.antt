-- Two results that meet the contract of a function coincide. Assumes nothing.
use Prim.Native.Nat.{ℕ, ◌≤◌}
use mathlib.Core.Path.{◌≡◌}
use mathlib.Core.Bool.{Bool}
use mathlib.Core.List.{List}
use Rattle.base.proofs.Chain.{coincide}
use Rattle.rules.specs.Bounds.{max_tiles}
use Rattle.rules.specs.Tiles.{rotated, reflected, variant, variants}

pub rotate-90-coincides : {x y : List ℕ} (tile : List ℕ) → x ≡ rotated tile → y ≡ rotated tile → x ≡ y
rotate-90-coincides tile = coincide

pub reflect-coincides : {x y : List ℕ} (tile : List ℕ) → x ≡ reflected tile → y ≡ reflected tile → x ≡ y
reflect-coincides tile = coincide

pub variant-of-coincides : {x y : List ℕ} (source : List ℕ) (rows cols : ℕ) (rotations reflections : Bool) (v : ℕ)
    → x ≡ variant source rows cols rotations reflections v → y ≡ variant source rows cols rotations reflections v → x ≡ y
variant-of-coincides source rows cols rotations reflections v = coincide

pub variants-of-coincides : {x y : ℕ} (rows cols : ℕ) (rotations reflections : Bool) → (x ≡ variants rows cols rotations reflections) × (x ≤ max_tiles)
    → (y ≡ variants rows cols rotations reflections) × (y ≤ max_tiles) → x ≡ y
variants-of-coincides rows cols rotations reflections p q = coincide p.0 q.0
