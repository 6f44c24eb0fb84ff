-- Two results that meet the contract of a call coincide: the answers are equal, and for extraction so is what the stores hold. Assumes
-- nothing.
use Prim.Native.Nat.{ℕ}
use mathlib.Core.Path.{◌≡◌}
use mathlib.Core.Bool.{Bool}
use mathlib.Core.List.{List}
use Rattle.base.proofs.Chain.{coincide, gives-coincide}
use Rattle.rules.specs.Promises.{Extracts}
use Rattle.rules.specs.Tiles.{membership}
use Rattle.rules.specs.Answers.{Answer}
use Rattle.rules.specs.declared.TileBitset.{TileBitset}

pub extract-tiles-coincides : (source : List ℕ) (rows cols count : ℕ) (rotations reflections : Bool) (store : List ℕ) {a b : Answer ℕ} {x y : List ℕ}
    → Extracts source rows cols count rotations reflections store a x → Extracts source rows cols count rotations reflections store b y
    → (a ≡ b) × (x ≡ y)
extract-tiles-coincides source rows cols count rotations reflections store = gives-coincide

pub membership-coincides : {x y : Answer TileBitset} (tile : List ℕ) (count : ℕ) → x ≡ membership tile count → y ≡ membership tile count → x ≡ y
membership-coincides tile count = coincide
