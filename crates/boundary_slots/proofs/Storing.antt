-- The laws of storing and of coordinates handed on: an entry past the end is not stored, values are stored one after the other, and a
-- coordinate that is handed on is the same. Assumes nothing.
use Prim.Native.Nat.{ℕ, zero, suc, ◌≤◌}
use mathlib.Core.Path.{◌≡◌, refl, ◌∙◌, ap, ap₂}
use mathlib.Core.List.{List, [], ◌∷◌}
use lib.ListN.{length, set}
use native.Mathlib.Omega.{arith}
use lib.IntN.{ℤ}
use mir.Syntax.{w32}
use mir.Val.{SFits, to_z, of_z}
use mir.Facts.{to_z-of_z}
use Rattle.boundary_slots.specs.Slots.{put, world, offset_by}

-- nothing is stored past the end
pub set_past : {A : Type 0} (l : List A) (i : ℕ) (a : A) → length l ≤ i → set l i a ≡ l
set_past [] i a h = refl
set_past (x ∷ l) zero a h = absurd (omega (arith, h))
set_past (x ∷ l) (suc i) a h = ap (λ (m : List _). x ∷ m) (set_past l i a (omega (arith, h)))

-- a value stored after others, and the value itself
pub then-set : {A : Type 0} {after : List A} (m n : List A) (i : ℕ) (v : A) → after ≡ put m i v → m ≡ n → after ≡ put n i v
then-set {A = A} m n i v p q = p ∙ ap (λ (l : List A). put l i v) q

pub puts : {A : Type 0} {after : List A} (l : List A) (i : ℕ) (v w : A) → after ≡ put l i v → v ≡ w → after ≡ put l i w
puts {A = A} l i v w p q = p ∙ ap (λ (x : A). put l i x) q

-- coordinates that are handed on are the same
pub world_is : {z y : ℤ} → SFits w32 z → SFits w32 y → world (to_z w32 (of_z w32 z)) (to_z w32 (of_z w32 y)) ≡ world z y
world_is f g = ap₂ world (to_z-of_z f) (to_z-of_z g)

pub offset-is : {z y : ℤ} → SFits w32 z → SFits w32 y → offset_by (to_z w32 (of_z w32 z)) (to_z w32 (of_z w32 y)) ≡ offset_by z y
offset-is f g = ap₂ offset_by (to_z-of_z f) (to_z-of_z g)
