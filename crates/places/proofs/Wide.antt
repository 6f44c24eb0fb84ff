-- A coordinate's bits: those of a number of 32 bits after its cast to 64, in which the sums of coordinates are taken, of a signed number
-- that is handed on to a call, and of the index that a call answered.
-- Assumes nothing.
use Prim.Native.Nat.{ℕ, ◌^◌, ◌<◌}
use mathlib.Core.Path.{◌≡◌, ap, ◌∙◌}
use lib.IntN.{ℤ, ◌+ℤ◌}
use lib.Signed.{mag}
use mir.Syntax.{w32, w64}
use mir.Val.{SFits, to_z, of_z}
use mir.Facts.{to_z-of_z, sfits_widen}
use Rattle.base.proofs.Signs.{Reads, given, add-in}

-- a number of 32 bits after its cast to 64
abbrev pub wide : ℤ → ℕ
wide z = of_z w64 (to_z w32 (of_z w32 z))

pub widened : {z : ℤ} → SFits w32 z → Reads w64 (wide z) z (2 ^ 31)
widened {z} f = record { is = rw (to_z-of_z {w = w32} f) (to_z-of_z {w = w64} (sfits_widen {w = w32} {w' = w64} tt f)); low = f.sfits }

pub cast_fits : {z : ℤ} → SFits w32 z → SFits w64 (to_z w32 (of_z w32 z))
cast_fits f = rw (to_z-of_z {w = w32} f) (sfits_widen {w = w32} {w' = w64} tt f)

-- a signed number that is handed on to a call, and two of them
pub same : {z : ℤ} → mag z < 2 ^ 31 → to_z w32 (of_z w32 z) ≡ z
same h = to_z-of_z {w = w32} (record { sfits = h })

pub same-two : {A : Type 0} (f : ℤ → ℤ → A) (x y : ℤ) → mag x < 2 ^ 31 → mag y < 2 ^ 31 → f (to_z w32 (of_z w32 x)) (to_z w32 (of_z w32 y)) ≡ f x y
same-two f x y h k = ap (λ (z : ℤ). f z (to_z w32 (of_z w32 y))) (same {z = x} h) ∙ ap (f x) (same {z = y} k)

-- an index, by the coordinate and the offset that were handed on
pub index_is : {x y r : ℤ} → SFits w32 x → SFits w32 y → r ≡ to_z w32 (of_z w32 x) +ℤ to_z w32 (of_z w32 y) → Reads w64 (of_z w64 r) (x +ℤ y) (2 ^ 32)
index_is {x} {y} f g e = rw (e, same-two ◌+ℤ◌ x y f.sfits g.sfits) (given w64 (add-in {A = 2 ^ 31} {B = 2 ^ 31} x y f.sfits g.sfits) tt)
