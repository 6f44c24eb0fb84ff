-- Signed arithmetic without a solver, at any width: `Reads w n z A` says that the bits n of width w stand for the whole number z, and that
-- -A ≤ z < A. Sums and differences add the bounds, and whether the result fits is then a comparison of two literals.
-- Assumes nothing.
use Prim.Native.Nat.{ℕ, zero, suc, ◌+◌, ◌-◌, ◌^◌, ◌<◌, ◌≤◌}
use mathlib.Core.Path.{◌≡◌, refl, ◌∙◌, ap}
use mathlib.Core.Bool.{Bool, true, false, cond}
use native.Mathlib.Nat.{lt_of_lt_of_le}
use native.Mathlib.Omega.{arith}
use lib.Dec.{T, leb, ltb, leb→le}
use lib.IntN.{ℤ, pos, negsuc, neg_ℤ, nat_abs, sub_ℕ, ◌+ℤ◌, ◌-ℤ◌}
use lib.Signed.{mag, lt_z, non_neg}
use mir.Syntax.{Width}
use mir.Val.{SFits, to_z, of_z, hbits}
use mir.Facts.{to_z-of_z, to_z_pos}
use borrow.Author.Tests.{le-ltb, leb-true, ltb-true, eqb-true, eq-eqb}
use Rattle.base.specs.Whole.{clip, eq_z, within_z, index_below}
use Rattle.base.proofs.Bools.{and_left, and_right, never}

mag-cond : (t : Bool) (p q n : ℕ) → p < n → q < n → mag (cond t (negsuc p) (pos q)) < n
mag-cond true p q n h k = h
mag-cond false p q n h k = k

mag-sub : {A B : ℕ} (a b : ℕ) → a < A → b ≤ B → mag (sub_ℕ a b) < A + B
mag-sub {A = A} {B = B} a b h k = mag-cond (ltb a b) (b - suc a) (a - b) (A + B) (omega arith) (omega arith)

pub add-in : {A B : ℕ} (x y : ℤ) → mag x < A → mag y < B → mag (x +ℤ y) < A + B
add-in (pos a) (pos b) h k = omega arith
add-in {A} {B} (pos a) (negsuc b) h k = mag-sub {A = A} {B = B} a (suc b) h k
add-in {A} {B} (negsuc a) (pos b) h k = let g : mag (sub_ℕ b (suc a)) < B + A = mag-sub {A = B} {B = A} b (suc a) k h in omega arith
add-in (negsuc a) (negsuc b) h k = omega arith

neg-in : {B : ℕ} (y : ℤ) → mag y < B → mag (neg_ℤ y) < B + 1
neg-in (pos zero) k = omega arith
neg-in (pos (suc n)) k = omega arith
neg-in (negsuc n) k = omega arith

pub sub_in : {A B : ℕ} (x y : ℤ) → mag x < A → mag y < B → mag (x -ℤ y) < A + (B + 1)
sub_in x y h k = add-in x (neg_ℤ y) h (neg-in y k)

pub record Reads (w : Width) (n : ℕ) (z : ℤ) (A : ℕ) : Type 0 where
  pub is : to_z w n ≡ z
  pub low : mag z < A

small : (w : Width) {z : ℤ} {A : ℕ} → mag z < A → T (leb A (2 ^ hbits w)) → SFits w z
small w {z} {A} h t = record { sfits = lt_of_lt_of_le h (leb→le A (2 ^ hbits w) t) }

-- a number whose bound is known
pub given : (w : Width) {z : ℤ} {A : ℕ} → mag z < A → T (leb A (2 ^ hbits w)) → Reads w (of_z w z) z A
given w h t = record { is = to_z-of_z (small w h t); low = h }

-- a literal, and an unsigned number after its cast
pub counted : (w : Width) {n A : ℕ} → n < A → T (leb A (2 ^ hbits w)) → Reads w n (pos n) A
counted w {n} {A} h t = record { is = to_z_pos w (lt_of_lt_of_le h (leb→le A (2 ^ hbits w) t)); low = h }

-- the bits of a sum and of a difference
abbrev pub add_b : Width → ℕ → ℕ → ℕ
add_b w n m = of_z w (to_z w n +ℤ to_z w m)

abbrev pub sub_b : Width → ℕ → ℕ → ℕ
sub_b w n m = of_z w (to_z w n -ℤ to_z w m)

module _ {w : Width} {n m : ℕ} {z y : ℤ} {A B : ℕ} (p : Reads w n z A) (q : Reads w m y B) where
  pub add-fits : T (leb (A + B) (2 ^ hbits w)) → SFits w (to_z w n +ℤ to_z w m)
  add-fits t = rw (p.is, q.is) (small w (add-in z y p.low q.low) t)

  pub sub-fits : T (leb (A + (B + 1)) (2 ^ hbits w)) → SFits w (to_z w n -ℤ to_z w m)
  sub-fits t = rw (p.is, q.is) (small w (sub_in z y p.low q.low) t)

  pub added : T (leb (A + B) (2 ^ hbits w)) → Reads w (add_b w n m) (z +ℤ y) (A + B)
  added t = record { is = to_z-of_z (add-fits t) ∙ rw (p.is, q.is); low = add-in z y p.low q.low }

  pub subbed : T (leb (A + (B + 1)) (2 ^ hbits w)) → Reads w (sub_b w n m) (z -ℤ y) (A + (B + 1))
  subbed t = record { is = to_z-of_z (sub-fits t) ∙ rw (p.is, q.is); low = sub_in z y p.low q.low }

-- the test of equality
pub eq_z-same : (x : ℤ) → eq_z x x ≡ true
eq_z-same (pos a) = eq-eqb a a refl
eq_z-same (negsuc a) = eq-eqb a a refl

pub eq_z-true : (x y : ℤ) → eq_z x y ≡ true → x ≡ y
eq_z-true (pos a) (pos b) e = ap pos (eqb-true a b e)
eq_z-true (pos a) (negsuc b) e = never false e refl
eq_z-true (negsuc a) (pos b) e = never false e refl
eq_z-true (negsuc a) (negsuc b) e = ap negsuc (eqb-true a b e)

-- what the test `z < 0` leaves of `clip`
pub not-below : (z : ℤ) → lt_z z (pos 0) ≡ false → T (non_neg z)
not-below (pos n) e = tt
not-below (negsuc n) e = never true refl e

pub below-clip : (z : ℤ) → lt_z z (pos 0) ≡ true → 0 ≡ clip z
below-clip (pos n) e = never (ltb n 0) e (le-ltb n 0 (omega arith))
below-clip (negsuc n) e = refl

pub nat_abs-clip : (z : ℤ) → T (non_neg z) → nat_abs z ≡ clip z
nat_abs-clip (pos n) t = refl
nat_abs-clip (negsuc n) t = absurd t

pub clip-low : {A : ℕ} (z : ℤ) → mag z < A → clip z < A
clip-low (pos n) h = h
clip-low (negsuc n) h = omega arith

-- an index below n is not clipped
pub index-clip : (n : ℕ) (z : ℤ) → index_below n z ≡ true → clip z < n
index-clip n (pos z) e = ltb-true z n e
index-clip n (negsuc z) e = never false e refl

pub index-pos : (n : ℕ) (z : ℤ) → index_below n z ≡ true → z ≡ pos (clip z)
index-pos n (pos z) e = refl
index-pos n (negsuc z) e = never false e refl

-- a range test that held bounds the number
pub ranged : {A : ℕ} (a b : ℕ) (z : ℤ) → within_z (negsuc a) (pos b) z ≡ true → a < A → b < A → mag z < A
unfolding within_z
ranged a b (pos n) e h k = let g : n ≤ b = leb-true n b (and_right true (leb n b) e) in omega arith
ranged a b (negsuc n) e h k = let g : n ≤ a = leb-true n a (and_left (leb n a) true e) in omega arith
