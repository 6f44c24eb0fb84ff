-- Which operations make no NaN, by the kinds of their operands:
--     times-finite, over-finite      a finite float by a finite one, which in a quotient is not zero
--     plus-upward, square-upward     sums and squares of floats whose sign is clear: counts, fractions, and infinities above them
--     over-upward, over-positive     such a float, or any that is no NaN, by a finite one above zero
--     count-positive                 the float of a number from 1 on is finite and above zero
-- and what the checks of a call say of a float in these words.
-- Assumes nothing.
use Prim.Native.Nat.{ℕ, zero, suc, ◌+◌, ◌-◌, ◌*◌, ◌/◌, ◌^◌, ◌<◌, ◌≤◌}
use mathlib.Core.Path.{◌≡◌, refl, sym, ap, subst}
use mathlib.Core.Bool.{Bool, true, false, not, ◌||◌, cond, beq}
use mathlib.Core.List.{List}
use native.Mathlib.Nat.{zero-mul}
use lib.Dec.{T, ltb, eqb, eqb-suc-zero}
use lib.IntN.{ℤ}
use lib.ListN.{length, get_or}
use lib.Ieee.{Float, nan, inf, fin, binary64, prec, low, emax, up, down, unlike, level, size, odd, units, round, add, mul, div, is_nan, ne, eq, le, lt, of_bits, of_int}
use lib.Ieee.Nearest.{closest}
use lib.Ieee.Scale.{finite}
use lib.Ieee.Positive.{positive, positive_of_value}
use lib.Ieee.Back.{round_whole}
use Rattle.base.specs.Tables.{tab}
use Rattle.base.proofs.Tabled.{length-tab, get_d-tab}
use Rattle.base.proofs.Counted.{every-at, every-is}
use Rattle.rules.specs.Floats.{zero64, one64, plus, times, over, float_of, is_number, is_finite, no_nan, all_are}

-- ---- kinds

-- neither a NaN nor of negative sign
abbrev pub upward : Float → Bool
upward nan = false
upward (inf s) = not s
upward (fin s m e) = not s

pub upward-number : (x : Float) → T (upward x) → no_nan x ≡ true
unfolding is_nan
upward-number nan h = absurd h
upward-number (inf s) h = refl
upward-number (fin s m e) h = refl

pub finite_number : (x : Float) → T (finite x) → no_nan x ≡ true
unfolding is_nan
finite_number nan h = absurd h
finite_number (inf s) h = refl
finite_number (fin s m e) h = refl

-- ---- rounding

odd_number : (d : ℕ) (s : Bool) (q k l : ℕ) → no_nan (odd d s q k l) ≡ true
unfolding odd is_nan
odd_number d s zero k l = refl
odd_number d s (suc q) k l = refl

odd-upward : (d q k l : ℕ) → T (upward (odd d false q k l))
unfolding odd
odd-upward d zero k l = tt
odd-upward d (suc q) k l = tt

units_number : (s : Bool) (q k : ℕ) → no_nan (units binary64 s q k) ≡ true
unfolding units is_nan
units_number s q k = go (ltb (q * 2 ^ k) (2 ^ (low binary64 + suc (emax binary64))))
  where
    go : (b : Bool) → no_nan (cond b (odd (suc (prec binary64)) s q k (low binary64)) (inf s)) ≡ true
    go true = odd_number (suc (prec binary64)) s q k (low binary64)
    go false = refl

units-upward : (q k : ℕ) → T (upward (units binary64 false q k))
unfolding units
units-upward q k = go (ltb (q * 2 ^ k) (2 ^ (low binary64 + suc (emax binary64))))
  where
    go : (b : Bool) → T (upward (cond b (odd (suc (prec binary64)) false q k (low binary64)) (inf false)))
    go true = odd-upward (suc (prec binary64)) q k (low binary64)
    go false = tt

round_number : (s : Bool) (a b : ℕ) → no_nan (round binary64 s a b) ≡ true
unfolding round
round_number s a b = let k = size (a * 2 ^ low binary64 / b) - prec binary64 in units_number s (closest (a * 2 ^ low binary64) (b * 2 ^ k)) k

pub round-upward : (a b : ℕ) → T (upward (round binary64 false a b))
unfolding round
round-upward a b = let k = size (a * 2 ^ low binary64 / b) - prec binary64 in units-upward (closest (a * 2 ^ low binary64) (b * 2 ^ k)) k

-- ---- operations

pub times-finite : (x y : Float) → T (finite x) → T (finite y) → no_nan (times x y) ≡ true
unfolding mul
times-finite nan y p q = absurd p
times-finite (inf s) y p q = absurd p
times-finite (fin s m e) nan p q = absurd q
times-finite (fin s m e) (inf t) p q = absurd q
times-finite (fin s m e) (fin t n d) p q = round_number (unlike s t) (m * up e * (n * up d)) (down e * down d)

pub plus-upward : (x y : Float) → T (upward x) → T (upward y) → T (upward (plus x y))
unfolding add
plus-upward nan y p q = absurd p
plus-upward (inf s) nan p q = absurd q
plus-upward (inf true) (inf t) p q = absurd p
plus-upward (inf false) (inf true) p q = absurd q
plus-upward (inf false) (inf false) p q = tt
plus-upward (inf s) (fin t n d) p q = p
plus-upward (fin s m e) nan p q = absurd q
plus-upward (fin s m e) (inf t) p q = q
plus-upward (fin true m e) (fin t n d) p q = absurd p
plus-upward (fin false m e) (fin true n d) p q = absurd q
plus-upward (fin false m e) (fin false n d) p q = round-upward (m * up e * down d + n * up d * down e) (down e * down d)

pub square-upward : (x : Float) → T (upward x) → T (upward (times x x))
unfolding mul
square-upward nan p = absurd p
square-upward (inf true) p = absurd p
square-upward (inf false) p = tt
square-upward (fin true m e) p = absurd p
square-upward (fin false m e) p = round-upward (m * up e * (m * up e)) (down e * down e)

-- a quotient of finite floats whose divisor is not zero is rounded
pub over-fin : (s : Bool) (m : ℕ) (e : ℤ) (t : Bool) (n : ℕ) (d : ℤ)
    → over (fin s m e) (fin t (suc n) d) ≡ round binary64 (unlike s t) (m * up e * down d) (suc n * up d * down e)
unfolding div
over-fin s m e t n d =
    ap (λ (b : Bool). cond b (cond (eqb m 0) nan (inf (unlike s t))) (round binary64 (unlike s t) (m * up e * down d) (suc n * up d * down e)))
    (eqb-suc-zero n)

pub over-upward : (x y : Float) → T (upward x) → T (positive y) → T (upward (over x y))
unfolding div
over-upward x nan p q = absurd q
over-upward x (inf t) p q = absurd q
over-upward x (fin true n d) p q = absurd q
over-upward x (fin false zero d) p q = absurd q
over-upward nan (fin false (suc n) d) p q = absurd p
over-upward (inf true) (fin false (suc n) d) p q = absurd p
over-upward (inf false) (fin false (suc n) d) p q = tt
over-upward (fin true m e) (fin false (suc n) d) p q = absurd p
over-upward (fin false m e) (fin false (suc n) d) p q =
    subst (λ (x : Float). T (upward x)) (sym (over-fin false m e false n d)) (round-upward (m * up e * down d) (suc n * up d * down e))

pub over-positive : (x y : Float) → no_nan x ≡ true → T (positive y) → no_nan (over x y) ≡ true
unfolding div is_nan
over-positive x nan p q = absurd q
over-positive x (inf t) p q = absurd q
over-positive x (fin true n d) p q = absurd q
over-positive x (fin false zero d) p q = absurd q
over-positive nan (fin false (suc n) d) p q = p
over-positive (inf s) (fin false (suc n) d) p q = refl
over-positive (fin s m e) (fin false (suc n) d) p q =
    rw (over-fin s m e false n d) (round_number (unlike s false) (m * up e * down d) (suc n * up d * down e))

-- a zero equals 0.0, whatever its sign
either_true : (b : Bool) → (b || true) ≡ true
either_true true = refl
either_true false = refl

level-zero : (t : Bool) (a b : ℕ) → a ≡ 0 → b ≡ 0 → level t a false b ≡ true
level-zero t a b p q = rw (p, q) (either_true (beq t false))

not-zero : (t : Bool) (d : ℤ) → ne (fin t zero d) zero64 ≡ true → ⊥
unfolding ne eq of_bits
not-zero t d h =
    let e : not true ≡ true = subst (λ (b : Bool). not b ≡ true) (level-zero t (zero * up d * 1) (zero * 1 * down d) (simp zero-mul) (simp zero-mul)) h in
    subst T (sym e) tt

pub over-finite : (x y : Float) → T (finite x) → T (finite y) → ne y zero64 ≡ true → no_nan (over x y) ≡ true
unfolding div
over-finite nan y p q h = absurd p
over-finite (inf s) y p q h = absurd p
over-finite (fin s m e) nan p q h = absurd q
over-finite (fin s m e) (inf t) p q h = absurd q
over-finite (fin s m e) (fin t zero d) p q h = absurd (not-zero t d h)
over-finite (fin s m e) (fin t (suc n) d) p q h =
    rw (over-fin s m e t n d) (round_number (unlike s t) (m * up e * down d) (suc n * up d * down e))

-- ---- counts

pub count-upward : (n : ℕ) → T (upward (float_of n))
unfolding of_int
count-upward n = round-upward n 1

pub count-positive : (n : ℕ) → 0 < n → n ≤ 2 ^ 53 → T (positive (float_of n))
unfolding of_int
count-positive n p h = positive_of_value (round binary64 false n 1) n 1 (round_whole binary64 false n h) p

-- ---- what the checks say

pub is-finite : (x : Float) → is_finite x ≡ true → T (finite x)
unfolding le lt eq of_bits
is-finite nan h = subst T (sym h) tt
is-finite (inf true) h = subst T (sym h) tt
is-finite (inf false) h = subst T (sym h) tt
is-finite (fin s m e) h = tt

pub is-number : (x : Float) → is_number x ≡ true → no_nan x ≡ true
unfolding le lt eq is_nan of_bits
is-number nan h = h
is-number (inf s) h = refl
is-number (fin s m e) h = refl

-- ---- planes

module _ (test : Float → Bool) (plane : List Float) where
  pub all-at : all_are test plane ≡ true → (k : ℕ) → k < length plane → test (get_or plane k nan) ≡ true
  unfolding all_are
  all-at e k h = every-at (λ k. test (get_or plane k nan)) (length plane) e k h

  pub all-is : ((k : ℕ) → k < length plane → test (get_or plane k nan) ≡ true) → all_are test plane ≡ true
  unfolding all_are
  all-is f = every-is (λ k. test (get_or plane k nan)) (length plane) f

pub all-tab : (test : Float → Bool) (n : ℕ) (f : ℕ → Float) → ((k : ℕ) → k < n → test (f k) ≡ true) → all_are test (tab n f) ≡ true
all-tab test n f h =
    all-is test (tab n f)
    (λ k l. let k< : k < n = subst (λ (m : ℕ). k < m) (length-tab n f) l in subst (λ (x : Float). test x ≡ true) (sym (get_d-tab n f k nan k<)) (h k k<))

pub one-finite : T (finite one64)
unfolding of_bits
one-finite = tt

pub zero-upward : T (upward zero64)
unfolding of_bits
zero-upward = tt
