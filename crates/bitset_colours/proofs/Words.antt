-- What the machine's `<<`, `>>`, `&` and `|` make of sets, over any number n of bits.
--     shl_one       a one shifted left is a power of two, at any width that it fits
--     has-next      the digit that the code reads
--     has-and, and_is    `&` is the intersection
--     has-or, or_is      `|` with the bit of a colour inserts it; the bit of 0 is 0
--     past_is            a colour past the size is left out
-- Assumes nothing.
use Prim.Native.Nat.{ℕ, zero, suc, ◌+◌, ◌*◌, ◌/◌, ◌%◌, ◌^◌, ◌≤◌, ◌<◌, min, max}
use mathlib.Core.Path.{◌≡◌, refl, sym, ◌∙◌, ap}
use mathlib.Core.Bool.{Bool, true, false, ◌&&◌, ◌||◌}
use native.Mathlib.Nat.{mod-lt, lt_of_le_of_lt, min-le_left, max-le, pow-suc}
use native.Mathlib.Numerals.{add-one}
use native.Mathlib.Omega.{arith}
use borrow.Author.Tests.{ne_eqb}
use lib.Dec.{eqb, lit<}
use lib.Pow.{shl_exact, shl-shr}
use lib.Arith.{digits_mod}
use lib.Bits.{bit_and, bit_or, and_shr, and_step, and_le_l, or_shr, or_step, or_lt}
use Rattle.rules.specs.Sets.{has, bits_of}
use Rattle.bitset_colours.proofs.Digits.{bits-lt, bits-ext, bits-has, set_is, none_is, one-is}

pub shl_one : (w k : ℕ) → k < w → (1 * 2 ^ k) % 2 ^ w ≡ 2 ^ k
shl_one w k l = shl_exact 1 k w (lit< tt) (omega arith) ∙ omega arith

pub has-next : (x k : ℕ) → eqb (x / 2 ^ k % 2) 1 ≡ has x (k + 1)
unfolding has
has-next x k = rw add-one

-- two digits, each 0 or 1
module _ (op : ℕ → ℕ → ℕ) (test : Bool → Bool → Bool) (a : eqb (op 0 0) 1 ≡ test false false) (b : eqb (op 0 1) 1 ≡ test false true)
    (c : eqb (op 1 0) 1 ≡ test true false) (d : eqb (op 1 1) 1 ≡ test true true) where
  by-digit : (p q : ℕ) → p < 2 → q < 2 → eqb (op p q) 1 ≡ test (eqb p 1) (eqb q 1)
  by-digit zero zero l m = a
  by-digit zero (suc zero) l m = b
  by-digit (suc zero) zero l m = c
  by-digit (suc zero) (suc zero) l m = d
  by-digit zero (suc (suc q)) l m = absurd (omega arith)
  by-digit (suc zero) (suc (suc q)) l m = absurd (omega arith)
  by-digit (suc (suc p)) q l m = absurd (omega arith)

pub odd-lt : (x : ℕ) → x % 2 < 2
odd-lt x = mod-lt x (lit< tt)

and-digit : (u v : ℕ) → bit_and u v % 2 ≡ min (u % 2) (v % 2)
and-digit u v =
    ap (λ (y : ℕ). y % 2) (and_step u v) ∙ digits_mod (bit_and (u / 2) (v / 2)) (lt_of_le_of_lt (min-le_left (u % 2) (v % 2)) (odd-lt u))

or-digit : (u v : ℕ) → bit_or u v % 2 ≡ max (u % 2) (v % 2)
or-digit u v =
    let l : max (u % 2) (v % 2) ≤ 1 = max-le {a = u % 2} {b = v % 2} {k = 1} (omega (arith, odd-lt u)) (omega (arith, odd-lt v)) in
    ap (λ (y : ℕ). y % 2) (or_step u v) ∙ digits_mod (bit_or (u / 2) (v / 2)) {m = 2} (omega arith)

pub has-and : (x y t : ℕ) → has (bit_and x y) t ≡ (has x t && has y t)
unfolding has
has-and x y zero = refl
has-and x y (suc k) =
    ap (λ (z : ℕ). eqb (z % 2) 1) (and_shr x y k)
    ∙ ap (λ (z : ℕ). eqb z 1) (and-digit (x / 2 ^ k) (y / 2 ^ k))
    ∙ by-digit min ◌&&◌ refl refl refl refl (x / 2 ^ k % 2) (y / 2 ^ k % 2) (odd-lt (x / 2 ^ k)) (odd-lt (y / 2 ^ k))

pub has-or : (x y t : ℕ) → has (bit_or x y) t ≡ (has x t || has y t)
unfolding has
has-or x y zero = refl
has-or x y (suc k) =
    ap (λ (z : ℕ). eqb (z % 2) 1) (or_shr x y k)
    ∙ ap (λ (z : ℕ). eqb z 1) (or-digit (x / 2 ^ k) (y / 2 ^ k))
    ∙ by-digit max ◌||◌ refl refl refl refl (x / 2 ^ k % 2) (y / 2 ^ k % 2) (odd-lt (x / 2 ^ k)) (odd-lt (y / 2 ^ k))

pub and_is : (n x y : ℕ) → x < 2 ^ n → bit_and x y ≡ bits_of n (λ t. has x t && has y t)
and_is n x y l = set_is n (bit_and x y) (λ t. has x t && has y t) (lt_of_le_of_lt (and_le_l x y) l) (λ t a b. has-and x y t)

-- the bit of a colour, and of 0
bit_is : (n t : ℕ) → t ≤ n → 2 ^ t / 2 ≡ bits_of n (λ u. eqb u t)
bit_is n zero l = none_is n ∙ bits-ext n (λ t. false) (λ u. eqb u 0) (λ u a b. sym (ne_eqb u 0 (λ q. omega arith)))
bit_is n (suc k) l = ap (λ (x : ℕ). x / 2) (pow-suc 2 k) ∙ shl-shr (2 ^ k) 1 ∙ one-is n k l

pub or_is : (n x t : ℕ) → x < 2 ^ n → t ≤ n → bit_or x (2 ^ t / 2) ≡ bits_of n (λ u. has x u || eqb u t)
or_is n x t l m =
    set_is n (bit_or x (2 ^ t / 2)) (λ u. has x u || eqb u t)
    (or_lt n x (2 ^ t / 2) l (rw (bit_is n t m) (bits-lt n (λ u. eqb u t))))
    (λ u a b. has-or x (2 ^ t / 2) u ∙ ap (λ (z : Bool). has x u || z) (ap (λ (y : ℕ). has y u) (bit_is n t m) ∙ bits-has n (λ u. eqb u t) u a b))

or_no : (b : Bool) → (b || false) ≡ b
or_no true = refl
or_no false = refl

pub past_is : (n x t : ℕ) → x < 2 ^ n → n < t → x ≡ bits_of n (λ u. has x u || eqb u t)
past_is n x t l m = set_is n x (λ u. has x u || eqb u t) l (λ u a b. rw (ne_eqb u t (λ q. omega arith)) (sym (or_no (has x u))))
