-- Sets of colours by their digits, over any number n of bits.
--     bits-lt       the set of the colours 1 to n is below 2 ^ n
--     bits-ext      two tests that agree on 1 to n give one set
--     bits-has      which colours are in it; past n there are none
--     bits_back     a number below 2 ^ n is the set of what it has
--     none_is, all-is, one-is   the set of none, of all, of one
-- Assumes nothing.
use Prim.Native.Nat.{ℕ, zero, suc, ◌+◌, ◌-◌, ◌*◌, ◌/◌, ◌%◌, ◌^◌, ◌≤◌, ◌<◌, zero-le, suc-le-suc}
use mathlib.Core.Path.{◌≡◌, refl, sym, ◌∙◌, ap, subst}
use mathlib.Core.Bool.{Bool, true, false}
use mathlib.Core.Logic.{⊎_elim}
use native.Mathlib.Nat.{pow-suc, le_of_suc-le-suc, not-suc-le-zero, le_step, le_refl, eq-or-lt_of_le, mod-lt, le_dest, add_comm, div-eq_of_lt, lt_of_lt_of_le}
use native.Mathlib.Numerals.{add-one}
use native.Mathlib.Omega.{arith}
use borrow.Author.Tests.{eq-eqb, ne_eqb}
use lib.Dec.{eqb}
use lib.Pow.{pow_pos, pow_mono, split, high, low, field, mod-mod-pow, shr_lt}
use Rattle.base.specs.Counting.{pick}
use Rattle.rules.specs.Sets.{has, bits_of}

pick-le : (b : Bool) (a : ℕ) → pick b a 0 ≤ a
pick-le true a = le_refl a
pick-le false a = zero-le

pub bits-lt : (n : ℕ) (f : ℕ → Bool) → bits_of n f < 2 ^ n
unfolding bits_of
bits-lt zero f = omega arith
bits-lt (suc n) f = rw pow-suc (omega (arith, bits-lt n f, pick-le (f (suc n)) (2 ^ n)))

pub bits-ext : (n : ℕ) (f g : ℕ → Bool) → ((t : ℕ) → 1 ≤ t → t ≤ n → f t ≡ g t) → bits_of n f ≡ bits_of n g
unfolding bits_of
bits-ext zero f g h = refl
bits-ext (suc n) f g h = rw (bits-ext n f g (λ t a b. h t a (le_step b)), h (suc n) (suc-le-suc zero-le) (le_refl (suc n)))

-- the digits below n are those of the remainder
digit_low : (x j k : ℕ) → x % 2 ^ (j + 1 + k) / 2 ^ k % 2 ≡ x / 2 ^ k % 2
digit_low x j k = ap (λ (y : ℕ). y % 2) (field x (j + 1) k) ∙ mod-mod-pow (x / 2 ^ k) j 1

has-low : (x n k : ℕ) → k < n → has (x % 2 ^ n) (suc k) ≡ has x (suc k)
unfolding has
has-low x n k l =
    let w = le_dest l in
    let e : w.0 + 1 + k ≡ n = omega (arith, w.1) in
    subst (λ (m : ℕ). has (x % 2 ^ m) (suc k) ≡ has x (suc k)) e (ap (λ (y : ℕ). eqb y 1) (digit_low x w.0 k))

-- one digit more, as a multiple of its weight
pub weigh : (b : Bool) (m lo : ℕ) → lo + pick b m 0 ≡ pick b 1 0 * m + lo
weigh true m lo = omega arith
weigh false m lo = omega arith

weighed : (b : Bool) → eqb (pick b 1 0 % 2) 1 ≡ b
weighed true = refl
weighed false = refl

bit-has : (n : ℕ) (f : ℕ → Bool) (k : ℕ) → k < n → has (bits_of n f) (suc k) ≡ f (suc k)
unfolding bits_of has
bit-has zero f k l = absurd (not-suc-le-zero l)
bit-has (suc n) f k l =
    ap (λ (x : ℕ). has x (suc k)) (weigh (f (suc n)) (2 ^ n) (bits_of n f))
    ∙ ⊎_elim
    (λ e. subst (λ (i : ℕ). has (pick (f (suc n)) 1 0 * 2 ^ n + bits_of n f) (suc i) ≡ f (suc i)) (sym e)
    (ap (λ (y : ℕ). eqb (y % 2) 1) (high (pick (f (suc n)) 1 0) n (bits-lt n f)) ∙ weighed (f (suc n))))
    (λ lt. sym (has-low (pick (f (suc n)) 1 0 * 2 ^ n + bits_of n f) n k lt)
    ∙ ap (λ (y : ℕ). has y (suc k)) (low (pick (f (suc n)) 1 0) n (bits-lt n f))
    ∙ bit-has n f k lt)
    (eq-or-lt_of_le (le_of_suc-le-suc l))

pub bits-has : (n : ℕ) (f : ℕ → Bool) (t : ℕ) → 1 ≤ t → t ≤ n → has (bits_of n f) t ≡ f t
bits-has n f zero a b = absurd (omega arith)
bits-has n f (suc k) a b = bit-has n f k b

-- 0 and the colours past the number of bits are in no set
pub has-zero : (x : ℕ) → has x 0 ≡ false
unfolding has
has-zero x = refl

pub has-past : (n x t : ℕ) → x < 2 ^ n → n < t → has x t ≡ false
unfolding has
has-past n x zero l h = refl
has-past n x (suc k) l h =
    let e : x / 2 ^ k ≡ 0 = div-eq_of_lt (lt_of_lt_of_le l (pow_mono (le_of_suc-le-suc h))) in
    rw e

top : (q m : ℕ) → q < 2 → pick (eqb (q % 2) 1) m 0 ≡ q * m
top zero m l = omega arith
top (suc zero) m l = omega arith
top (suc (suc q)) m l = absurd (omega arith)

pub bits_back : (n x : ℕ) → x < 2 ^ n → bits_of n (has x) ≡ x
unfolding bits_of has
bits_back zero x l = omega arith
bits_back (suc n) x l =
    let lo = bits_back n (x % 2 ^ n) (mod-lt x (pow_pos n)) in
    let same = bits-ext n (has (x % 2 ^ n)) (has x) at in
    omega (arith, lo, same, top (x / 2 ^ n) (2 ^ n) (shr_lt 1 n (rw (add_comm 1 n, add-one) l)), split x n)
  where
    at : (t : ℕ) → 1 ≤ t → t ≤ n → has (x % 2 ^ n) t ≡ has x t
    at zero a b = refl
    at (suc k) a b = has-low x n k b

-- a set whose colours are those of which f holds
pub set_is : (n x : ℕ) (f : ℕ → Bool) → x < 2 ^ n → ((t : ℕ) → 1 ≤ t → t ≤ n → has x t ≡ f t) → x ≡ bits_of n f
set_is n x f l h = sym (bits_back n x l) ∙ bits-ext n (has x) f h

pub none_is : (n : ℕ) → 0 ≡ bits_of n (λ t. false)
unfolding bits_of
none_is zero = refl
none_is (suc n) = omega (arith, none_is n)

ones-more : (n : ℕ) → bits_of n (λ t. true) + 1 ≡ 2 ^ n
unfolding bits_of
ones-more zero = refl
ones-more (suc n) = rw pow-suc (omega (arith, ones-more n))

pub all-is : (n : ℕ) → 2 ^ n - 1 ≡ bits_of n (λ t. true)
all-is n = omega (arith, ones-more n)

pub one-is : (n k : ℕ) → k < n → 2 ^ k ≡ bits_of n (λ t. eqb t (suc k))
unfolding bits_of
one-is zero k l = absurd (not-suc-le-zero l)
one-is (suc n) k l = ⊎_elim (λ e. here e) (λ lt. below lt (one-is n k lt)) (eq-or-lt_of_le (le_of_suc-le-suc l))
  where
    here : k ≡ n → 2 ^ k ≡ bits_of n (λ t. eqb t (suc k)) + pick (eqb (suc n) (suc k)) (2 ^ n) 0
    here e =
        let a : bits_of n (λ t. eqb t (suc k)) ≡ bits_of n (λ t. false) = bits-ext n _ _ (λ t p q. ne_eqb t (suc k) (λ r. omega arith)) in
        rw (a, ← none_is n, eq-eqb (suc n) (suc k) (ap suc (sym e)), e) (omega arith)

    below : k < n → 2 ^ k ≡ bits_of n (λ t. eqb t (suc k)) → 2 ^ k ≡ bits_of n (λ t. eqb t (suc k)) + pick (eqb (suc n) (suc k)) (2 ^ n) 0
    below lt ih = rw (ne_eqb (suc n) (suc k) (λ r. omega arith)) (omega arith)
