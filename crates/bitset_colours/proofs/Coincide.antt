-- Two results that meet the contract of a function coincide, also where it promises them for any number of bits that holds the set.
-- Assumes nothing.
use Prim.Native.Nat.{ℕ, zero, suc, ◌+◌, ◌^◌, ◌<◌, ◌≤◌}
use mathlib.Core.Path.{◌≡◌}
use mathlib.Core.Bool.{Bool, true, ◌&&◌, ◌||◌}
use native.Mathlib.Nat.{pow-suc, lt_of_lt_of_le}
use native.Mathlib.Omega.{arith}
use lib.Dec.{eqb}
use lib.ListN.{length}
use lib.Pow.{pow_mono}
use Rattle.base.proofs.Chain.{coincide}
use Rattle.rules.specs.Sets.{has, bits_of, colours_of, colour_list}
use Rattle.rules.specs.Forced.{only}
use Rattle.rules.specs.declared.ColourList.{ColourList}

-- some number of bits holds any set
bits-hold : (n : ℕ) → n < 2 ^ n
bits-hold zero = omega arith
bits-hold (suc n) = rw pow-suc (omega (arith, bits-hold n))

each-coincides : {A : Type 0} {x y : A} (bits : ℕ) (due : ℕ → A) → ((n : ℕ) → bits < 2 ^ n → x ≡ due n) → ((n : ℕ) → bits < 2 ^ n → y ≡ due n) → x ≡ y
each-coincides bits due p q = coincide (p bits (bits-hold bits)) (q bits (bits-hold bits))

pub with-colour-coincides : {x y : ℕ} (bits t : ℕ) → ((n : ℕ) → bits < 2 ^ n → t ≤ n → x ≡ bits_of n (λ u. has bits u || eqb u t))
    → ((n : ℕ) → bits < 2 ^ n → t ≤ n → y ≡ bits_of n (λ u. has bits u || eqb u t)) → x ≡ y
with-colour-coincides bits t p q =
    let l : bits < 2 ^ (bits + t) = lt_of_lt_of_le (bits-hold bits) (pow_mono {i = bits} {j = bits + t} (omega arith)) in
    coincide (p (bits + t) l (omega arith)) (q (bits + t) l (omega arith))

pub all-colours-coincides : {x y : ℕ} (size : ℕ) → x ≡ bits_of size (λ t. true) → y ≡ bits_of size (λ t. true) → x ≡ y
all-colours-coincides size = coincide

pub common-colours-coincides : {x y : ℕ} (bits others : ℕ) → ((n : ℕ) → bits < 2 ^ n → x ≡ bits_of n (λ t. has bits t && has others t))
    → ((n : ℕ) → bits < 2 ^ n → y ≡ bits_of n (λ t. has bits t && has others t)) → x ≡ y
common-colours-coincides bits others = each-coincides bits _

pub has-colour-coincides : {x y : Bool} (bits t : ℕ) → x ≡ has bits t → y ≡ has bits t → x ≡ y
has-colour-coincides bits t = coincide

pub no-colour-coincides : {x y : Bool} (bits : ℕ) → ((n : ℕ) → bits < 2 ^ n → x ≡ eqb (length (colours_of n (has bits))) 0)
    → ((n : ℕ) → bits < 2 ^ n → y ≡ eqb (length (colours_of n (has bits))) 0) → x ≡ y
no-colour-coincides bits = each-coincides bits _

pub colours-in-coincides : {x y : ℕ} (bits : ℕ) → ((n : ℕ) → bits < 2 ^ n → x ≡ length (colours_of n (has bits)))
    → ((n : ℕ) → bits < 2 ^ n → y ≡ length (colours_of n (has bits))) → x ≡ y
colours-in-coincides bits = each-coincides bits _

pub only-colour-coincides : {x y : ℕ} (bits : ℕ) → ((n : ℕ) → bits < 2 ^ n → x ≡ only (colours_of n (has bits)))
    → ((n : ℕ) → bits < 2 ^ n → y ≡ only (colours_of n (has bits))) → x ≡ y
only-colour-coincides bits = each-coincides bits _

pub members-coincides : {x y : ColourList} (bits size : ℕ) → x ≡ colour_list (colours_of size (has bits)) → y ≡ colour_list (colours_of size (has bits)) → x ≡ y
members-coincides bits size = coincide
