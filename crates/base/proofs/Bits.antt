-- How far an equation between floats decides their bits: patterns of the same float are the same pattern, or all NaN patterns.
-- Assumes nothing.
use Prim.Native.Nat.{ℕ, ◌^◌, ◌<◌}
use mathlib.Core.Path.{◌≡◌, sym, ◌∙◌, ap}
use mathlib.Core.Bool.{Bool, true, false, not}
use mathlib.Core.Logic.{◌⊎◌, inl, inr}
use lib.Dec.{T}
use lib.Ieee.{binary64, of_bits, to_bits, nan_bits, is_nan}
use lib.Ieee.Bits.{to_bits-of_bits, nan_bits_is}
use Rattle.base.proofs.Bools.{by-test}

T-not-of : (b : Bool) → b ≡ false → T (not b)
T-not-of b e = rw e tt

pub same-pattern : (m n : ℕ) → m < 2 ^ 64 → n < 2 ^ 64 → of_bits binary64 m ≡ of_bits binary64 n
    → (m ≡ n) ⊎ ((nan_bits binary64 m ≡ true) × (nan_bits binary64 n ≡ true))
same-pattern m n hm hn e =
    by-test (is_nan (of_bits binary64 m))
    (λ y. inr (nan_bits_is binary64 m ∙ y, nan_bits_is binary64 n ∙ ap is_nan (sym e) ∙ y))
    (λ y. inl (sym (to_bits-of_bits binary64 m hm (T-not-of _ y)) ∙ ap (to_bits binary64) e ∙ to_bits-of_bits binary64 n hn (T-not-of _ (ap is_nan (sym e) ∙ y))))
