-- Floats as the rules write them. Every operation is one rounded operation of binary64; a literal is given by its bits.
use Rattle.std.specs.Prelude.{ℕ, Bool, not, ◌&&◌, List, length, get_or, pos, Float}
use Rattle.std.specs.Float.{nan, binary64}
use Rattle.std.specs.Float.Ieee.{of_bits, of_int, is_nan, lt, le, add, mul, div}
use Rattle.base.specs.Counting.{every}

abbrev pub zero64 : Float
zero64 = of_bits binary64 0

abbrev pub one64 : Float
one64 = of_bits binary64 0x3ff0_0000_0000_0000

abbrev pub inf64 : Float
inf64 = of_bits binary64 0x7ff0_0000_0000_0000

abbrev pub plus : Float → Float → Float
plus x y = add binary64 x y

abbrev pub times : Float → Float → Float
times x y = mul binary64 x y

abbrev pub over : Float → Float → Float
over x y = div binary64 x y

-- the float of a count
abbrev pub float_of : ℕ → Float
float_of n = of_int binary64 (pos n)

-- NUMBER: neither a NaN nor below zero, which -0.0 is not; for products, quotients and scores not infinite either
abbrev pub is_number : Float → Bool
is_number x = le zero64 x

abbrev pub is_finite : Float → Bool
is_finite x = le zero64 x && lt x inf64

-- not a NaN; an infinity passes
abbrev pub no_nan : Float → Bool
no_nan x = not (is_nan x)

unfoldable pub all_are : (Float → Bool) → List Float → Bool
all_are test plane = every (length plane) (λ k. test (get_or plane k nan))
