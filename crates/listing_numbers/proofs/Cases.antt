-- The grammar on small inputs: one statement on one table, shown by evaluating the definitions. Each case is an input's bytes and what it
-- is: nothing but that it is bad, or its numbers.
-- Assumes nothing.
use Prim.Native.Nat.{ℕ}
use mathlib.Core.Path.{◌≡◌, refl}
use mathlib.Core.List.{List, [], ◌∷◌, map}
use Rattle.base.specs.Counting.{some, within}
use Rattle.base.specs.Tables.{fold}
use Rattle.listing_numbers.specs.Decimals.{Text, bad, numbers, is_blank, with_digit, grows, after, reading, numbers_in}
use Rattle.listing_numbers.specs.Input.{input_text}

pub record Case : Type 0 where
  pub input : List ℕ
  pub is : Text

abbrev cases : List Case
cases =
    -- nothing at all, and blanks alone
    record { input = []; is = numbers [] }
    ∷ record { input = 32 ∷ 10 ∷ 10 ∷ 32 ∷ []; is = numbers [] }
    -- "3 004", "\n12 ", with blanks first and last, and several between
    ∷ record { input = 51 ∷ 32 ∷ 48 ∷ 48 ∷ 52 ∷ []; is = numbers (3 ∷ 4 ∷ []) }
    ∷ record { input = 10 ∷ 49 ∷ 50 ∷ 32 ∷ []; is = numbers (12 ∷ []) }
    ∷ record { input = 48 ∷ 32 ∷ 10 ∷ 32 ∷ 57 ∷ []; is = numbers (0 ∷ 9 ∷ []) }
    -- "1000000", "1000001", "0001000000", "99999999999"
    ∷ record { input = 49 ∷ 48 ∷ 48 ∷ 48 ∷ 48 ∷ 48 ∷ 48 ∷ []; is = numbers (1000000 ∷ []) }
    ∷ record { input = 49 ∷ 48 ∷ 48 ∷ 48 ∷ 48 ∷ 48 ∷ 49 ∷ []; is = bad }
    ∷ record { input = 48 ∷ 48 ∷ 48 ∷ 49 ∷ 48 ∷ 48 ∷ 48 ∷ 48 ∷ 48 ∷ 48 ∷ []; is = numbers (1000000 ∷ []) }
    ∷ record { input = 57 ∷ 57 ∷ 57 ∷ 57 ∷ 57 ∷ 57 ∷ 57 ∷ 57 ∷ 57 ∷ 57 ∷ 57 ∷ []; is = bad }
    -- "7\t8", "7\r\n", "-1", "+1", "a", "1,2", a byte 0
    ∷ record { input = 55 ∷ 9 ∷ 56 ∷ []; is = bad }
    ∷ record { input = 55 ∷ 13 ∷ 10 ∷ []; is = bad }
    ∷ record { input = 45 ∷ 49 ∷ []; is = bad }
    ∷ record { input = 43 ∷ 49 ∷ []; is = bad }
    ∷ record { input = 97 ∷ []; is = bad }
    ∷ record { input = 49 ∷ 44 ∷ 50 ∷ []; is = bad }
    ∷ record { input = 0 ∷ []; is = bad }
    ∷ []

pub texts-are : map (λ (c : Case). input_text c.input) cases ≡ map (λ (c : Case). c.is) cases
unfolding some within fold is_blank with_digit grows after reading numbers_in input_text
texts-are = refl
