-- Texts of numbers and planes, and a text that passes its buffer's end: one statement on one table, shown by evaluating the definitions.
-- Assumes nothing.
use Prim.Native.Nat.{ℕ}
use mathlib.Core.Path.{◌≡◌, refl}
use mathlib.Core.List.{List, [], ◌∷◌, map}
use Rattle.listing_lines.specs.Lines.{digits, decimal, number_line, joined, parting, cell_text, plane_text}
use Rattle.listing_lines.specs.Pages.{page_with, end_after}

pub record Case : Type 0 where
  pub text : List ℕ
  pub is : List ℕ

abbrev cases : List Case
cases =
    -- 0, 7, 10, 4,294,967,295
    record { text = decimal 0; is = 48 ∷ [] }
    ∷ record { text = decimal 7; is = 55 ∷ [] }
    ∷ record { text = decimal 10; is = 49 ∷ 48 ∷ [] }
    ∷ record { text = decimal 4294967295; is = 52 ∷ 50 ∷ 57 ∷ 52 ∷ 57 ∷ 54 ∷ 55 ∷ 50 ∷ 57 ∷ 53 ∷ [] }
    ∷ record { text = number_line 8; is = 56 ∷ 10 ∷ [] }
    -- 12 3 / 4 5, then pieces of one column
    ∷ record { text = plane_text 0 (12 ∷ 3 ∷ 4 ∷ 5 ∷ []) 2; is = 49 ∷ 50 ∷ 32 ∷ 51 ∷ 10 ∷ 52 ∷ 32 ∷ 53 ∷ 10 ∷ [] }
    ∷ record { text = plane_text 1 (1 ∷ 3 ∷ []) 1; is = 48 ∷ 10 ∷ 50 ∷ 10 ∷ [] }
    -- a buffer with room, without room, and an entry past its end
    ∷ record { text = page_with (7 ∷ 8 ∷ []) 1 (0 ∷ 0 ∷ 0 ∷ 0 ∷ []); is = 0 ∷ 7 ∷ 8 ∷ 0 ∷ [] }
    ∷ record { text = page_with (7 ∷ 8 ∷ []) 3 (0 ∷ 0 ∷ 0 ∷ 0 ∷ []); is = 0 ∷ 0 ∷ 0 ∷ 7 ∷ [] }
    ∷ record { text = page_with (7 ∷ 8 ∷ []) 9 (0 ∷ 0 ∷ []); is = 0 ∷ 0 ∷ [] }
    ∷ record {
      text = end_after (7 ∷ 8 ∷ []) 1 (0 ∷ 0 ∷ 0 ∷ 0 ∷ []) ∷ end_after (7 ∷ 8 ∷ []) 3 (0 ∷ 0 ∷ 0 ∷ 0 ∷ []) ∷ end_after (7 ∷ 8 ∷ []) 9 (0 ∷ 0 ∷ []) ∷ [];
      is = 3 ∷ 4 ∷ 9 ∷ [];
    }
    ∷ []

pub texts-are : map (λ (c : Case). c.text) cases ≡ map (λ (c : Case). c.is) cases
unfolding digits decimal number_line joined parting cell_text plane_text page_with end_after
texts-are = refl
