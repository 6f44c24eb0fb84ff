-- Document 01, "Listing program": at most 16,384 bytes; decimal numbers 0..=1,000,000, leading zeros allowed, parted by one or more
-- spaces or line feeds, which may also stand first and last.
use Rattle.std.specs.Prelude.{ℕ, List, [], ◌∷◌, leb, length}
use Rattle.base.specs.Counting.{pick}
use Rattle.listing_numbers.specs.Decimals.{Text, bad, numbers_in}

abbrev pub max_input : ℕ
max_input = 16384

abbrev pub max_number : ℕ
max_number = 1000000

-- the space and the line feed
abbrev pub input_blanks : List ℕ
input_blanks = 32 ∷ 10 ∷ []

unfoldable pub input_text : List ℕ → Text
input_text input = pick (leb (length input) max_input) (numbers_in input_blanks max_number input) bad
