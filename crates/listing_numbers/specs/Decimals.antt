-- Decimal numbers parted by white space: what a text of bytes makes. Which bytes are white space and how large a number may be is for
-- the caller to say.
use Rattle.std.specs.Prelude.{ℕ, ◌+◌, ◌-◌, ◌*◌, Bool, ◌&&◌, List, [], ◌∷◌, ◌++◌, Result, Ok, Err, leb, eqb, length, get_or, drop}
use Rattle.base.specs.Counting.{pick, some, within}
use Rattle.base.specs.Tables.{fold}
use Rattle.base.specs.Refusal.{Gives}
use Rattle.listing_numbers.specs.declared.ParseError.{ParseError}
use Rattle.listing_numbers.specs.declared.ParseError.TheVariants as ParseError·

-- what has been read: the numbers that are ended and, inside one, what its digits make so far
pub data Reading : Type 0 where
  spoilt : Reading
  between : List ℕ → Reading
  inside : List ℕ → ℕ → Reading

abbrev pub is_byte : List ℕ → ℕ → ℕ → Bool
is_byte blanks b k = eqb (get_or blanks k 0) b

unfoldable pub is_blank : List ℕ → ℕ → Bool
is_blank blanks b = some (length blanks) (is_byte blanks b)

-- a digit more
unfoldable pub with_digit : ℕ → ℕ → ℕ
with_digit n b = n * 10 + (b - 48)

-- the byte is a digit, and the number with it is not too large
unfoldable pub grows : ℕ → ℕ → ℕ → Bool
grows limit n b = within 48 57 b && leb (with_digit n b) limit

abbrev pub grown : ℕ → List ℕ → ℕ → ℕ → Reading
grown limit ns n b = pick (grows limit n b) (inside ns (with_digit n b)) spoilt

-- one byte more; leading zeros are digits like others
unfoldable pub after : List ℕ → ℕ → Reading → ℕ → Reading
after blanks limit spoilt b = spoilt
after blanks limit (between ns) b = pick (is_blank blanks b) (between ns) (grown limit ns 0 b)
after blanks limit (inside ns n) b = pick (is_blank blanks b) (between (ns ++ n ∷ [])) (grown limit ns n b)

-- a text is numbers, or it is not
pub data Text : Type 0 where
  bad : Text
  numbers : List ℕ → Text

-- the end of the text ends a number
abbrev pub ended : Reading → Text
ended spoilt = bad
ended (between ns) = numbers ns
ended (inside ns n) = numbers (ns ++ n ∷ [])

unfoldable pub reading : List ℕ → ℕ → List ℕ → Reading
reading blanks limit text = fold (after blanks limit) (between []) text

unfoldable pub numbers_in : List ℕ → ℕ → List ℕ → Text
numbers_in blanks limit text = ended (reading blanks limit text)

-- ---- the call: the numbers stand at the start of a lent store, if it has room for all; else it is left as it was

abbrev pub parsed_into : ℕ → Text → Result ℕ ParseError
parsed_into room bad = Err ParseError·.Bad
parsed_into room (numbers ns) = pick (leb (length ns) room) (Ok (length ns)) (Err ParseError·.Full)

unfoldable pub over : List ℕ → List ℕ → List ℕ
over ns store = ns ++ drop (length ns) store

abbrev pub numbers_stored : Text → List ℕ → List ℕ
numbers_stored bad store = store
numbers_stored (numbers ns) store = pick (leb (length ns) (length store)) (over ns store) store

abbrev pub Parses : Text → List ℕ → Result ℕ ParseError → List ℕ → Type 0
Parses text store = Gives (parsed_into (length store) text) (numbers_stored text store)
