-- How the code holds a reading: how many numbers are ended, and not the numbers themselves.
use Rattle.std.specs.Prelude.{ℕ, ◌+◌, ◌<◌, ◌≤◌, List, [], ◌∷◌, ◌++◌, Option, Some, None, length, set}
use Rattle.base.specs.Counting.{pick}
use Rattle.listing_numbers.specs.Decimals.{Reading, spoilt, between, inside, is_blank, with_digit, grows}
use Rattle.listing_numbers.specs.declared.State.{State}
use Rattle.listing_numbers.specs.declared.State.TheVariants.{Spoilt, Between, Inside}

abbrev pub state_of : Reading → State
state_of spoilt = Spoilt
state_of (between ns) = Between (length ns)
state_of (inside ns n) = Inside (length ns) n

abbrev pub grown_state : ℕ → ℕ → ℕ → ℕ → State
grown_state limit k n b = pick (grows limit n b) (Inside k (with_digit n b)) Spoilt

unfoldable pub next_state : List ℕ → ℕ → State → ℕ → State
next_state blanks limit Spoilt b = Spoilt
next_state blanks limit (Between k) b = pick (is_blank blanks b) (Between k) (grown_state limit k 0 b)
next_state blanks limit (Inside k n) b = pick (is_blank blanks b) (Between (k + 1)) (grown_state limit k n b)

-- as many bytes at the least have been read: a number has a digit, and a blank after it
abbrev pub bytes_read : State → ℕ
bytes_read Spoilt = 0
bytes_read (Between k) = k + k
bytes_read (Inside k n) = k + k + 1

abbrev pub found_by : State → Option ℕ
found_by Spoilt = None
found_by (Between k) = Some k
found_by (Inside k n) = Some (k + 1)

-- a number is stored with each of its digits
abbrev pub held : State → List ℕ → List ℕ
held Spoilt store = store
held (Between k) store = store
held (Inside k n) store = set store k n

abbrev pub entries : State → ℕ
entries Spoilt = 0
entries (Between k) = k
entries (Inside k n) = k + 1

-- the numbers that are begun
abbrev pub begun : Reading → List ℕ
begun spoilt = []
begun (between ns) = ns
begun (inside ns n) = ns ++ n ∷ []

-- a text of numbers, for all of which there is room
abbrev pub Fits : ℕ → Reading → Type 0
Fits room spoilt = ⊥
Fits room (between ns) = length ns ≤ room
Fits room (inside ns n) = length ns < room
