-- A queue in three arrays that are lent for change: a slot is a row, a column and a colour. Its entries stand one after the other from a
-- first slot on, and after the last slot comes slot 0. What stands in the other slots is not read.
use Rattle.std.specs.Prelude.{ℕ, ◌+◌, ◌%◌, ◌<◌, ◌≤◌, ◌≡◌, List, ℤ, pos, length, get_or}
use Rattle.base.specs.Tables.{tab}
use Rattle.base.specs.Refusal.{refusal}
use Rattle.rules.specs.Bounds.{queue_room}
use Rattle.rules.specs.Answers.{Answer, answered}
use Rattle.rules.specs.Forced.{room_checks}
use Rattle.rules.specs.Promises.{Lent, before, after}
use Rattle.rules.specs.declared.ForcedPosition.{ForcedPosition}

pub record Slots : Type 0 where
  pub rows : List ℤ
  pub cols : List ℤ
  pub colours : List ℕ

abbrev pub slots : List ℤ → List ℤ → List ℕ → Slots
slots rows cols colours = record { rows = rows; cols = cols; colours = colours }

abbrev pub slots_before : Lent (List ℤ) → Lent (List ℤ) → Lent (List ℕ) → Slots
slots_before rows cols colours = slots (before rows) (before cols) (before colours)

abbrev pub slots_after : Lent (List ℤ) → Lent (List ℤ) → Lent (List ℕ) → Slots
slots_after rows cols colours = slots (after rows) (after cols) (after colours)

-- what stands in slot n
unfoldable pub in_slot : Slots → ℕ → ForcedPosition
in_slot s n =
    record { coordinates = record { 0 = get_or s.rows n (pos 0); 1 = get_or s.cols n (pos 0) }; colour = get_or s.colours n 0 }

-- the slot of entry i
abbrev pub slot_of : ℕ → ℕ → ℕ
slot_of first i = (first + i) % queue_room

-- the entries of the queue, next out first
unfoldable pub waiting : Slots → ℕ → ℕ → List ForcedPosition
waiting s first len = tab len (λ i. in_slot s (slot_of first i))

-- each array has its slots; and a first slot and a number of entries that can be
pub record Shaped (s : Slots) : Type 0 where
  pub rows : length s.rows ≡ queue_room
  pub cols : length s.cols ≡ queue_room
  pub colours : length s.colours ≡ queue_room

pub record Ringed (s : Slots) (first len : ℕ) : Type 0 where
  pub shaped : Shaped s
  pub begins : first < queue_room
  pub in-room : len ≤ queue_room

-- an adding that is to make l of the entries: how many wait then, or ROOM; the entries that waited stand as they did, and where there is
-- room for all of l, it waits
pub record Grows (old : Slots) (first len : ℕ) (l : List ForcedPosition) (r : Answer ℕ) (new : Slots) : Type 0 where
  pub answered : r ≡ answered (refusal (room_checks l)) (length l)
  pub kept : (m : ℕ) → m ≤ len → waiting new first m ≡ waiting old first m
  pub grown : length l ≤ queue_room → waiting new first (length l) ≡ l
  pub shaped : Shaped new
