-- Document 01, "Fit": forced neighbours, the queue, the dead end.
use Rattle.std.specs.Prelude.{Option, Some, None, ℕ, ◌-◌, ◌*◌, ◌/◌, ◌%◌, Bool, true, false, not, ◌&&◌, ◌||◌, List, [], ◌∷◌, ◌++◌, leb, ltb, eqb, length, get_or, take, drop, replicate, pos, ◌+ℤ◌, ◌-ℤ◌}
use Rattle.base.specs.Counting.{pick, first}
use Rattle.base.specs.Tables.{those, fold}
use Rattle.base.specs.Refusal.{Checks, ◌unless◌, ◌then◌, refusal, unless_refused}
use Rattle.rules.specs.Bounds.{max_weight, queue_room, added_room, SHAPE, LENGTH, CELL, PLACE, ROOM}
use Rattle.rules.specs.Tests.{board_sides, has_length, whole_tiles, none_above, on_wall, on_board}
use Rattle.rules.specs.Answers.{Answer, answered, if_there, next_of}
use Rattle.rules.specs.Places.{cell_of, same_place, in_box, box_fits}
use Rattle.rules.specs.Sets.{colours_of}
use Rattle.rules.specs.Grid.{Shape, Kind, entry_of, cell_with, laid_on}
use Rattle.rules.specs.Fit.{lists, contents_checks, pieces_checks, place_checks}
use Rattle.rules.specs.declared.World.{World}
use Rattle.rules.specs.declared.Offset.{Offset}
use Rattle.rules.specs.declared.ForcedPosition.{ForcedPosition}
use Rattle.rules.specs.declared.ForcedPositions.{ForcedPositions}
use Rattle.rules.specs.declared.ForcedPipeline.{ForcedPipeline}
use Rattle.rules.specs.declared.Taken.{Taken}
use Rattle.rules.specs.declared.Grown.{Grown}
use Rattle.rules.specs.declared.BoundingBox.{BoundingBox}
use Rattle.rules.specs.declared.Cell.{Cell}

-- ---- forced neighbours

-- of the nine places of the 3x3 round a place, row by row, number d; d = 4 is the place itself
unfoldable pub neighbour : World → ℕ → World
neighbour place d = record { 0 = (place.0 +ℤ pos (d / 3)) -ℤ pos 1; 1 = (place.1 +ℤ pos (d % 3)) -ℤ pos 1 }

-- not outside the box, if one is given
unfoldable pub admits : Option BoundingBox → World → Bool
admits None place = true
admits (Some b) place = in_box b place

-- the corners of the box, if one is given, are on the wall
unfoldable pub bounds_fit : Option BoundingBox → Bool
bounds_fit None = true
bounds_fit (Some b) = box_fits b

-- the colours listed at cell k
abbrev pub listed_at : Shape → List ℕ → List ℕ → ℕ → ℕ → List ℕ
listed_at g tiles pieces count k = colours_of count (lists g tiles pieces k)

-- the only one of a list of colours; 0 where there is none or more than one
abbrev pub only : List ℕ → ℕ
only [] = 0
only (t ∷ []) = t
only (t ∷ u ∷ l) = 0

-- cell k is bare and lists one colour only
unfoldable pub forces_one : Shape → List ℕ → List ℕ → ℕ → ℕ → Bool
forces_one g tiles pieces count k = not (laid_on pieces k) && eqb (length (listed_at g tiles pieces count k)) 1

-- omitted are those outside the box or the grid, those laid, and those with other than one listed colour
unfoldable pub is_forced : Kind → List ℕ → ℕ → ℕ → List ℕ → ℕ → World → Offset → Option BoundingBox → Bool
is_forced kind pieces rows cols tiles count place offset b =
    admits b place && on_board rows cols place offset && forces_one (kind rows cols) tiles pieces count (entry_of cols (cell_of place offset))

unfoldable pub forced_there : Kind → List ℕ → ℕ → ℕ → List ℕ → ℕ → World → Offset → ForcedPosition
forced_there kind pieces rows cols tiles count place offset =
    record { coordinates = place; colour = only (listed_at (kind rows cols) tiles pieces count (entry_of cols (cell_of place offset))) }

-- the eight neighbours row by row
unfoldable pub forced_round : Kind → List ℕ → ℕ → ℕ → List ℕ → ℕ → World → Offset → Option BoundingBox → List ForcedPosition
forced_round kind pieces rows cols tiles count place offset b =
    those 9 (λ d. not (eqb d 4) && is_forced kind pieces rows cols tiles count (neighbour place d) offset b)
    (λ d. forced_there kind pieces rows cols tiles count (neighbour place d) offset)

-- Unused entries are 0
abbrev pub no_position : ForcedPosition
no_position = record { coordinates = record { 0 = pos 0; 1 = pos 0 }; colour = 0 }

unfoldable pub padded : ℕ → List ForcedPosition → List ForcedPosition
padded room l = l ++ replicate (room - length l) no_position

unfoldable pub positions_of : List ForcedPosition → ForcedPositions
positions_of l = record { entries = padded added_room l; len = length l }

abbrev pub bounds_checks : Option BoundingBox → Checks
bounds_checks b = PLACE unless bounds_fit b

abbrev pub forced_checks : List ℕ → ℕ → ℕ → List ℕ → ℕ → World → Offset → Option BoundingBox → Checks
forced_checks pieces rows cols tiles count place offset b =
    pieces_checks pieces rows cols tiles count then place_checks rows cols place offset then bounds_checks b

unfoldable pub forced_neighbours : Kind → List ℕ → ℕ → ℕ → List ℕ → ℕ → World → Offset → Option BoundingBox → Answer ForcedPositions
forced_neighbours kind pieces rows cols tiles count place offset b =
    answered
    (refusal (forced_checks pieces rows cols tiles count place offset b))
    (positions_of (forced_round kind pieces rows cols tiles count place offset b))

-- ---- the queue: first in, first out. Its entries stand from entry 0, next out first; those past its length are not read

unfoldable pub queued : ForcedPipeline → List ForcedPosition
queued q = take q.len q.entries

unfoldable pub offered : ForcedPositions → List ForcedPosition
offered p = take p.len p.entries

-- an accepted call leaves the entries past the length at 0
unfoldable pub queue_of : List ForcedPosition → ForcedPipeline
queue_of l = record { entries = padded queue_room l; len = length l }

unfoldable pub is_queued : World → List ForcedPosition → Bool
is_queued place [] = false
is_queued place (e ∷ l) = same_place e.coordinates place || is_queued place l

-- a place already queued is skipped, even with another colour
unfoldable pub with_position : List ForcedPosition → ForcedPosition → List ForcedPosition
with_position l e = pick (is_queued e.coordinates l) l (l ++ (e ∷ []))

unfoldable pub with_positions : List ForcedPosition → List ForcedPosition → List ForcedPosition
with_positions l more = fold with_position l more

unfoldable pub all_on_wall : List ForcedPosition → Bool
all_on_wall [] = true
all_on_wall (e ∷ l) = on_wall e.coordinates && all_on_wall l

abbrev pub queue_checks : ForcedPipeline → Checks
queue_checks q =
    SHAPE unless leb q.len queue_room
    then PLACE unless all_on_wall (queued q)

-- what an adding checks on entry, before it knows how many places are new
abbrev pub entry_checks : ForcedPipeline → ForcedPositions → Checks
entry_checks q p =
    SHAPE unless leb q.len queue_room
    then SHAPE unless leb p.len added_room
    then PLACE unless all_on_wall (queued q)
    then PLACE unless all_on_wall (offered p)

-- then ROOM, for a queue of these entries
abbrev pub room_checks : List ForcedPosition → Checks
room_checks l = ROOM unless leb (length l) queue_room

abbrev pub add_checks : ForcedPipeline → ForcedPositions → Checks
add_checks q p = entry_checks q p then room_checks (with_positions (queued q) (offered p))

unfoldable pub grown_by : ForcedPipeline → ForcedPositions → Grown
grown_by q p =
    let n : ℕ = refusal (add_checks q p) in
    record { answer = answered n tt; queue = unless_refused n (queue_of (with_positions (queued q) (offered p))) q }

-- Taking from an empty queue says "nothing"
unfoldable pub taken_from : ForcedPipeline → Taken
taken_from q =
    let n : ℕ = refusal (queue_checks q) in
    record { next = answered n (next_of (queued q)); queue = unless_refused n (queue_of (drop 1 (queued q))) q }

unfoldable pub queue_empty : ForcedPipeline → Answer Bool
queue_empty q = answered (refusal (queue_checks q)) (eqb q.len 0)

unfoldable pub queue_length : ForcedPipeline → Answer ℕ
queue_length q = answered (refusal (queue_checks q)) q.len

-- ---- the dead end: the first cell, row by row, that is bare, has weight above 1 and lists no colour

unfoldable pub dead_at : Shape → List ℕ → List ℕ → List ℕ → ℕ → ℕ → Bool
dead_at g tiles pieces weights count k =
    not (laid_on pieces k) && ltb 1 (get_or weights k 0) && eqb (length (listed_at g tiles pieces count k)) 0

abbrev pub scan_lengths : List ℕ → List ℕ → ℕ → ℕ → List ℕ → Checks
scan_lengths pieces weights rows cols tiles =
    SHAPE unless board_sides rows cols
    then LENGTH unless has_length pieces (rows * cols)
    then LENGTH unless has_length weights (rows * cols)
    then LENGTH unless whole_tiles tiles

abbrev pub scan_checks : List ℕ → List ℕ → ℕ → ℕ → List ℕ → ℕ → Checks
scan_checks pieces weights rows cols tiles count =
    scan_lengths pieces weights rows cols tiles then contents_checks tiles count pieces then CELL unless none_above weights max_weight

unfoldable pub dead_end : Kind → List ℕ → List ℕ → ℕ → ℕ → List ℕ → ℕ → Answer (Option Cell)
dead_end kind pieces weights rows cols tiles count =
    let k : ℕ = first (rows * cols) (dead_at (kind rows cols) tiles pieces weights count) in
    answered
    (refusal (scan_checks pieces weights rows cols tiles count))
    (if_there (ltb k (rows * cols)) (cell_with cols k))
