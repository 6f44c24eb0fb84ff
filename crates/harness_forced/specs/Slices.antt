-- Queues and forced positions as slices: entry i has its row and column at 2i and 2i + 1 of the coordinates and its colour at i of the
-- colours; the length is a slice of its own. An element that a slice does not have counts as 0, and nothing is stored past an end. The
-- promises of functions that change such slices take them as they are lent, for what they hold before and after.
use Rattle.std.specs.Prelude.{Option, Some, None, ℕ, zero, suc, ◌+◌, ◌*◌, List, get_or, ℤ, pos}
use Rattle.base.specs.Tables.{tab}
use Rattle.rules.specs.Bounds.{queue_room, added_room}
use Rattle.rules.specs.Forced.{no_position, forced_neighbours, grown_by, taken_from}
use Rattle.rules.specs.Grid.{flat}
use Rattle.rules.specs.Promises.{Lent, before, after}
use Rattle.rules.specs.declared.World.{World}
use Rattle.rules.specs.declared.Offset.{Offset}
use Rattle.rules.specs.declared.ForcedPosition.{ForcedPosition}
use Rattle.rules.specs.declared.ForcedPositions.{ForcedPositions}
use Rattle.rules.specs.declared.ForcedPipeline.{ForcedPipeline}
use Rattle.boundary_slots.specs.Slots.{put, world}
use Rattle.boundary.specs.Boundary.{Tells}
use Rattle.rules.specs.Answers.{Answer}
use Rattle.rules.specs.declared.BoundingBox.{BoundingBox}

-- the slices that hold positions
pub record Slices : Type 0 where
  pub coordinates : List ℤ
  pub colours : List ℕ
  pub len : List ℕ

abbrev pub slices : List ℤ → List ℕ → List ℕ → Slices
slices coordinates colours len = record { coordinates = coordinates; colours = colours; len = len }

abbrev pub slices_before : Lent (List ℤ) → Lent (List ℕ) → Lent (List ℕ) → Slices
slices_before coordinates colours len = slices (before coordinates) (before colours) (before len)

abbrev pub slices_after : Lent (List ℤ) → Lent (List ℕ) → Lent (List ℕ) → Slices
slices_after coordinates colours len = slices (after coordinates) (after colours) (after len)

-- ---- what goes in

unfoldable pub entry_at : List ℤ → List ℕ → ℕ → ForcedPosition
entry_at coordinates colours i =
    record { coordinates = world (get_or coordinates (2 * i) (pos 0)) (get_or coordinates (2 * i + 1) (pos 0)); colour = get_or colours i 0 }

unfoldable pub queue_from : List ℤ → List ℕ → ℕ → ForcedPipeline
queue_from coordinates colours len = record { entries = tab queue_room (entry_at coordinates colours); len = len }

-- the queue that the slices hold
abbrev pub queue_in : Slices → ForcedPipeline
queue_in s = queue_from s.coordinates s.colours (get_or s.len 0 0)

unfoldable pub positions_from : List ℤ → List ℕ → ℕ → ForcedPositions
positions_from coordinates colours len = record { entries = tab added_room (entry_at coordinates colours); len = len }

-- ---- what comes back

-- the place of an entry stored as entry i
abbrev pub place_stored : ForcedPosition → ℕ → List ℤ → List ℤ
place_stored e i out = put (put out (2 * i) e.coordinates.0) (2 * i + 1) e.coordinates.1

-- the first n of the entries stored, one after the other
unfoldable pub places_stored : ℕ → List ForcedPosition → List ℤ → List ℤ
places_stored zero es out = out
places_stored (suc n) es out = place_stored (get_or es n no_position) n (places_stored n es out)

unfoldable pub colours_stored : ℕ → List ForcedPosition → List ℕ → List ℕ
colours_stored zero es out = out
colours_stored (suc n) es out = put (colours_stored n es out) n (get_or es n no_position).colour

-- room entries and the length
unfoldable pub stored : ℕ → List ForcedPosition → ℕ → Slices → Slices
stored room es n s =
    slices (places_stored room es s.coordinates) (colours_stored room es s.colours) (put s.len 0 n)

abbrev pub queue_stored : ForcedPipeline → Slices → Slices
queue_stored q s = stored queue_room q.entries q.len s

abbrev pub positions_stored : ForcedPositions → Slices → Slices
positions_stored p s = stored added_room p.entries p.len s

-- adding: the queue as it is then; a refused call stores nothing
abbrev pub grown_stored : ForcedPipeline → Unit {0} → Slices → Slices
grown_stored q u s = queue_stored q s

abbrev pub PortAdds : ForcedPositions → Lent (List ℤ) → Lent (List ℕ) → Lent (List ℕ) → ℕ → Type 0
PortAdds added coordinates colours len r =
    let held = slices_before coordinates colours len in
    let g = grown_by (queue_in held) added in
    Tells (grown_stored g.queue) g.answer held r (slices_after coordinates colours len)

-- taking: the queue as it is then, the place and the colour that were taken, and 1; or 0 where nothing waits
pub record Taking : Type 0 where
  pub queue : Slices
  pub taken : List ℤ
  pub colour : List ℕ
  pub found : List ℕ

abbrev pub taking : Slices → List ℤ → List ℕ → List ℕ → Taking
taking queue taken colour found = record { queue = queue; taken = taken; colour = colour; found = found }

abbrev pub next_stored : ForcedPipeline → Option ForcedPosition → Taking → Taking
next_stored q (Some e) t =
    taking
    (queue_stored q t.queue)
    (place_stored e 0 t.taken)
    (put t.colour 0 e.colour)
    (put t.found 0 1)
next_stored q None t = taking (queue_stored q t.queue) t.taken t.colour (put t.found 0 0)

abbrev pub TellsNext : Answer (Option ForcedPosition) → ForcedPipeline → Lent (List ℤ) → Lent (List ℕ) → Lent (List ℕ) → Lent (List ℤ) → Lent (List ℕ) → Lent (List ℕ) → ℕ → Type 0
TellsNext next queue coordinates colours len taken colour found r =
    Tells (next_stored queue) next (taking (slices_before coordinates colours len) (before taken) (before colour) (before found))
    r (taking (slices_after coordinates colours len) (after taken) (after colour) (after found))

abbrev pub PortTakes : Lent (List ℤ) → Lent (List ℕ) → Lent (List ℕ) → Lent (List ℤ) → Lent (List ℕ) → Lent (List ℕ) → ℕ → Type 0
PortTakes coordinates colours len =
    let k = taken_from (queue_in (slices_before coordinates colours len)) in
    TellsNext k.next k.queue coordinates colours len

-- forced neighbours: the positions that were found; a refused call stores nothing
abbrev pub PortForces : List ℕ → ℕ → ℕ → List ℕ → ℕ → World → Offset → Option BoundingBox → Lent (List ℤ) → Lent (List ℕ) → Lent (List ℕ) → ℕ → Type 0
PortForces pieces rows cols tiles count place offset bounds coordinates colours len r =
    Tells positions_stored (forced_neighbours flat pieces rows cols tiles count place offset bounds)
    (slices_before coordinates colours len) r (slices_after coordinates colours len)
