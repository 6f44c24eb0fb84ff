-- Two results that meet the contract of a function for tests coincide: the number, and what the lent memory holds. One theorem a function.
-- Assumes nothing.
use Prim.Native.Nat.{ℕ}
use mathlib.Core.List.{List}
use lib.IntN.{ℤ}
use lib.Ieee.{Float}
use Rattle.rules.specs.Board.{Board}
use Rattle.rules.specs.Grid.{cell_at, flat}
use Rattle.rules.specs.Fit.{region_count}
use Rattle.rules.specs.Forced.{dead_end}
use Rattle.rules.specs.Places.{region_spans}
use Rattle.rules.specs.Scores.{fraction_at}
use Rattle.rules.specs.Sets.{empty_set, full_set, inserted, contained, intersected, emptiness, members_counted}
use Rattle.rules.specs.Promises.{Freshens, Raises, Lowers}
use Rattle.boundary_slots.specs.Slots.{world, offset_by, set_from}
use Rattle.boundary.specs.Boundary.{value_stored, truth_stored, set_stored, dead_end_stored, spans_stored, Numbered, Tells}
use Rattle.harness.specs.Harness.{PortLists, PortRecounts}
use Rattle.boundary.proofs.Back.{Decides, gives-decides, numbered-decides}

pub port-listing-coincide : (pieces : List ℕ) (rows cols : ℕ) (tiles : List ℕ) (count : ℕ) (row col down across : ℤ) (out : List ℕ)
    → Decides (PortLists pieces rows cols tiles count row col down across out)
port-listing-coincide pieces rows cols tiles count row col down across out = gives-decides _ _

pub port-scan-coincide : (pieces weights : List ℕ) (rows cols : ℕ) (tiles : List ℕ) (count : ℕ) (out : List ℕ)
    → Decides (Tells dead_end_stored (dead_end flat pieces weights rows cols tiles count) out)
port-scan-coincide pieces weights rows cols tiles count out = gives-decides _ _

pub port-fresh-coincide : (rows cols tiles : ℕ) (old : Board) → Decides (Numbered (Freshens rows cols tiles old))
port-fresh-coincide rows cols tiles old = numbered-decides _ (gives-decides _ _)

pub port-get-region-spans-coincide : (down across row col : ℤ) (radius : ℕ) (out : List ℕ)
    → Decides (Tells spans_stored (region_spans (offset_by down across) (world row col) radius) out)
port-get-region-spans-coincide down across row col radius out = gives-decides _ _

pub port-set-new-coincide : (size : ℕ) (out : List ℕ) → Decides (Tells set_stored (empty_set size) out)
port-set-new-coincide size out = gives-decides _ _

pub port-set-all-coincide : (size : ℕ) (out : List ℕ) → Decides (Tells set_stored (full_set size) out)
port-set-all-coincide size out = gives-decides _ _

pub port-set-insert-coincide : (bits size colour : ℕ) (out : List ℕ) → Decides (Tells set_stored (inserted (set_from bits size) colour) out)
port-set-insert-coincide bits size colour out = gives-decides _ _

pub port-set-contains-coincide : (bits size colour : ℕ) (out : List ℕ) → Decides (Tells truth_stored (contained (set_from bits size) colour) out)
port-set-contains-coincide bits size colour out = gives-decides _ _

pub port-set-intersection-coincide : (bits size others most : ℕ) (out : List ℕ)
    → Decides (Tells set_stored (intersected (set_from bits size) (set_from others most)) out)
port-set-intersection-coincide bits size others most out = gives-decides _ _

pub port-set-is-empty-coincide : (bits size : ℕ) (out : List ℕ) → Decides (Tells truth_stored (emptiness (set_from bits size)) out)
port-set-is-empty-coincide bits size out = gives-decides _ _

pub port-set-count-coincide : (bits size : ℕ) (out : List ℕ) → Decides (Tells value_stored (members_counted (set_from bits size)) out)
port-set-count-coincide bits size out = gives-decides _ _

pub port-region-count-coincide : (pieces : List ℕ) (rows cols : ℕ) (tiles : List ℕ) (count row col : ℕ) (out : List ℕ)
    → Decides (Tells value_stored (region_count flat pieces rows cols tiles count (cell_at row col)) out)
port-region-count-coincide pieces rows cols tiles count row col out = gives-decides _ _

pub port-fraction-coincide : (counts : List ℕ) (rows cols tiles row col : ℕ) (out : List Float)
    → Decides (Tells value_stored (fraction_at counts rows cols tiles (cell_at row col)) out)
port-fraction-coincide counts rows cols tiles row col out = gives-decides _ _

pub port-raise-weights-coincide : (weights : List ℕ) (rows cols : ℕ) (row col down across : ℤ)
    → Decides (Numbered (Raises flat rows cols (world row col) (offset_by down across) weights))
port-raise-weights-coincide weights rows cols row col down across = numbered-decides _ (gives-decides _ _)

pub port-lower-weights-coincide : (weights : List ℕ) (rows cols : ℕ) (row col down across : ℤ)
    → Decides (Numbered (Lowers flat rows cols (world row col) (offset_by down across) weights))
port-lower-weights-coincide weights rows cols row col down across = numbered-decides _ (gives-decides _ _)

pub port-recount-coincide : (counts pieces : List ℕ) (rows cols : ℕ) (tiles : List ℕ) (count : ℕ) (row col down across : ℤ)
    → Decides (PortRecounts rows cols tiles count row col down across pieces counts)
port-recount-coincide counts pieces rows cols tiles count row col down across = numbered-decides _ (gives-decides _ _)
