-- Document 01's bench cases marked P, and cases of document 02: one statement on one table, shown by evaluating the definitions. An answer is
-- written as a list of numbers: first the refusal's number, 0 where the call is accepted, then its values; a float is written by its bits.
-- Assumes nothing.
use Prim.Native.Nat.{ℕ}
use mathlib.Core.Path.{◌≡◌, refl}
use mathlib.Core.Bool.{Bool, true, false, ◌&&◌}
use lib.Dec.{eqb}
use mathlib.Core.List.{List, [], ◌∷◌, map}
use lib.ListN.{get_or, replicate}
use lib.IntN.{pos, negsuc, ◌+ℤ◌}
use lib.Ieee.{Float, binary64, of_bits, to_bits, of_int, lt, le, add, mul, div}
use Rattle.base.specs.Counting.{every, some, sum, tally, first, within}
use Rattle.base.specs.Tables.{tab, those, fold}
use Rattle.base.specs.Refusal.{refusal}
use Rattle.base.specs.Whole.{clip, within_z}
use Rattle.rules.specs.Tests.{board_sides, sample_sides, has_length, tile_number_fits, whole_tiles, colour_count, none_above, pieces_stored, on_wall, offset_fits, on_board}
use Rattle.rules.specs.Places.{cell_of, same_place, in_box, span_of, first_of, last_of, pad_before, pad_after, boxed_before, boxed_after, pads_of, boxed_pads, extension_by, extension_of, boxed_extension, copied_cell, copied}
use Rattle.rules.specs.Sets.{has, bits_of, colours_of, members_of}
use Rattle.rules.specs.Tiles.{sample_cell, window_tile, rotated, reflected, turned, form, variant, same_tile, has_tile, with_tile, distinct, extracted, extraction, store_after, store_with}
use Rattle.rules.specs.Grid.{entry_or_past, flat}
use Rattle.rules.specs.Fit.{agrees, fits_tile, fit_count, has_fitting, allows, left_after, listing}
use Rattle.rules.specs.Forced.{neighbour, admits, bounds_fit, forces_one, is_forced, forced_there, forced_round, padded, positions_of, forced_neighbours, is_queued, with_position, with_positions, dead_at, dead_end}
use Rattle.rules.specs.Floats.{all_are}
use Rattle.rules.specs.Scores.{fraction, box_cells, mean_of, scored, plain_scores, whole_scores, lift_score_checks, whole_score_checks}
use Rattle.rules.specs.Probabilities.{largest_of, total_of, normalised}
use Rattle.rules.specs.Board.{Panel, Board, weights_of, counts_of, raised, lowered, recounted, laid, lifted, fresh_board, after_lay, after_lift}
use Rattle.rules.specs.ForcedRun.{still_forced, queueing, taking, stepped, begun, run_out, run_checks, running, after_run}
use Rattle.rules.specs.Widening.{widened_pieces, widened_weights, widened, widening, after_widen}
use Rattle.rules.specs.Promises.{board, panel}
use Rattle.std.specs.Prelude.{Option, Some, None, Ok, Err}
use Rattle.rules.specs.Answers.{Answer, number}
use Rattle.rules.specs.declared.Cell.{Cell}
use Rattle.rules.specs.declared.TileBitset.{TileBitset}
use Rattle.rules.specs.declared.ExtensionInfo.{ExtensionInfo}
use Rattle.rules.specs.declared.RanOut.{RanOut}
use Rattle.rules.specs.declared.RunEnd.{RunEnd}
use Rattle.rules.specs.declared.RunEnd.TheVariants as RunEnd·
use Rattle.rules.specs.declared.ForcedPositions.{ForcedPositions}
use Rattle.rules.specs.declared.World.{World}
use Rattle.rules.specs.declared.Offset.{Offset}
use Rattle.rules.specs.declared.Span.{Span}
use Rattle.rules.specs.declared.BoundingBox.{BoundingBox}
use Rattle.rules.specs.declared.Pads.{Pads}
use Rattle.rules.specs.declared.ForcedPosition.{ForcedPosition}

-- ---- answers as lists of numbers

abbrev told : {A : Type 0} → (A → List ℕ) → Answer A → List ℕ
told values (Ok a) = 0 ∷ values a
told values (Err r) = number r ∷ []

abbrev listed : Answer TileBitset → List ℕ
listed = told members_of

abbrev tiles-of : Answer ℕ → List ℕ
tiles-of = told (λ n. n ∷ [])

abbrev cell-in : Option Cell → List ℕ
cell-in (Some k) = k.0 ∷ k.1 ∷ []
cell-in None = []

abbrev dead : Answer (Option Cell) → List ℕ
dead = told cell-in

-- left, right, top, bottom and the new offset, which is not negative in these cases
abbrev padded-by : Answer ExtensionInfo → List ℕ
padded-by = told (λ e. e.pads.left ∷ e.pads.right ∷ e.pads.top ∷ e.pads.bottom ∷ clip e.offset.0 ∷ clip e.offset.1 ∷ [])

-- the new offset, with a thousand added, since it is negative in these cases
abbrev offset-of : Answer Offset → List ℕ
offset-of = told (λ o. clip (o.0 +ℤ pos 1000) ∷ clip (o.1 +ℤ pos 1000) ∷ [])

-- how a forced run ended, 0 done, 1 spent, 2 full; how many entries were taken, and how many laid
abbrev end-number : RunEnd → ℕ
end-number RunEnd·.Done = 0
end-number RunEnd·.Spent = 1
end-number RunEnd·.Full = 2

abbrev ended : Answer RanOut → List ℕ
ended = told (λ r. end-number r.end ∷ r.taken ∷ r.laid ∷ [])

-- row, column and colour of each place; the coordinates are not negative in these cases
abbrev spots : List ForcedPosition → List ℕ
spots [] = []
spots (e ∷ l) = clip e.coordinates.0 ∷ clip e.coordinates.1 ∷ e.colour ∷ spots l

abbrev forced : Answer ForcedPositions → List ℕ
forced = told (λ found. spots found.entries)

abbrev bits-of : List Float → List ℕ
bits-of l = map (λ (x : Float). to_bits binary64 x) l

-- ---- what the cases start from

abbrev at : ℕ → ℕ → World
at r c = record { 0 = pos r; 1 = pos c }

abbrev origin : Offset
origin = record { 0 = pos 0; 1 = pos 0 }

abbrev nine : List ℕ
nine = 1 ∷ 2 ∷ 3 ∷ 4 ∷ 5 ∷ 6 ∷ 7 ∷ 8 ∷ 9 ∷ []

-- so many bytes of store
abbrev store : ℕ → List ℕ
store n = replicate n 0

-- "Chequer" is the two tiles of the listing program's sample
abbrev chequer : List ℕ
chequer = extracted (1 ∷ 2 ∷ 1 ∷ 2 ∷ 2 ∷ 1 ∷ 2 ∷ 1 ∷ 1 ∷ 2 ∷ 1 ∷ 2 ∷ []) 3 4 false false

abbrev three : Panel
three = panel 3 3 chequer origin

abbrev fresh : Board
fresh = fresh_board 9 2

abbrev centre : Board
centre = after_lay three 2 fresh (at 1 1) 1

abbrev corner : Board
corner = after_lay three 2 fresh (at 0 0) 1

abbrev pair : Board
pair = after_lay three 2 corner (at 0 1) 1

abbrev listing-on : Board → World → Answer TileBitset
listing-on b w = listing flat b.pieces 3 3 chequer 2 w origin

abbrev box : BoundingBox
box = record { min = record { 0 = negsuc 0; 1 = pos 0 }; max = at 9 9 }

abbrev pads : ℕ → ℕ → ℕ → ℕ → Pads
pads left right top bottom = record { left = left; right = right; top = top; bottom = bottom }

-- a 1x1 panel with a piece, and the tile 112/111/111: the works' accident
abbrev single : Panel
single = panel 1 1 (1 ∷ 1 ∷ 2 ∷ 1 ∷ 1 ∷ 1 ∷ 1 ∷ 1 ∷ 1 ∷ []) origin

abbrev placed : Board
placed = after_lay single 2 (fresh_board 1 1) (at 0 0) 1

-- forced runs from the centre of the chequer board, and on a row of three bare cells
abbrev ran : Board → ℕ → Answer RanOut
ran b budget = running three 2 b (at 1 1) None budget

abbrev row : List ℕ → Panel
row tiles = panel 1 3 tiles origin

abbrev plain : Panel
plain = row (replicate 9 1)

-- 112/121/121 and 121/211/211: each cell lists 1, and with 1 at the third cell the second lists nothing
abbrev closing : Panel
closing = row (1 ∷ 1 ∷ 2 ∷ 1 ∷ 2 ∷ 1 ∷ 1 ∷ 2 ∷ 1 ∷ 1 ∷ 2 ∷ 1 ∷ 2 ∷ 1 ∷ 1 ∷ 2 ∷ 1 ∷ 1 ∷ [])

-- the second cell alone
abbrev second : Option BoundingBox
second = Some (record { min = at 0 1; max = at 0 1 })

-- a panel of two rows and one column, its weights by no rule
abbrev narrow : Panel
narrow = panel 2 1 chequer (record { 0 = pos 5; 1 = negsuc 2 })

abbrev uneven : Board
uneven = board (2 ∷ 1 ∷ []) (7 ∷ 0 ∷ []) (2 ∷ 2 ∷ [])

abbrev heavy : Board
heavy = board (2 ∷ 1 ∷ []) (4000000001 ∷ 0 ∷ []) (2 ∷ 2 ∷ [])

-- so many lent entries a plane
abbrev room : ℕ → Board
room n = board (replicate n 0) (replicate n 0) (replicate n 0)

abbrev grown : Board
grown = after_widen narrow 2 uneven (pads 1 0 2 1) (room 12)

abbrev two64 : ℕ
two64 = 0x4000_0000_0000_0000

abbrev half64 : ℕ
half64 = 0x3fe0_0000_0000_0000

abbrev quarter64 : ℕ
quarter64 = 0x3fd0_0000_0000_0000

abbrev floats : List ℕ → List Float
floats l = map (λ (n : ℕ). of_bits binary64 n) l

-- counts of a board of three rows and four columns, and old scores for it: 7.0 each, and one that is no number among them
abbrev mixed : List ℕ
mixed = 5 ∷ 0 ∷ 4 ∷ 2 ∷ 1 ∷ 6 ∷ 3 ∷ 0 ∷ 3 ∷ 4 ∷ 1 ∷ 5 ∷ []

abbrev seven64 : ℕ
seven64 = 0x401c_0000_0000_0000

abbrev sevens : List Float
sevens = floats (replicate 12 seven64)

abbrev with-nan : List Float
with-nan = floats (0x7ff8_0000_0000_0000 ∷ replicate 11 seven64)

abbrev span : ℕ → ℕ → Span
span from to = record { 0 = from; 1 = to }

-- ---- the table

pub record Case : Type 0 where
  pub got : List ℕ
  pub due : List ℕ

abbrev case : List ℕ → List ℕ → Case
case got due = record { got = got; due = due }

pub table : List Case
table =
    -- 123/456/789 turns to 741/852/963, mirrors to 321/654/987
    case (rotated nine) (7 ∷ 4 ∷ 1 ∷ 8 ∷ 5 ∷ 2 ∷ 9 ∷ 6 ∷ 3 ∷ [])
    ∷ case (reflected nine) (3 ∷ 2 ∷ 1 ∷ 6 ∷ 5 ∷ 4 ∷ 9 ∷ 8 ∷ 7 ∷ [])
    -- both options give 8 tiles, rotations alone 4, reflections alone 2
    ∷ case (tiles-of (extraction nine 3 3 9 true true (store 72))) (0 ∷ 8 ∷ [])
    ∷ case (tiles-of (extraction nine 3 3 9 true false (store 72))) (0 ∷ 4 ∷ [])
    ∷ case (tiles-of (extraction nine 3 3 9 false true (store 72))) (0 ∷ 2 ∷ [])
    -- Sample 12/21 gives one tile 120/210/000
    ∷ case (tiles-of (extraction (1 ∷ 2 ∷ 2 ∷ 1 ∷ []) 2 2 2 false false (store 9))) (0 ∷ 1 ∷ [])
    ∷ case (store_after (1 ∷ 2 ∷ 2 ∷ 1 ∷ []) 2 2 2 false false (store 9)) (1 ∷ 2 ∷ 0 ∷ 2 ∷ 1 ∷ 0 ∷ 0 ∷ 0 ∷ 0 ∷ [])
    -- Chequer, fresh 3x3: cell (0,0) lists 1 and 2
    ∷ case (listed (listing-on fresh (at 0 0))) (0 ∷ 1 ∷ 2 ∷ [])
    -- Then 1 laid at (1,1): (0,0) lists 1, (0,1) lists 2; forced neighbours in order are 1,2,1,2,2,1,2,1
    ∷ case (listed (listing-on centre (at 0 0))) (0 ∷ 1 ∷ [])
    ∷ case (listed (listing-on centre (at 0 1))) (0 ∷ 2 ∷ [])
    ∷ case (forced (forced_neighbours flat centre.pieces 3 3 chequer 2 (at 1 1) origin None))
    (0 ∷ 0 ∷ 0 ∷ 1 ∷ 0 ∷ 1 ∷ 2 ∷ 0 ∷ 2 ∷ 1 ∷ 1 ∷ 0 ∷ 2 ∷ 1 ∷ 2 ∷ 2 ∷ 2 ∷ 0 ∷ 1 ∷ 2 ∷ 1 ∷ 2 ∷ 2 ∷ 2 ∷ 1 ∷ [])
    -- Chequer 3x3, 1 at (0,0) and at (0,1): dead end (0,2), whose weight is 5
    ∷ case (dead (dead_end flat pair.pieces pair.weights 3 3 chequer 2)) (0 ∷ 0 ∷ 2 ∷ [])
    ∷ case (get_or pair.weights 2 0 ∷ []) (5 ∷ [])
    -- Lay at (0,0) on 3x3: weights 4 4 2 / 4 4 2 / 2 2 2. Lifted: all 1
    ∷ case corner.weights (4 ∷ 4 ∷ 2 ∷ 4 ∷ 4 ∷ 2 ∷ 2 ∷ 2 ∷ 2 ∷ [])
    ∷ case (after_lift three 2 corner (at 0 0)).weights (1 ∷ 1 ∷ 1 ∷ 1 ∷ 1 ∷ 1 ∷ 1 ∷ 1 ∷ 1 ∷ [])
    -- Grid 5x5, offset 0, place (0,0), radius 2: pads left 2, top 2, offset (2,2). Box (-1,0) to (9,9): left 1, top 0, offset (1,0)
    ∷ case (padded-by (extension_of 5 5 origin (at 0 0) 2)) (0 ∷ 2 ∷ 0 ∷ 2 ∷ 0 ∷ 2 ∷ 2 ∷ [])
    ∷ case (padded-by (boxed_extension 5 5 origin (at 0 0) 2 box)) (0 ∷ 1 ∷ 0 ∷ 0 ∷ 0 ∷ 1 ∷ 0 ∷ [])
    -- Probabilities 2.0, 2.0 give 0.5 each; four zeros give 0.25 each
    ∷ case (bits-of (normalised (floats (two64 ∷ two64 ∷ [])))) (half64 ∷ half64 ∷ [])
    ∷ case (bits-of (normalised (floats (0 ∷ 0 ∷ 0 ∷ 0 ∷ [])))) (quarter64 ∷ quarter64 ∷ quarter64 ∷ quarter64 ∷ [])
    -- Document 02, request 1. The accident: each new cell lies beside the piece, and its weight is 4
    ∷ case (after_widen single 2 placed (pads 1 1 1 1) (room 9)).weights (4 ∷ 4 ∷ 4 ∷ 4 ∷ 4 ∷ 4 ∷ 4 ∷ 4 ∷ 4 ∷ [])
    -- one row before, two columns before and one behind: old weights are kept, new ones and all counts are what the piece says
    ∷ case grown.pieces (1 ∷ 1 ∷ 1 ∷ 1 ∷ 1 ∷ 1 ∷ 2 ∷ 1 ∷ 1 ∷ 1 ∷ 1 ∷ 1 ∷ [])
    ∷ case grown.weights (2 ∷ 4 ∷ 4 ∷ 4 ∷ 2 ∷ 4 ∷ 7 ∷ 4 ∷ 2 ∷ 4 ∷ 0 ∷ 4 ∷ [])
    ∷ case grown.counts (1 ∷ 1 ∷ 2 ∷ 2 ∷ 2 ∷ 2 ∷ 2 ∷ 2 ∷ 2 ∷ 2 ∷ 2 ∷ 2 ∷ [])
    -- the offset (5, -3) becomes (6, -1)
    ∷ case (offset-of (widening narrow 2 uneven (pads 1 0 2 1) (room 12))) (0 ∷ 1006 ∷ 999 ∷ [])
    -- a new side of 65, lent planes one entry short, and an offset moved past its bound
    ∷ case (offset-of (widening narrow 2 uneven (pads 0 63 0 0) (room 65))) (1 ∷ [])
    ∷ case (offset-of (widening narrow 2 uneven (pads 1 0 2 1) (room 11))) (2 ∷ [])
    ∷ case (offset-of (widening (panel 2 1 chequer (record { 0 = pos 1000000; 1 = pos 0 })) 2 uneven (pads 1 0 2 1) (room 12))) (6 ∷ [])
    -- and of several faults the lowest: planes too short, and a weight and an offset out of bounds
    ∷ case (offset-of (widening (panel 2 1 chequer (record { 0 = pos 1000001; 1 = pos 0 })) 2 heavy (pads 1 0 2 1) (room 11))) (2 ∷ [])
    ∷ case (offset-of (widening (panel 2 1 chequer (record { 0 = pos 1000001; 1 = pos 0 })) 2 heavy (pads 1 0 2 1) (room 12))) (4 ∷ [])
    -- Document 02, request 2. Chequer with 1 at the centre: all eight neighbours are forced, and taken row by row
    ∷ case (ended (ran centre 0)) (0 ∷ 1 ∷ 0 ∷ 0 ∷ [])
    ∷ case (ended (ran centre 4)) (0 ∷ 1 ∷ 4 ∷ 4 ∷ [])
    ∷ case (after_run three 2 centre (at 1 1) None 4).pieces (2 ∷ 3 ∷ 2 ∷ 3 ∷ 2 ∷ 1 ∷ 1 ∷ 1 ∷ 1 ∷ [])
    ∷ case (ended (ran centre 7)) (0 ∷ 1 ∷ 7 ∷ 7 ∷ [])
    ∷ case (ended (ran centre 8)) (0 ∷ 0 ∷ 8 ∷ 8 ∷ [])
    -- nothing waits: done, also at budget 0
    ∷ case (ended (ran fresh 0)) (0 ∷ 0 ∷ 0 ∷ 0 ∷ [])
    -- an entry whose cell lists nothing any more is taken and dropped
    ∷ case (ended (running closing 2 (fresh_board 3 2) (at 0 1) None 9)) (0 ∷ 0 ∷ 3 ∷ 2 ∷ [])
    ∷ case (after_run closing 2 (fresh_board 3 2) (at 0 1) None 9).pieces (2 ∷ 1 ∷ 2 ∷ [])
    -- a box keeps later addings inside too
    ∷ case (ended (running plain 1 (fresh_board 3 1) (at 0 0) second 9)) (0 ∷ 0 ∷ 1 ∷ 1 ∷ [])
    ∷ case (after_run plain 1 (fresh_board 3 1) (at 0 0) second 9).pieces (1 ∷ 2 ∷ 1 ∷ [])
    -- the largest budget, one more, and of several faults the lowest
    ∷ case (refusal (run_checks three 2 centre (at 1 1) None 4096) ∷ []) (0 ∷ [])
    ∷ case (ended (ran centre 4097)) (1 ∷ [])
    ∷ case (ended (running three 0 centre (at 3 3) (Some box) 4097)) (1 ∷ [])
    -- Document 02, request 4. Counts 5 0 4 2 / 1 6 3 0 / 3 4 1 5 of 6 tiles: the mean over each cell's box, which has fewer cells in the
    -- first two rows and columns. At (2,2) the bits tell the order of the sum: column by column it is 0.5
    ∷ case (bits-of (whole_scores 3 4 mixed 6))
    (0x3fea_aaaa_aaaa_aaab ∷ 0x3fda_aaaa_aaaa_aaab ∷ half64 ∷ 0x3fd5_5555_5555_5555
    ∷ half64 ∷ half64 ∷ 0x3fe0_e38e_38e3_8e39 ∷ 0x3fda_aaaa_aaaa_aaab
    ∷ half64 ∷ 0x3fe0_e38e_38e3_8e39 ∷ 0x3fe0_0000_0000_0001 ∷ 0x3fdd_a12f_684b_da12 ∷ [])
    -- in rows 1 to 2 and columns 2 to 4 alone; the others stay
    ∷ case (bits-of (plain_scores 3 4 mixed 6 (span 1 2) (span 2 4) sevens))
    (seven64 ∷ seven64 ∷ seven64 ∷ seven64
    ∷ seven64 ∷ seven64 ∷ 0x3fe0_e38e_38e3_8e39 ∷ 0x3fda_aaaa_aaaa_aaab
    ∷ seven64 ∷ seven64 ∷ seven64 ∷ seven64 ∷ [])
    -- an old score that is no number: NUMBER where some stay, and nothing where none does
    ∷ case (refusal (lift_score_checks with-nan mixed 3 4 6 (span 0 3) (span 0 4)) ∷ []) (5 ∷ [])
    ∷ case (refusal (whole_score_checks with-nan mixed 3 4 6) ∷ []) (0 ∷ [])
    -- a count above the number of tiles; a span end past the board, and of several faults the lowest
    ∷ case (refusal (whole_score_checks sevens mixed 3 4 5) ∷ []) (4 ∷ [])
    ∷ case (refusal (lift_score_checks sevens mixed 3 4 6 (span 0 4) (span 0 4)) ∷ []) (1 ∷ [])
    ∷ case (refusal (lift_score_checks with-nan mixed 3 4 0 (span 0 3) (span 0 4)) ∷ []) (2 ∷ [])
    ∷ case (refusal (lift_score_checks with-nan mixed 3 4 5 (span 0 3) (span 0 4)) ∷ []) (4 ∷ [])
    ∷ []

-- a case holds where what is got is what is due
unfoldable pub same : List ℕ → List ℕ → Bool
same [] [] = true
same (x ∷ l) (y ∷ m) = eqb x y && same l m
same [] (y ∷ m) = false
same (x ∷ l) [] = false

unfoldable pub hold : List Case → Bool
hold [] = true
hold (x ∷ xs) = same x.got x.due && hold xs

pub bench : hold table ≡ true
unfolding hold same table every some sum tally first within tab those fold refusal within_z board_sides sample_sides has_length tile_number_fits whole_tiles colour_count none_above pieces_stored on_wall offset_fits on_board cell_of span_of first_of last_of pad_before pad_after boxed_before boxed_after pads_of boxed_pads extension_by extension_of boxed_extension has bits_of colours_of sample_cell window_tile rotated reflected turned form variant same_tile has_tile with_tile distinct extracted extraction store_after store_with entry_or_past flat agrees fits_tile fit_count has_fitting allows left_after listing neighbour admits bounds_fit forces_one is_forced forced_there forced_round padded positions_of forced_neighbours dead_at dead_end all_are fraction box_cells mean_of scored plain_scores whole_scores largest_of total_of normalised weights_of counts_of raised lowered recounted laid lifted fresh_board after_lay after_lift copied_cell copied widened_pieces widened_weights widened after_widen same_place in_box is_queued with_position with_positions still_forced queueing taking stepped begun run_out running after_run lt le add mul div of_bits of_int to_bits
bench = refl
