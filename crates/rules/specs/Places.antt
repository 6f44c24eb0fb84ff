-- Document 01, "Places": spans, boxes, extension, the copy of a plane into a larger one.
use Rattle.std.specs.Prelude.{ℕ, ◌+◌, ◌-◌, ◌*◌, ◌/◌, ◌%◌, Bool, ◌&&◌, List, leb, ltb, get_or, ℤ, pos, ◌+ℤ◌, ◌-ℤ◌, Float}
use Rattle.std.specs.Int.Signed.{le_z}
use Rattle.base.specs.Counting.{pick}
use Rattle.base.specs.Tables.{tab}
use Rattle.base.specs.Whole.{clip, eq_z}
use Rattle.base.specs.Refusal.{Checks, ◌unless◌, ◌then◌, refusal}
use Rattle.rules.specs.Bounds.{max_radius, SHAPE, LENGTH, NUMBER, PLACE}
use Rattle.rules.specs.Tests.{board_sides, has_length, row_index, col_index, on_wall, offset_fits}
use Rattle.rules.specs.Grid.{cell_at, entry_of}
use Rattle.rules.specs.Answers.{Answer, answered}
use Rattle.rules.specs.Floats.{is_number, all_are}
use Rattle.rules.specs.declared.World.{World}
use Rattle.rules.specs.declared.Cell.{Cell}
use Rattle.rules.specs.declared.Offset.{Offset}
use Rattle.rules.specs.declared.Span.{Span}
use Rattle.rules.specs.declared.BoundingBox.{BoundingBox}
use Rattle.rules.specs.declared.Pads.{Pads}
use Rattle.rules.specs.declared.ExtensionInfo.{ExtensionInfo}
use Rattle.rules.specs.declared.Spans.{Spans}

-- the cell of a wall coordinate; one above or left of the grid has none, and 0 stands for its index
unfoldable pub cell_of : World → Offset → Cell
cell_of place offset = cell_at (clip (row_index place offset)) (clip (col_index place offset))

unfoldable pub same_place : World → World → Bool
same_place place other = eq_z place.0 other.0 && eq_z place.1 other.1

-- A span of radius k round index x runs from max(0, x-k) up to, not including, max(0, x+k+1)
unfoldable pub span_of : ℤ → ℕ → Span
span_of x k = record { 0 = clip (x -ℤ pos k); 1 = clip ((x +ℤ pos k) +ℤ pos 1) }

abbrev pub span_checks : Offset → World → ℕ → Checks
span_checks offset place k =
    SHAPE unless leb k max_radius
    then PLACE unless on_wall place
    then PLACE unless offset_fits offset

unfoldable pub region_spans : Offset → World → ℕ → Answer Spans
region_spans offset place k =
    answered
    (refusal (span_checks offset place k))
    (record { rows = span_of (row_index place offset) k; cols = span_of (col_index place offset) k })

-- A box with min above max contains nothing
unfoldable pub in_box : BoundingBox → World → Bool
in_box b place = le_z b.min.0 place.0 && le_z place.0 b.max.0 && le_z b.min.1 place.1 && le_z place.1 b.max.1

abbrev pub box_fits : BoundingBox → Bool
box_fits b = on_wall b.min && on_wall b.max

abbrev pub box_checks : BoundingBox → World → Checks
box_checks b place = PLACE unless box_fits b then PLACE unless on_wall place

unfoldable pub box_contains : BoundingBox → World → Answer Bool
box_contains b place = answered (refusal (box_checks b place)) (in_box b place)

-- the coordinates of the first and of the last cell of a side
unfoldable pub first_of : ℤ → ℤ
first_of offset = pos 0 -ℤ offset

unfoldable pub last_of : ℕ → ℤ → ℤ
last_of side offset = (first_of offset +ℤ pos side) -ℤ pos 1

-- each pad is how far coordinate-radius or coordinate+radius lies past the present edge, else 0
unfoldable pub pad_before : ℤ → ℤ → ℕ → ℕ
pad_before offset x k = clip (first_of offset -ℤ (x -ℤ pos k))

unfoldable pub pad_after : ℕ → ℤ → ℤ → ℕ → ℕ
pad_after side offset x k = clip ((x +ℤ pos k) -ℤ last_of side offset)

-- with a box, each pad loses the excess past the box, never below 0
unfoldable pub boxed_before : ℤ → ℤ → ℕ → ℕ
boxed_before least offset pad = pad - clip (least -ℤ (first_of offset -ℤ pos pad))

unfoldable pub boxed_after : ℤ → ℕ → ℤ → ℕ → ℕ
boxed_after most side offset pad = pad - clip ((last_of side offset +ℤ pos pad) -ℤ most)

-- left and right belong to the rows, top and bottom to the columns
unfoldable pub pads_of : ℕ → ℕ → Offset → World → ℕ → Pads
pads_of rows cols offset place k =
    record {
      left = pad_before offset.0 place.0 k;
      right = pad_after rows offset.0 place.0 k;
      top = pad_before offset.1 place.1 k;
      bottom = pad_after cols offset.1 place.1 k;
    }

unfoldable pub boxed_pads : BoundingBox → ℕ → ℕ → Offset → Pads → Pads
boxed_pads b rows cols offset p =
    record {
      left = boxed_before b.min.0 offset.0 p.left;
      right = boxed_after b.max.0 rows offset.0 p.right;
      top = boxed_before b.min.1 offset.1 p.top;
      bottom = boxed_after b.max.1 cols offset.1 p.bottom;
    }

-- the new offset adds left and top
unfoldable pub extension_by : Offset → Pads → ExtensionInfo
extension_by offset p =
    record {
      pads = p;
      offset = record { 0 = offset.0 +ℤ pos p.left; 1 = offset.1 +ℤ pos p.top };
      needed = ltb 0 (((p.left + p.right) + p.top) + p.bottom);
    }

abbrev pub extension_checks : ℕ → ℕ → Offset → World → ℕ → Checks
extension_checks rows cols offset place k = SHAPE unless board_sides rows cols then span_checks offset place k

unfoldable pub extension_of : ℕ → ℕ → Offset → World → ℕ → Answer ExtensionInfo
extension_of rows cols offset place k =
    answered (refusal (extension_checks rows cols offset place k)) (extension_by offset (pads_of rows cols offset place k))

abbrev pub boxed_extension_checks : ℕ → ℕ → Offset → World → ℕ → BoundingBox → Checks
boxed_extension_checks rows cols offset place k b = extension_checks rows cols offset place k then PLACE unless box_fits b

unfoldable pub boxed_extension : ℕ → ℕ → Offset → World → ℕ → BoundingBox → Answer ExtensionInfo
boxed_extension rows cols offset place k b =
    answered
    (refusal (boxed_extension_checks rows cols offset place k b))
    (extension_by offset (boxed_pads b rows cols offset (pads_of rows cols offset place k)))

-- the sides that the pads of a copy make
abbrev pub new_rows : ℕ → Pads → ℕ
new_rows rows p = (p.left + rows) + p.right

abbrev pub new_cols : ℕ → Pads → ℕ
new_cols cols p = (p.top + cols) + p.bottom

-- what the cell (r, c) of the larger plane holds: old cell (i, j) stands at (i + left, j + top), a new cell holds the fill; `none` is never read
unfoldable pub copied_cell : {A : Type 0} → A → A → List A → ℕ → ℕ → Pads → ℕ → ℕ → A
copied_cell none fill plane rows cols p r c =
    pick (leb p.left r && ltb (r - p.left) rows && leb p.top c && ltb (c - p.top) cols)
    (get_or plane (entry_of cols (cell_at (r - p.left) (c - p.top))) none)
    fill

unfoldable pub copied : {A : Type 0} → A → A → List A → ℕ → ℕ → Pads → List A
copied none fill plane rows cols p =
    tab (new_rows rows p * new_cols cols p) (λ k. copied_cell none fill plane rows cols p (k / new_cols cols p) (k % new_cols cols p))

-- a copy of numbers takes any, one of floats has NUMBER
abbrev pub copy_checks : {A : Type 0} → List A → ℕ → ℕ → Pads → List A → Checks
copy_checks plane rows cols p target =
    SHAPE unless board_sides rows cols
    then SHAPE unless board_sides (new_rows rows p) (new_cols cols p)
    then LENGTH unless has_length plane (rows * cols)
    then LENGTH unless has_length target (new_rows rows p * new_cols cols p)

abbrev pub float_copy_checks : List Float → ℕ → ℕ → Pads → List Float → Checks
float_copy_checks plane rows cols p target = copy_checks plane rows cols p target then NUMBER unless all_are is_number plane
