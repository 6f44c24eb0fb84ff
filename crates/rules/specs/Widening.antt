-- Document 02, request 1: a standing panel is widened by four pads, and the board moves into three larger planes. "Given four pads, the
-- board moves into three larger lent planes and the offset follows `calculate_extension`."
use Rattle.std.specs.Prelude.{ℕ, ◌*◌, ◌/◌, ◌%◌, List, get_or}
use Rattle.base.specs.Tables.{tab}
use Rattle.base.specs.Refusal.{Checks, ◌unless◌, ◌then◌, refusal, unless_refused}
use Rattle.rules.specs.Bounds.{bare, SHAPE, LENGTH, PLACE}
use Rattle.rules.specs.Tests.{board_sides, whole_tiles, tiles_in, offset_fits}
use Rattle.rules.specs.Answers.{Answer, answered}
use Rattle.rules.specs.Places.{extension_by, new_rows, new_cols, copied_cell, copied}
use Rattle.rules.specs.Grid.{Kind}
use Rattle.rules.specs.Board.{Panel, Board, shape_of, weights_of, counts_of, plane_lengths, board_contents}
use Rattle.rules.specs.declared.Pads.{Pads}
use Rattle.rules.specs.declared.Offset.{Offset}

-- the panel that the pads make: its sides are those of a copy, its offset is that of an extension
abbrev pub wider : Panel → Pads → Panel
wider j p =
    record {
      kind = j.kind;
      rows = new_rows j.rows p;
      cols = new_cols j.cols p;
      tiles = j.tiles;
      offset = (extension_by j.offset p).offset;
    }

-- Pieces keep their wall coordinates: they go along with their cells, and the new cells are bare
unfoldable pub widened_pieces : ℕ → ℕ → Pads → List ℕ → List ℕ
widened_pieces rows cols p pieces = copied 0 bare pieces rows cols p

-- old cells keep their weights, while those of new cells follow demand 3's formulas from the standing pieces
unfoldable pub widened_weights : Kind → ℕ → ℕ → Pads → List ℕ → List ℕ → List ℕ
widened_weights kind rows cols p pieces weights =
    let wide : ℕ = new_cols cols p in
    let anew : List ℕ = weights_of (kind (new_rows rows p) wide) (widened_pieces rows cols p pieces) in
    tab (new_rows rows p * wide) (λ k. copied_cell 0 (get_or anew k 0) weights rows cols p (k / wide) (k % wide))

-- and all counts
unfoldable pub widened : Panel → Pads → Board → Board
widened j p b =
    let pieces : List ℕ = widened_pieces j.rows j.cols p b.pieces in
    record {
      pieces = pieces;
      weights = widened_weights j.kind j.rows j.cols p b.pieces b.weights;
      counts = counts_of (shape_of (wider j p)) j.tiles pieces;
    }

-- SHAPE if a new side passes 64, LENGTH for the new planes, both before CELL; PLACE if the new offset is out of bounds. Of the new planes
-- only the lengths are read
abbrev pub widen_checks : Panel → ℕ → Board → Pads → Board → Checks
widen_checks j count b p lent =
    SHAPE unless board_sides j.rows j.cols
    then SHAPE unless board_sides (new_rows j.rows p) (new_cols j.cols p)
    then plane_lengths (j.rows * j.cols) b
    then LENGTH unless whole_tiles j.tiles
    then plane_lengths (new_rows j.rows p * new_cols j.cols p) lent
    then board_contents j.tiles count b (tiles_in j.tiles)
    then PLACE unless offset_fits j.offset
    then PLACE unless offset_fits (wider j p).offset

-- what a widening answers: the new offset
abbrev pub widening : Panel → ℕ → Board → Pads → Board → Answer Offset
widening j count b p lent = answered (refusal (widen_checks j count b p lent)) (wider j p).offset

-- what the lent planes hold then; a refused call changes nothing
unfoldable pub after_widen : Panel → ℕ → Board → Pads → Board → Board
after_widen j count b p lent = unless_refused (refusal (widen_checks j count b p lent)) (widened j p b) lent
