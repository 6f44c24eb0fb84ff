-- Document 01, "Listing program": what stands under the steps' answers, byte by byte: the planes under their headings and the scan.
use Rattle.std.specs.Prelude.{Option, Some, None, Ok, Err, ℕ, List, [], ◌∷◌, ◌++◌, pos}
use Rattle.rules.specs.Bounds.{bare}
use Rattle.rules.specs.Forced.{dead_end}
use Rattle.rules.specs.Board.{Panel, Board}
use Rattle.rules.specs.Promises.{panel}
use Rattle.rules.specs.declared.Cell.{Cell}
use Rattle.rules.specs.declared.Offset.{Offset}
use Rattle.listing_job.specs.declared.Setup.{Setup}
use Rattle.listing_lines.specs.Lines.{decimal, number_line, plane_text}
use Rattle.rules.specs.Answers.{Answer, number}

-- `refused N`
abbrev pub refused_word : List ℕ
refused_word = 114 ∷ 101 ∷ 102 ∷ 117 ∷ 115 ∷ 101 ∷ 100 ∷ 32 ∷ []

unfoldable pub refused_line : ℕ → List ℕ
refused_line n = refused_word ++ number_line n

-- the headings `pieces`, `weights`, `fits`
abbrev pub pieces_line : List ℕ
pieces_line = 112 ∷ 105 ∷ 101 ∷ 99 ∷ 101 ∷ 115 ∷ 10 ∷ []

abbrev pub weights_line : List ℕ
weights_line = 119 ∷ 101 ∷ 105 ∷ 103 ∷ 104 ∷ 116 ∷ 115 ∷ 10 ∷ []

abbrev pub fits_line : List ℕ
fits_line = 102 ∷ 105 ∷ 116 ∷ 115 ∷ 10 ∷ []

-- `dead end `, and `none`
abbrev pub dead_end_start : List ℕ
dead_end_start = 100 ∷ 101 ∷ 97 ∷ 100 ∷ 32 ∷ 101 ∷ 110 ∷ 100 ∷ 32 ∷ []

abbrev pub none_line : List ℕ
none_line = 110 ∷ 111 ∷ 110 ∷ 101 ∷ 10 ∷ []

-- each plane under its heading, colours with 0 for bare
abbrev pub headed : List ℕ → ℕ → List ℕ → ℕ → List ℕ
headed heading least plane cols = heading ++ plane_text least plane cols

unfoldable pub planes_text : Board → ℕ → List ℕ
planes_text b cols =
    (headed pieces_line bare b.pieces cols ++ headed weights_line 0 b.weights cols) ++ headed fits_line 0 b.counts cols

unfoldable pub dead_end_text : Cell → List ℕ
dead_end_text cell = ((dead_end_start ++ decimal cell.0) ++ 32 ∷ []) ++ number_line cell.1

-- the scan; it is never refused here
unfoldable pub scan_text : Answer (Option Cell) → List ℕ
scan_text (Ok (Some cell)) = dead_end_text cell
scan_text (Ok None) = dead_end_start ++ none_line
scan_text (Err refusal) = refused_line (number refusal)

-- Offset 0: a row and a column are the wall coordinate and the cell index alike
abbrev pub origin : Offset
origin = record { 0 = pos 0; 1 = pos 0 }

-- what stays fixed while a job's steps run
unfoldable pub panel_with : Setup → List ℕ → Panel
panel_with s tiles = panel s.board.rows s.board.cols tiles origin

unfoldable pub end_text : Panel → ℕ → Board → List ℕ
end_text j count b =
    planes_text b j.cols ++ scan_text (dead_end j.kind b.pieces b.weights j.rows j.cols j.tiles count)
