-- The steps of a job, one after the other: the number that each prints, and the board that it leaves. They are those of the board's calls.
use Rattle.std.specs.Prelude.{ℕ, List, [], ◌∷◌, ◌++◌, pos}
use Rattle.base.specs.Tables.{fold}
use Rattle.base.specs.Refusal.{refusal, Gives}
use Rattle.rules.specs.Board.{Panel, Board, lay_checks, after_lay, lift_checks, after_lift}
use Rattle.rules.specs.Answers.{Answer, answered}
use Rattle.rules.specs.declared.World.{World}
use Rattle.listing_job.specs.Form.{Step, lay, lift}
use Rattle.listing_job.specs.declared.Setup.{Setup}
use Rattle.listing_lines.specs.Lines.{number_line}
use Rattle.listing_end.specs.Ending.{panel_with}

-- Offset 0: a row and a column are the wall coordinate and the cell index alike
abbrev pub place_at : ℕ → ℕ → World
place_at row col = record { 0 = pos row; 1 = pos col }

unfoldable pub answer_to : Panel → ℕ → Board → Step → ℕ
answer_to j count b (lay row col colour) = refusal (lay_checks j count b (place_at row col) colour)
answer_to j count b (lift row col) = refusal (lift_checks j count b (place_at row col))

unfoldable pub board_past : Panel → ℕ → Board → Step → Board
board_past j count b (lay row col colour) = after_lay j count b (place_at row col) colour
board_past j count b (lift row col) = after_lift j count b (place_at row col)

-- the promise of a call that takes one step of a job with these tiles
abbrev pub Takes : Setup → List ℕ → Step → Board → Answer Unit → Board → Type 0
Takes setup tiles s old =
    Gives (answered (answer_to (panel_with setup tiles) setup.count old s) tt) (board_past (panel_with setup tiles) setup.count old s)

-- one line per step
unfoldable pub answers_text : Panel → ℕ → Board → List Step → List ℕ
answers_text j count b [] = []
answers_text j count b (s ∷ l) = number_line (answer_to j count b s) ++ answers_text j count (board_past j count b s) l

unfoldable pub board_in : Panel → ℕ → Board → List Step → Board
board_in j count b l = fold (board_past j count) b l
