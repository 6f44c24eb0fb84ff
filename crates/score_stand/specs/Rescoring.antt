-- Demand 3 for plain scores (document 02, request 4): "A whole-board scoring by it depends only on the counts, so demand 3 now covers that
-- plane where it has been rescored after the last call."
use Rattle.std.specs.Prelude.{List, Float}
use Rattle.rules.specs.Tests.{tiles_in}
use Rattle.rules.specs.Scores.{whole_scores}
use Rattle.rules.specs.Probabilities.{Region, region_of}
use Rattle.rules.specs.Board.{Panel}
use Rattle.rules.specs.Promises.{ScoresPlain, ScoresWhole}
use Rattle.rules.specs.declared.World.{World}
use Rattle.stand.specs.Runs.{State}
use Rattle.rules.specs.Answers.{Answer}

-- the board of a state is scored whole, as the contract of the call says it
abbrev pub Rescores : State → List Float → Answer Unit → List Float → Type 0
Rescores s old = ScoresWhole s.panel.rows s.panel.cols s.board.counts (tiles_in s.panel.tiles) old

-- the plain scores of the board of a state
abbrev pub scores_in : State → List Float
scores_in s = whole_scores s.panel.rows s.panel.cols s.board.counts (tiles_in s.panel.tiles)

-- the cells at most two away from a place, as the spans of their rows and columns on the board; and these are scored
abbrev pub round_of : Panel → World → Region
round_of j place = region_of j.rows j.cols place j.offset 2

abbrev pub RescoresRound : State → World → List Float → Answer Unit → List Float → Type 0
RescoresRound s place old =
    let round : Region = round_of s.panel place in
    ScoresPlain s.panel.rows s.panel.cols s.board.counts (tiles_in s.panel.tiles) round.rows round.cols old
