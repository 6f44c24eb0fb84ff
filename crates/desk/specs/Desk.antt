-- The promises of the desk's functions: the board's calls and the plain scores, with a place, an offset and a span as two numbers each and
-- an answer as its number.
use Rattle.std.specs.Prelude.{ℕ, List, Option, ℤ, Float}
use Rattle.base.specs.Refusal.{Gives}
use Rattle.rules.specs.Grid.{flat}
use Rattle.rules.specs.Fit.{listing}
use Rattle.rules.specs.Board.{Board}
use Rattle.rules.specs.Widening.{widening, after_widen}
use Rattle.rules.specs.ForcedRun.{running, after_run}
use Rattle.rules.specs.Promises.{panel, Lays, Lifts, ScoresPlain, ScoresWhole}
use Rattle.rules.specs.declared.Pads.{Pads}
use Rattle.boundary_slots.specs.Slots.{put, world, offset_by, span_from, offset_stored}
use Rattle.boundary.specs.Boundary.{run_stored, told_left, Numbered, Tells}
use Rattle.rules.specs.Answers.{Answer, number_of}
use Rattle.rules.specs.declared.BoundingBox.{BoundingBox}
use Rattle.rules.specs.declared.TileBitset.{TileBitset}

-- what is stored of a listing in the entries lent for it: the set of colours in the first, colour t as bit t-1
abbrev pub colours_stored : TileBitset → List ℕ → List ℕ
colours_stored s found = put found 0 s.bits

abbrev pub DeskLists : List ℕ → ℕ → ℕ → List ℕ → ℕ → ℤ → ℤ → ℤ → ℤ → List ℕ → ℕ → List ℕ → Type 0
DeskLists pieces rows cols tiles count row col down across found =
    Tells colours_stored (listing flat pieces rows cols tiles count (world row col) (offset_by down across)) found

abbrev pub DeskLays : ℕ → ℕ → List ℕ → ℕ → ℤ → ℤ → ℤ → ℤ → ℕ → Board → ℕ → Board → Type 0
DeskLays rows cols tiles count row col down across colour old =
    Numbered (Lays (panel rows cols tiles (offset_by down across)) count (world row col) colour old)

abbrev pub DeskLifts : ℕ → ℕ → List ℕ → ℕ → ℤ → ℤ → ℤ → ℤ → Board → ℕ → Board → Type 0
DeskLifts rows cols tiles count row col down across old =
    Numbered (Lifts (panel rows cols tiles (offset_by down across)) count (world row col) old)

-- what is lent to a call that writes the planes of a board and tells values too: the planes, and the entries for the values
pub record Beside (A : Type 0) : Type 0 where
  pub planes : Board
  pub told : List A

abbrev pub beside : {A : Type 0} → Board → List A → Beside A
beside planes told = record { planes = planes; told = told }

-- such a call, by its answer, by what it leaves of the planes and by what is stored of its values
abbrev pub TellsBeside : {A B : Type 0} → (A → List B → List B) → Answer A → Board → List B → ℕ → Beside B → Type 0
TellsBeside stored answer planes out = Gives (number_of answer) (beside planes (told_left stored answer out))

abbrev pub DeskRuns : ℕ → ℕ → List ℕ → ℕ → ℤ → ℤ → ℤ → ℤ → Option BoundingBox → ℕ → Board → List ℕ → ℕ → Beside ℕ → Type 0
DeskRuns rows cols tiles count row col down across bounds budget old out =
    let j = panel rows cols tiles (offset_by down across) in
    TellsBeside run_stored (running j count old (world row col) bounds budget) (after_run j count old (world row col) bounds budget) out

abbrev pub DeskWidens : ℕ → ℕ → Pads → List ℕ → ℕ → ℤ → ℤ → Board → Board → List ℤ → ℕ → Beside ℤ → Type 0
DeskWidens rows cols p tiles count down across old lent out =
    let j = panel rows cols tiles (offset_by down across) in
    TellsBeside offset_stored (widening j count old p lent) (after_widen j count old p lent) out

-- the plain score of the whole board, and of the cells of two spans
abbrev pub DeskScores : ℕ → ℕ → List ℕ → ℕ → List Float → ℕ → List Float → Type 0
DeskScores rows cols counts tiles old = Numbered (ScoresWhole rows cols counts tiles old)

abbrev pub DeskScoresNear : ℕ → ℕ → List ℕ → ℕ → ℕ → ℕ → ℕ → ℕ → List Float → ℕ → List Float → Type 0
DeskScoresNear rows cols counts tiles rowstart rowend colstart colend old =
    Numbered (ScoresPlain rows cols counts tiles (span_from rowstart rowend) (span_from colstart colend) old)
