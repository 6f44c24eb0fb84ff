-- The promises of the calls that write lent memory, one verb a call: its checks, its answer, and what it leaves. `before` and `after` are
-- what a lent plane holds when the call begins and when it ends.
use Rattle.std.specs.Prelude.{Option, ℕ, ◌*◌, Bool, List, Float}
use Rattle.std.specs.Float.{nan}
use Rattle.base.specs.Refusal.{Checks, Gives, Does}
pub use Rattle.base.specs.Lent.{Lent, before, after}
use Rattle.rules.specs.Answers.{Answer, answered}
use Rattle.rules.specs.Floats.{one64}
use Rattle.rules.specs.Grid.{Kind, flat, entry_of}
use Rattle.rules.specs.Places.{cell_of, copied, copy_checks, float_copy_checks}
use Rattle.rules.specs.Tiles.{extraction, store_after}
use Rattle.rules.specs.Scores.{lay_scores, lift_scores, plain_scores, whole_scores, lay_score_checks, lift_score_checks, whole_score_checks}
use Rattle.rules.specs.Probabilities.{Block, probabilities_at, normalised, normalise_checks, multiplied, divided, influence_checks}
use Rattle.rules.specs.Board.{Panel, Board, laying, after_lay, lifting, after_lift, fresh_board, fresh_checks, raised, lowered, weight_checks, recounted, recount_checks}
use Rattle.rules.specs.Widening.{widening, after_widen}
use Rattle.rules.specs.ForcedRun.{running, after_run}
use Rattle.rules.specs.declared.World.{World}
use Rattle.rules.specs.declared.Offset.{Offset}
use Rattle.rules.specs.declared.Span.{Span}
use Rattle.rules.specs.declared.Pads.{Pads}
use Rattle.rules.specs.declared.BoundingBox.{BoundingBox}
use Rattle.rules.specs.declared.RanOut.{RanOut}

-- ---- lent memory

abbrev pub board : List ℕ → List ℕ → List ℕ → Board
board pieces weights counts = record { pieces = pieces; weights = weights; counts = counts }

-- the three planes of a board
abbrev pub board_before : Lent (List ℕ) → Lent (List ℕ) → Lent (List ℕ) → Board
board_before pieces weights counts = board (before pieces) (before weights) (before counts)

abbrev pub board_after : Lent (List ℕ) → Lent (List ℕ) → Lent (List ℕ) → Board
board_after pieces weights counts = board (after pieces) (after weights) (after counts)

-- the panel of a call, whose grid is flat
abbrev pub panel : ℕ → ℕ → List ℕ → Offset → Panel
panel rows cols tiles offset = record { kind = flat; rows = rows; cols = cols; tiles = tiles; offset = offset }

-- ---- calls that answer no more than that they wrote, or a refusal

abbrev pub Writes : {B : Type 0} → Checks → B → B → Answer Unit → B → Type 0
Writes checks new old = Does checks (λ n. answered n tt) new old

-- fresh
abbrev pub Freshens : ℕ → ℕ → ℕ → Board → Answer Unit → Board → Type 0
Freshens rows cols tiles old = Writes (fresh_checks rows cols tiles old) (fresh_board (rows * cols) tiles) old

-- the weights round a place, up and down
abbrev pub Raises : Kind → ℕ → ℕ → World → Offset → List ℕ → Answer Unit → List ℕ → Type 0
Raises kind rows cols place offset old =
    Writes (weight_checks old rows cols place offset) (raised (kind rows cols) (entry_of cols (cell_of place offset)) old) old

abbrev pub Lowers : Kind → ℕ → ℕ → World → Offset → List ℕ → Answer Unit → List ℕ → Type 0
Lowers kind rows cols place offset old =
    Writes (weight_checks old rows cols place offset) (lowered (kind rows cols) (entry_of cols (cell_of place offset)) old) old

-- the counts round a place
abbrev pub Recounts : Panel → ℕ → World → List ℕ → List ℕ → Answer Unit → List ℕ → Type 0
Recounts j count place pieces old =
    Writes (recount_checks old pieces j.rows j.cols j.tiles count place j.offset)
    (recounted (j.kind j.rows j.cols) j.tiles pieces (entry_of j.cols (cell_of place j.offset)) old)
    old

-- the copies of a plane into a larger one: both fill new cells with 1
abbrev pub CopiesWords : ℕ → ℕ → Pads → List ℕ → List ℕ → Answer Unit → List ℕ → Type 0
CopiesWords rows cols p plane old = Writes (copy_checks plane rows cols p old) (copied 0 1 plane rows cols p) old

abbrev pub CopiesFloats : ℕ → ℕ → Pads → List Float → List Float → Answer Unit → List Float → Type 0
CopiesFloats rows cols p plane old = Writes (float_copy_checks plane rows cols p old) (copied nan one64 plane rows cols p) old

-- the two scores, and the plain one: of two spans, and of the whole board
abbrev pub ScoresLay : ℕ → ℕ → List ℕ → ℕ → World → Offset → List Float → Answer Unit → List Float → Type 0
ScoresLay rows cols counts tiles place offset old =
    Writes (lay_score_checks old counts rows cols tiles place offset) (lay_scores rows cols counts tiles place offset old) old

abbrev pub ScoresLift : ℕ → ℕ → List ℕ → ℕ → Span → Span → List Float → Answer Unit → List Float → Type 0
ScoresLift rows cols counts tiles rowspan colspan old =
    Writes (lift_score_checks old counts rows cols tiles rowspan colspan) (lift_scores rows cols counts tiles rowspan colspan old) old

abbrev pub ScoresPlain : ℕ → ℕ → List ℕ → ℕ → Span → Span → List Float → Answer Unit → List Float → Type 0
ScoresPlain rows cols counts tiles rowspan colspan old =
    Writes (lift_score_checks old counts rows cols tiles rowspan colspan) (plain_scores rows cols counts tiles rowspan colspan old) old

abbrev pub ScoresWhole : ℕ → ℕ → List ℕ → ℕ → List Float → Answer Unit → List Float → Type 0
ScoresWhole rows cols counts tiles old = Writes (whole_score_checks old counts rows cols tiles) (whole_scores rows cols counts tiles) old

-- normalised probabilities, the product step and its reverse
abbrev pub Normalises : List Float → ℕ → ℕ → ℕ → World → Offset → List Float → Answer Unit → List Float → Type 0
Normalises plane rows cols count place offset old =
    Writes (normalise_checks plane rows cols count place offset old) (normalised (probabilities_at plane rows cols count place offset)) old

abbrev pub Multiplies : ℕ → ℕ → ℕ → Block → World → Offset → ℕ → List Float → Answer Unit → List Float → Type 0
Multiplies rows cols count b place offset k old = Writes (influence_checks old rows cols count b place offset k) (multiplied rows cols b place offset k old) old

abbrev pub Divides : ℕ → ℕ → ℕ → Block → World → Offset → ℕ → List Float → Answer Unit → List Float → Type 0
Divides rows cols count b place offset k old = Writes (influence_checks old rows cols count b place offset k) (divided rows cols b place offset k old) old

-- ---- calls with answers of their own

-- the tiles of a sample into a store: ROOM leaves the first, as many as fit whole
abbrev pub Extracts : List ℕ → ℕ → ℕ → ℕ → Bool → Bool → List ℕ → Answer ℕ → List ℕ → Type 0
Extracts sample rows cols count rotations reflections old =
    Gives (extraction sample rows cols count rotations reflections old) (store_after sample rows cols count rotations reflections old)

abbrev pub Lays : Panel → ℕ → World → ℕ → Board → Answer Unit → Board → Type 0
Lays j count place colour old = Gives (laying j count old place colour) (after_lay j count old place colour)

abbrev pub Lifts : Panel → ℕ → World → Board → Answer Unit → Board → Type 0
Lifts j count place old = Gives (lifting j count old place) (after_lift j count old place)

-- the board of a panel into three larger planes
abbrev pub Widens : Panel → ℕ → Pads → Board → Board → Answer Offset → Board → Type 0
Widens j count p old lent = Gives (widening j count old p lent) (after_widen j count old p lent)

-- the forced pieces run out from a place
abbrev pub RunsOut : Panel → ℕ → World → Option BoundingBox → ℕ → Board → Answer RanOut → Board → Type 0
RunsOut j count place bounds budget old = Gives (running j count old place bounds budget) (after_run j count old place bounds budget)
