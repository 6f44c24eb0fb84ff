-- Document 02, request 2: running out the forced pieces. "Queue the forced neighbours of a place, take an entry, and if its cell is still
-- bare and still lists only that colour, lay it and queue its forced neighbours; otherwise drop it."
use Rattle.std.specs.Prelude.{Option, ℕ, zero, suc, ◌+◌, Bool, true, false, ◌&&◌, List, [], ◌∷◌, ◌++◌, leb, eqb, length}
use Rattle.base.specs.Counting.{pick}
use Rattle.base.specs.Refusal.{Checks, ◌unless◌, ◌then◌, refusal, unless_refused}
use Rattle.rules.specs.Bounds.{max_budget, SHAPE}
use Rattle.rules.specs.Answers.{Answer, answered, end_by}
use Rattle.rules.specs.Fit.{place_checks}
use Rattle.rules.specs.Forced.{listed_at, only, forces_one, forced_round, with_positions, room_checks, bounds_checks}
use Rattle.rules.specs.Board.{Panel, Board, shape_of, entry_in, laid, board_checks}
use Rattle.rules.specs.declared.World.{World}
use Rattle.rules.specs.declared.ForcedPosition.{ForcedPosition}
use Rattle.rules.specs.declared.BoundingBox.{BoundingBox}
use Rattle.rules.specs.declared.RanOut.{RanOut}

-- a run so far: the board, the entries that wait, how many were taken and which of them were laid, in order, and whether it is full
pub record Run : Type 0 where
  pub board : Board
  pub queue : List ForcedPosition
  pub taken : ℕ
  pub lain : List ForcedPosition
  pub full : Bool

-- the forced neighbours of a place, on a board as it stands
abbrev pub forced_by : Panel → ℕ → Option BoundingBox → Board → World → List ForcedPosition
forced_by j count bounds b place = forced_round j.kind b.pieces j.rows j.cols j.tiles count place j.offset bounds

-- "its cell is still bare and still lists only that colour"
unfoldable pub still_forced : Panel → ℕ → Board → ForcedPosition → Bool
still_forced j count b e =
    let k : ℕ = entry_in j e.coordinates in
    forces_one (shape_of j) j.tiles b.pieces count k && eqb (only (listed_at (shape_of j) j.tiles b.pieces count k)) e.colour

-- the forced neighbours of a place are queued; "full (an adding would meet ROOM; that lay stands)", and the adding does not happen
unfoldable pub queueing : Panel → ℕ → Option BoundingBox → World → Run → Run
queueing j count bounds place s =
    let more : List ForcedPosition = with_positions s.queue (forced_by j count bounds s.board place) in
    unless_refused (refusal (room_checks more))
    (record { board = s.board; queue = more; taken = s.taken; lain = s.lain; full = false })
    (record { board = s.board; queue = s.queue; taken = s.taken; lain = s.lain; full = true })

-- an entry is taken: laid if it is still forced, and its forced neighbours queued; otherwise dropped
unfoldable pub taking : Panel → ℕ → Option BoundingBox → Run → ForcedPosition → List ForcedPosition → Run
taking j count bounds s e rest =
    pick (still_forced j count s.board e)
    (queueing j count bounds e.coordinates
    (record {
      board = laid (shape_of j) j.tiles s.board (entry_in j e.coordinates) e.colour;
      queue = rest;
      taken = s.taken + 1;
      lain = s.lain ++ (e ∷ []);
      full = false;
    }))
    (record { board = s.board; queue = rest; taken = s.taken + 1; lain = s.lain; full = false })

-- nothing is taken where the run is full or no entry waits
abbrev pub taking_from : Panel → ℕ → Option BoundingBox → Run → Bool → List ForcedPosition → Run
taking_from j count bounds s true l = s
taking_from j count bounds s false [] = s
taking_from j count bounds s false (e ∷ rest) = taking j count bounds s e rest

unfoldable pub stepped : Panel → ℕ → Option BoundingBox → Run → Run
stepped j count bounds s = taking_from j count bounds s s.full s.queue

-- "a queue of its own, empty at first": the run before an entry is taken
unfoldable pub begun : Panel → ℕ → Option BoundingBox → Board → World → Run
begun j count bounds b place = queueing j count bounds place (record { board = b; queue = []; taken = 0; lain = []; full = false })

-- the run after as many steps as the budget has; one that has ended stays as it is
unfoldable pub run_out : Panel → ℕ → Option BoundingBox → Board → World → ℕ → Run
run_out j count bounds b place zero = begun j count bounds b place
run_out j count bounds b place (suc budget) = stepped j count bounds (run_out j count bounds b place budget)

-- "01's checks made once, on entry"; "SHAPE for the budget"
abbrev pub run_checks : Panel → ℕ → Board → World → Option BoundingBox → ℕ → Checks
run_checks j count b place bounds budget =
    SHAPE unless leb budget max_budget
    then board_checks j count b
    then place_checks j.rows j.cols place j.offset
    then bounds_checks bounds

-- how it ended, how many were taken and how many laid
unfoldable pub running : Panel → ℕ → Board → World → Option BoundingBox → ℕ → Answer RanOut
running j count b place bounds budget =
    let s : Run = run_out j count bounds b place budget in
    answered
    (refusal (run_checks j count b place bounds budget))
    (record { end = end_by s.full s.queue; taken = s.taken; laid = length s.lain })

-- the board that the call leaves; a refused call changes nothing
unfoldable pub after_run : Panel → ℕ → Board → World → Option BoundingBox → ℕ → Board
after_run j count b place bounds budget =
    unless_refused (refusal (run_checks j count b place bounds budget)) (run_out j count bounds b place budget).board b
