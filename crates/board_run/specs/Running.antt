-- A forced run beneath its checks: what it leans on from step to step, and when the numbers, the planes and the queue of the code are those
-- of a run.
use Rattle.std.specs.Prelude.{Option, ℕ, ◌+◌, ◌*◌, ◌<◌, ◌≤◌, ◌≡◌, true, false, List, length, get_or}
use Rattle.base.specs.Tables.{Each}
use Rattle.base.specs.Refusal.{Gives}
use Rattle.rules.specs.Bounds.{max_colours, max_weight, max_budget}
use Rattle.rules.specs.Tests.{offset_fits, on_board}
use Rattle.rules.specs.Answers.{end_by}
use Rattle.rules.specs.Board.{Panel, Board}
use Rattle.rules.specs.ForcedRun.{Run, run_out}
use Rattle.rules.specs.declared.World.{World}
use Rattle.rules.specs.declared.ForcedPosition.{ForcedPosition}
use Rattle.fit_windows.specs.Ready.{Countable, Ready}
use Rattle.board_weights.specs.Shares.{Light}
use Rattle.board_run.specs.declared.Progress.{Progress}
use Rattle.rules.specs.declared.BoundingBox.{BoundingBox}
use Rattle.rules.specs.declared.RanOut.{RanOut}

-- what the checks leave at first, and each step after it. A step adds 3 to a weight at most, so that no weight is too large to be added
-- to, though it may pass document 01's limit on the way
pub record Going (j : Panel) (count : ℕ) (b : Board) (l : List ForcedPosition) (taken : ℕ) : Type 0 where
  pub ready : Ready b.pieces j.rows j.cols j.tiles count
  pub weights : length b.weights ≡ j.rows * j.cols
  pub counts : length b.counts ≡ j.rows * j.cols
  pub light : (i : ℕ) → i < length b.weights → get_or b.weights i 0 ≤ max_weight + 3 * taken
  pub fits : offset_fits j.offset ≡ true
  pub on : Each (λ e. on_board j.rows j.cols e.coordinates j.offset ≡ true) l

-- an entry waits and may be taken
pub record Turning (j : Panel) (count : ℕ) (b : Board) (l : List ForcedPosition) (p : Progress) : Type 0 where
  pub going : Going j count b l p.taken
  pub waits : 0 < length l
  pub free : p.full ≡ false
  pub small : p.taken < max_budget
  pub fewer : p.laid ≤ p.taken

-- an entry may be laid: what a lay of it by the rule alone leans on
pub record Laying (j : Panel) (b : Board) (e : ForcedPosition) : Type 0 where
  pub tried : Countable b.pieces j.rows j.cols j.tiles
  pub weights : length b.weights ≡ j.rows * j.cols
  pub counts : length b.counts ≡ j.rows * j.cols
  pub light : Light b.weights
  pub fits : offset_fits j.offset ≡ true
  pub on : on_board j.rows j.cols e.coordinates j.offset ≡ true
  pub low : e.colour ≤ max_colours

-- the board, the entries that wait and the numbers are those of a run
pub record Shows (s : Run) (b : Board) (l : List ForcedPosition) (p : Progress) : Type 0 where
  pub board : b ≡ s.board
  pub queue : l ≡ s.queue
  pub taken : p.taken ≡ s.taken
  pub laid : p.laid ≡ length s.lain
  pub full : p.full ≡ s.full

-- how a run ended
abbrev pub end_of : Run → RanOut
end_of s = record { end = end_by s.full s.queue; taken = s.taken; laid = length s.lain }

-- the forced pieces run out, the checks made
abbrev pub Ends : Panel → ℕ → World → Option BoundingBox → ℕ → Board → RanOut → Board → Type 0
Ends j count place bounds budget old =
    Gives (end_of (run_out j count bounds old place budget)) (run_out j count bounds old place budget).board
