-- What the functions that take the steps lean on and promise: a walk along the numbers from step to step, and what it has done.
use Rattle.std.specs.Prelude.{ℕ, ◌+◌, ◌≤◌, ◌≡◌, true, List, eqb, length, get_or, drop}
use Rattle.base.specs.Counting.{pick}
use Rattle.rules.specs.Board.{Panel, Board}
use Rattle.rules.specs.Promises.{Lent, before, after, board_before, board_after}
use Rattle.listing_numbers.specs.Input.{max_number}
use Rattle.listing_job.specs.Form.{Step, lay, lift, steps_in, list_of, is_whole}
use Rattle.listing_job.specs.declared.Setup.{Setup}
use Rattle.listing_lines.specs.Lines.{number_line}
use Rattle.listing_lines.specs.Pages.{Prints}
use Rattle.listing_end.specs.Ending.{panel_with}
use Rattle.listing_steps.specs.Steps.{answer_to, board_past, answers_text, board_in}

-- no number is above 1,000,000
abbrev pub Small : List ℕ → Type 0
Small ns = (k : ℕ) → get_or ns k 0 ≤ max_number

-- from p on the numbers are whole steps
pub record Walks (ns : List ℕ) (p : ℕ) : Type 0 where
  pub within : p ≤ length ns
  pub whole : is_whole (steps_in (drop p ns)) ≡ true
  pub small : Small ns

-- the step that starts at p
unfoldable pub step_at : List ℕ → ℕ → Step
step_at ns p =
    pick (eqb (get_or ns p 0) 1)
    (lay (get_or ns (p + 1) 0) (get_or ns (p + 2) 0) (get_or ns (p + 3) 0))
    (lift (get_or ns (p + 1) 0) (get_or ns (p + 2) 0))

-- the steps from p on
abbrev pub steps_from : List ℕ → ℕ → List Step
steps_from ns p = list_of (steps_in (drop p ns))

-- one step: the board that it leaves, and its answer on a line
pub record Stepped (j : Panel) (count : ℕ) (b : Board) (s : Step) (at : ℕ) (x : List ℕ) (r : ℕ) (c : Board) (y : List ℕ) : Type 0 where
  pub leaves : c ≡ board_past j count b s
  pub writes : Prints (number_line (answer_to j count b s)) at x r y

-- all steps
pub record Ran (j : Panel) (count : ℕ) (b : Board) (l : List Step) (at : ℕ) (x : List ℕ) (r : ℕ) (c : Board) (y : List ℕ) : Type 0 where
  pub leaves : c ≡ board_in j count b l
  pub writes : Prints (answers_text j count b l) at x r y

-- the two as promises of calls, over lent planes and a lent page, for a job with these tiles
abbrev pub StepsOn : Setup → List ℕ → Step → Lent (List ℕ) → Lent (List ℕ) → Lent (List ℕ) → ℕ → Lent (List ℕ) → ℕ → Type 0
StepsOn setup tiles s pieces weights counts at out r =
    Stepped (panel_with setup tiles) setup.count (board_before pieces weights counts) s at (before out) r (board_after pieces weights counts) (after out)

abbrev pub RunsOn : Setup → List ℕ → List Step → Lent (List ℕ) → Lent (List ℕ) → Lent (List ℕ) → ℕ → Lent (List ℕ) → ℕ → Type 0
RunsOn setup tiles l pieces weights counts at out r =
    Ran (panel_with setup tiles) setup.count (board_before pieces weights counts) l at (before out) r (board_after pieces weights counts) (after out)
