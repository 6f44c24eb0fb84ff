-- Demand 3 with forced runs (document 02, request 2): "Demand 3 counts each lay made here as a lay." What lay, lift and widening do and say
-- stands in the runs of demand 3; here a forced run is one more call in them.
use Rattle.std.specs.Prelude.{Option}
use Rattle.std.specs.Prelude.{ℕ, ◌≡◌, not, List, [], ◌∷◌, ◌++◌, map, length}
use Rattle.base.specs.Counting.{tally}
use Rattle.base.specs.Tables.{fold}
use Rattle.base.specs.Refusal.{refusal, unless_refused}
use Rattle.rules.specs.Grid.{laid_on}
use Rattle.rules.specs.ForcedRun.{run_out, run_checks, after_run}
use Rattle.rules.specs.declared.World.{World}
use Rattle.rules.specs.declared.ForcedPosition.{ForcedPosition}
use Rattle.stand.specs.Runs.{State, lay, Act, call, count_in, refusal_in, acted}
use Rattle.rules.specs.declared.BoundingBox.{BoundingBox}

-- a move: an act, or a forced run with the number of colours that it names, its place, its box and its budget; any of them
pub data Move : Type 0 where
  act : Act → Move
  forced : ℕ → World → Option BoundingBox → ℕ → Move

-- the number that a move is refused with, 0 where it is accepted
abbrev pub refusal_by : State → Move → ℕ
refusal_by s (act a) = refusal_in s a
refusal_by s (forced count place bounds budget) = refusal (run_checks s.panel count s.board place bounds budget)

-- what a move leaves: a forced run, its board on the same panel, as its contract says it
abbrev pub moved : State → Move → State
moved s (act a) = acted s a
moved s (forced count place bounds budget) =
    record { panel = s.panel; board = after_run s.panel count s.board place bounds budget }

-- one move after the other, whatever they answer
unfoldable pub played : State → List Move → State
played s moves = fold moved s moves

-- ---- "counts each lay made here as a lay"

-- the lays of these entries, as calls that name so many colours
unfoldable pub lays_of : ℕ → List ForcedPosition → List Act
lays_of count entries = map (λ e. call (lay count e.coordinates e.colour)) entries

-- what a move counts as: an act as itself, a forced run as the lays that it made, a refused one as none
abbrev pub counted_as : State → Move → List Act
counted_as s (act a) = a ∷ []
counted_as s (forced count place bounds budget) =
    unless_refused (refusal_by s (forced count place bounds budget)) (lays_of count (run_out s.panel count bounds s.board place budget).lain) []

-- and moves, one after the other
unfoldable pub acts_of : State → List Move → List Act
acts_of s [] = []
acts_of s (m ∷ moves) = counted_as s m ++ acts_of (moved s m) moves

-- ---- "as if that piece had never lain there"

-- all these moves name so many colours
abbrev pub count_by : Move → ℕ
count_by (act a) = count_in a
count_by (forced count place bounds budget) = count

abbrev pub NamingAll : ℕ → List Move → Type 0
NamingAll count [] = Unit
NamingAll count (m ∷ moves) = (count_by m ≡ count) × NamingAll count moves

-- ---- "with a budget of at least nine times the bare cells"

unfoldable pub bare_cells : List ℕ → ℕ
bare_cells pieces = tally (length pieces) (λ k. not (laid_on pieces k))
