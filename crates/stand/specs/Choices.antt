-- Document 02, request 9, "laying never opens a choice": what a planner reads at a place of the wall, and runs that take no piece away.
use Rattle.std.specs.Prelude.{ℕ, ◌≡◌, Bool, true, false, List, [], ◌∷◌, get_or}
use Rattle.rules.specs.Fit.{lists}
use Rattle.rules.specs.Board.{shape_of, entry_in, counts_of}
use Rattle.rules.specs.declared.World.{World}
use Rattle.stand.specs.Runs.{State, lay, lift, Act, call, widen}

-- colour t is on the list of the cell at a place
abbrev pub on_list : State → World → ℕ → Bool
on_list s place t = lists (shape_of s.panel) s.panel.tiles s.board.pieces (entry_in s.panel place) t

-- the count of the region that starts at a place
abbrev pub count_at : State → World → ℕ
count_at s place = get_or s.board.counts (entry_in s.panel place) 0

-- the counts are those of demand 3
abbrev pub Counted : State → Type 0
Counted s = s.board.counts ≡ counts_of (shape_of s.panel) s.panel.tiles s.board.pieces

abbrev pub is_lift : Act → Bool
is_lift (call (lay count place colour)) = false
is_lift (call (lift count place)) = true
is_lift (widen count p lent) = false

-- all of these acts are lifts, or none of them is
abbrev pub AllLifts : Bool → List Act → Type 0
AllLifts are [] = Unit
AllLifts are (a ∷ acts) = (is_lift a ≡ are) × AllLifts are acts
