-- Demand 3: runs of lay, lift and widening from a fresh board, refused ones included; what the accepted ones say; the standing pieces
-- alone. What lay and lift do and what the pieces say of weights and counts stands in the rules' Board, what a widening does in Widening.
use Rattle.std.specs.Prelude.{ℕ, ◌+◌, ◌*◌, ◌≡◌, ◌&&◌, List, [], ◌∷◌, map, leb, eqb, pos, ◌-ℤ◌}
use Rattle.base.specs.Counting.{pick, tally}
use Rattle.base.specs.Tables.{tab, those, fold}
use Rattle.base.specs.Refusal.{refusal, unless_refused}
use Rattle.rules.specs.Bounds.{bare}
use Rattle.rules.specs.Tests.{tiles_in}
use Rattle.rules.specs.Places.{same_place}
use Rattle.rules.specs.Grid.{cell_with, laid_on, colour_on}
use Rattle.rules.specs.Board.{Panel, shape_of, entry_in, Board, board_of, fresh_board, laid, lay_checks, lift_checks, after_lay, after_lift}
use Rattle.rules.specs.Widening.{wider, widen_checks, after_widen}
use Rattle.rules.specs.declared.World.{World}
use Rattle.rules.specs.declared.Cell.{Cell}
use Rattle.rules.specs.declared.Pads.{Pads}

-- a panel and the board on it; a run starts from the fresh board of its panel
pub record State : Type 0 where
  pub panel : Panel
  pub board : Board

abbrev pub fresh : Panel → Board
fresh j = fresh_board (j.rows * j.cols) (tiles_in j.tiles)

abbrev pub start : Panel → State
start j = record { panel = j; board = fresh j }

-- a call on a board: the number of colours that it names, its place, and the colour of a lay; any of them
pub data Call : Type 0 where
  lay : ℕ → World → ℕ → Call
  lift : ℕ → World → Call

abbrev pub place_of : Call → World
place_of (lay count place colour) = place
place_of (lift count place) = place

-- an act: such a call, or a widening with the number of colours that it names, its pads and the planes lent to it, whatever they hold
pub data Act : Type 0 where
  call : Call → Act
  widen : ℕ → Pads → Board → Act

abbrev pub count_of : Call → ℕ
count_of (lay count place colour) = count
count_of (lift count place) = count

abbrev pub count_in : Act → ℕ
count_in (call c) = count_of c
count_in (widen count p lent) = count

-- the number that a call, and that an act, is refused with, 0 where it is accepted
abbrev pub refusal_of : Panel → Board → Call → ℕ
refusal_of j b (lay count place colour) = refusal (lay_checks j count b place colour)
refusal_of j b (lift count place) = refusal (lift_checks j count b place)

abbrev pub refusal_in : State → Act → ℕ
refusal_in s (call c) = refusal_of s.panel s.board c
refusal_in s (widen count p lent) = refusal (widen_checks s.panel count s.board p lent)

-- the board that a call leaves, as the contracts of lay and lift say it
abbrev pub step : Panel → Board → Call → Board
step j b (lay count place colour) = after_lay j count b place colour
step j b (lift count place) = after_lift j count b place

-- what an act leaves: a call, its board on the same panel; an accepted widening, the wider panel and the planes lent to it, as its
-- contract says it; a refused one, the panel and the board that were there
abbrev pub acted : State → Act → State
acted s (call c) = record { panel = s.panel; board = step s.panel s.board c }
acted s (widen count p lent) =
    unless_refused (refusal_in s (widen count p lent)) (record { panel = wider s.panel p; board = after_widen s.panel count s.board p lent }) s

-- one act after the other, whatever they answer
unfoldable pub run : State → List Act → State
run s acts = fold acted s acts

-- ---- "the pieces standing are those the accepted calls say", "in wall coordinates"

-- the accepted acts of a run, in order
unfoldable pub accepted_in : State → List Act → List Act
accepted_in s [] = []
accepted_in s (a ∷ acts) =
    let later : List Act = accepted_in (acted s a) acts in
    unless_refused (refusal_in s a) (a ∷ later) later

-- what is said of a plan: its panel, and what stands at each wall coordinate, as a cell stores it
pub record Plan : Type 0 where
  pub panel : Panel
  pub wall : World → ℕ

-- a lay says that its colour stands at its place, a lift that its place is bare
abbrev pub says_there : (World → ℕ) → Call → World → ℕ
says_there wall (lay count place colour) v = pick (same_place v place) (colour + 1) (wall v)
says_there wall (lift count place) v = pick (same_place v place) bare (wall v)

-- a widening says how large the panel is, and of the pieces nothing
abbrev pub says : Plan → Act → Plan
says t (call c) = record { panel = t.panel; wall = says_there t.wall c }
says t (widen count p lent) = record { panel = wider t.panel p; wall = t.wall }

-- what the acts say one after the other, of a panel that was bare
unfoldable pub told : Panel → List Act → Plan
told j acts = fold says (record { panel = j; wall = λ v. bare }) acts

-- the wall coordinate of cell k: coordinate = index - offset
unfoldable pub wall_of : Panel → ℕ → World
wall_of j k = let c : Cell = cell_with j.cols k in record { 0 = pos c.0 -ℤ j.offset.0; 1 = pos c.1 -ℤ j.offset.1 }

-- the pieces of a panel on which the wall stands
unfoldable pub pieces_on : Panel → (World → ℕ) → List ℕ
pieces_on j wall = tab (j.rows * j.cols) (λ k. wall (wall_of j k))

-- the panel of a plan, with the board that its pieces alone say
unfoldable pub state_of : Plan → State
state_of t = record { panel = t.panel; board = board_of (shape_of t.panel) t.panel.tiles (pieces_on t.panel t.wall) }

-- ---- "plus 3 per piece at most one cell away, plus 1 per piece exactly two away"

-- how many pieces stand at most one cell away from cell k
unfoldable pub within_one : Panel → List ℕ → ℕ → ℕ
within_one j pieces k = tally (j.rows * j.cols) (λ i. laid_on pieces i && leb ((shape_of j).apart i k) 1)

-- how many stand exactly two away
unfoldable pub exactly_two : Panel → List ℕ → ℕ → ℕ
exactly_two j pieces k = tally (j.rows * j.cols) (λ i. laid_on pieces i && eqb ((shape_of j).apart i k) 2)

-- ---- "only the standing pieces were laid, in any order"

pub record Piece : Type 0 where
  pub place : World
  pub colour : ℕ

-- the standing pieces, row by row
unfoldable pub standing : Panel → List ℕ → List Piece
standing j pieces =
    those (j.rows * j.cols) (laid_on pieces) (λ k. record { place = wall_of j k; colour = colour_on pieces k })

-- the same pieces in another order: the first one stays, the first two change places, or one reordering after another
pub data Reordered : List Piece → List Piece → Type 0 where
  none : Reordered [] []
  keep : (p : Piece) {ps qs : List Piece} → Reordered ps qs → Reordered (p ∷ ps) (p ∷ qs)
  swap : (p q : Piece) (ps : List Piece) → Reordered (p ∷ q ∷ ps) (q ∷ p ∷ ps)
  twice : {ps qs rs : List Piece} → Reordered ps qs → Reordered qs rs → Reordered ps rs

-- each piece laid by the rule alone, without the checks of a call
unfoldable pub laid_all : Panel → Board → List Piece → Board
laid_all j b pieces = fold (λ c p. laid (shape_of j) j.tiles c (entry_in j p.place) p.colour) b pieces

-- one call of lay for each piece, all of which name so many colours
unfoldable pub lays : ℕ → List Piece → List Act
lays count pieces = map (λ p. call (lay count p.place p.colour)) pieces

-- ---- "as if that piece had never lain there"

-- all these acts name so many colours
abbrev pub Naming : ℕ → List Act → Type 0
Naming count [] = Unit
Naming count (a ∷ acts) = (count_in a ≡ count) × Naming count acts

-- the acts that name another place than this one; a widening names none
unfoldable pub elsewhere : World → List Act → List Act
elsewhere place [] = []
elsewhere place (call c ∷ acts) = pick (same_place (place_of c) place) (elsewhere place acts) (call c ∷ elsewhere place acts)
elsewhere place (widen count p lent ∷ acts) = widen count p lent ∷ elsewhere place acts
