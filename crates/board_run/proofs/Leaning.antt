-- What the functions beneath a forced run lean on, from what holds at each of its steps.
--     cell-on, found-few    the cell of an entry, and how many forced neighbours there are
--     movable, spans-there  what the lay of an entry asks, and that there are spans round its place
--     split, some-waits    the entry next out is the first of those that wait, and there is one
--     first_on, laying-by, laid-ready    the entry next out stands on the board and may be laid; and the board with it laid
-- Assumes nothing.
use Prim.Native.Nat.{ℕ, ◌*◌, ◌<◌, ◌≤◌}
use mathlib.Core.Path.{◌≡◌, sym, ◌∙◌, ap, subst}
use mathlib.Core.Bool.{true}
use mathlib.Core.List.{List, [], ◌∷◌}
use native.Mathlib.Omega.{arith}
use lib.ListN.{length, drop}
use Rattle.base.specs.Tables.{Each}
use Rattle.base.proofs.Chain.{none-fails}
use Rattle.rules.specs.Bounds.{max_colours, added_room}
use Rattle.rules.specs.Tests.{on_wall, on_board}
use Rattle.rules.specs.Places.{cell_of}
use Rattle.rules.specs.Fit.{place_checks}
use Rattle.rules.specs.Grid.{Kind}
use Rattle.rules.specs.Forced.{forced_round, positions_of}
use Rattle.rules.specs.Board.{Panel, Board, shape_of, laid}
use Rattle.rules.specs.declared.World.{World}
use Rattle.rules.specs.declared.Offset.{Offset}
use Rattle.rules.specs.declared.Cell.{Cell}
use Rattle.rules.specs.declared.ForcedPosition.{ForcedPosition}
use Rattle.rules.specs.declared.ForcedPositions.{ForcedPositions}
use Rattle.rules.proofs.Walled.{board-on-wall}
use Rattle.rules.proofs.Queues.{forced-few}
use Rattle.places.proofs.Indices.{row_below, col-below}
use Rattle.fit_pattern.specs.Ready.{CellOn}
use Rattle.fit_forced.proofs.Entries.{length_found}
use Rattle.fit_windows.specs.Ready.{Ready}
use Rattle.board_near.specs.Near.{OnPlane, near_spans}
use Rattle.board_near.proofs.Placing.{place-stops, nearby}
use Rattle.board_moves.specs.Movable.{Movable}
use Rattle.board_run.specs.Running.{Going, Turning, Laying}
use Rattle.board_run.specs.declared.Progress.{Progress}
use Rattle.board_run.proofs.Going.{going-laid}
use Rattle.rules.specs.Answers.{Answer, answered, next_of}
use Rattle.std.specs.Prelude.{Option, Some, None, Ok, Err}
use Rattle.rules.specs.declared.Refusal.{Refusal}
use Rattle.rules.specs.declared.Refusal.TheVariants.{Place}
use Rattle.rules.specs.declared.BoundingBox.{BoundingBox}
use Rattle.rules.specs.declared.Spans.{Spans}

pub cell-on : (rows cols : ℕ) (w : World) (o : Offset) → on_board rows cols w o ≡ true → (cell : Cell) → cell ≡ cell_of w o
    → CellOn rows cols cell.0 cell.1
cell-on rows cols w o on cell e = rw e record { rowwise = row_below rows cols w o on; colwise = col-below rows cols w o on }

pub found-few : (kind : Kind) (pieces : List ℕ) (rows cols : ℕ) (tiles : List ℕ) (count : ℕ) (place : World) (offset : Offset)
    (bounds : Option BoundingBox) (found : ForcedPositions) → found ≡ positions_of (forced_round kind pieces rows cols tiles count place offset bounds) → found.len ≤ added_room
found-few kind pieces rows cols tiles count place offset bounds found e =
    omega (
      arith,
      length_found found (forced_round kind pieces rows cols tiles count place offset bounds) e,
      forced-few kind pieces rows cols tiles count place offset bounds,
    )

module _ (j : Panel) (b : Board) (e : ForcedPosition) (g : Laying j b e) where
  abbrev w : World
  w = e.coordinates

  -- a place on the board is on the wall
  pub walled : on_wall w ≡ true
  walled = board-on-wall j.rows j.cols w j.offset g.tried.board.tall g.tried.board.wide g.fits g.on

  pub spans-there : {A : Type 0} {a : Answer Spans} {r : Refusal} → a ≡ Err r → a ≡ near_spans j.rows j.cols w j.offset → A
  spans-there {a = a} {r = r} z e =
      let none : ◌≡◌ {A = Answer Unit} (Err Place) (Ok tt) =
      place-stops j.rows j.cols w j.offset z e
      ∙ ap (λ (n : ℕ). answered n tt) (none-fails (place_checks j.rows j.cols w j.offset) (walled, (g.fits, g.on))) in
      absurd (let x : ◌≡◌ {A = ℕ} 0 1 = cc in omega arith)

  on-plane : (plane : List ℕ) → length plane ≡ j.rows * j.cols → OnPlane plane j.rows j.cols (cell_of w j.offset)
  on-plane plane long =
      record {
        tall = g.tried.board.tall;
        wide = g.tried.board.wide;
        long = long;
        rowwise = row_below j.rows j.cols w j.offset g.on;
        colwise = col-below j.rows j.cols w j.offset g.on;
      }

  pub movable : {a : Answer Spans} {spans : Spans} → a ≡ Ok spans → a ≡ near_spans j.rows j.cols w j.offset
      → (cell : Cell) → cell ≡ cell_of w j.offset → Movable b j.rows j.cols j.tiles cell spans
  movable z n cell q =
      rw q
      record {
        pieces = on-plane b.pieces g.tried.board.plane;
        weights = on-plane b.weights g.weights;
        counts = on-plane b.counts g.counts;
        near = nearby j.rows j.cols w j.offset z n;
        ready = g.tried;
        light = g.light;
      }

-- the entry next out is the first of those that wait
pub split : (l rest : List ForcedPosition) (e : ForcedPosition) {r : Option ForcedPosition} → (r ≡ next_of l) × (rest ≡ drop 1 l) → r ≡ Some e
    → l ≡ e ∷ rest
split [] rest e h z = absurd (let x : ◌≡◌ {A = ℕ} 0 1 = cc (h.0, z) in omega arith)
split (x ∷ l) rest e h z = cc (h.0, h.1, z)

-- there is one
pub some-waits : {A : Type 0} (l : List ForcedPosition) {r : Option ForcedPosition} → 0 < length l → r ≡ next_of l → r ≡ None → A
some-waits [] w h z = absurd (omega arith)
some-waits (x ∷ l) w h z = absurd (let x : ◌≡◌ {A = ℕ} 0 1 = cc (h, z) in omega arith)

module _ (j : Panel) (count : ℕ) (b : Board) (l : List ForcedPosition) (p : Progress) (t : Turning j count b l p) (e : ForcedPosition)
    (rest : List ForcedPosition) (out : l ≡ e ∷ rest) where
  -- it stands on the board
  pub first_on : on_board j.rows j.cols e.coordinates j.offset ≡ true
  first_on = (subst (Each (λ x. on_board j.rows j.cols x.coordinates j.offset ≡ true)) out t.going.on).0

  -- so it may be laid, if its colour may: at most 4,096 entries are taken and each adds 3 to a weight at most, so none comes near 32 bits
  pub laying-by : e.colour ≤ max_colours → Laying j b e
  laying-by low =
      record {
        tried = t.going.ready.tried;
        weights = t.going.weights;
        counts = t.going.counts;
        light = λ i i<. omega (arith, t.going.light i i<, t.small);
        fits = t.going.fits;
        on = first_on;
        low = low;
      }

-- laid, the board is still read as it was
pub laid-ready : (j : Panel) (count : ℕ) (b : Board) (l : List ForcedPosition) (taken : ℕ) → Going j count b l taken → (k colour : ℕ) → colour ≤ max_colours
    → (b' : Board) → b' ≡ laid (shape_of j) j.tiles b k colour → Ready b'.pieces j.rows j.cols j.tiles count
laid-ready j count b l taken g k colour low b' e =
    subst (λ (x : Board). Ready x.pieces j.rows j.cols j.tiles count) (sym e) (going-laid j count b l taken g k colour low).ready
