-- `probability_normal::take_place` meets its contract, by whether the place is on the board. Assumes nothing.
use mathlib.Core.Bool.{Bool, true}
use mathlib.Core.Path.{◌≡◌, sym, ap, ◌∙◌}
use Prim.Native.Nat.{ℕ, ◌*◌, ◌<◌, ◌≤◌}
use native.Mathlib.Omega.{arith}
use Rattle.rules.specs.declared.Cell.{Cell}
use Rattle.rules.specs.declared.Offset.{Offset}
use Rattle.rules.specs.declared.World.{World}
use Rattle.rules.specs.Places.{cell_of}
use Rattle.rules.specs.Tests.{board_sides, on_board}
use Rattle.rules.specs.Grid.{entry_of}
use Rattle.check_sizes.proofs.Sides.{few-cells}
use Rattle.places.proofs.Indices.{entry-below}
use Rattle.probability_normal.proofs.Place.{off-board, on-board}
use Rattle.probability_normal.proofs.take_place.Goals as goal

-- the cell is on the board, which has few cells
below : (rows cols : ℕ) (place : World) (offset : Offset) {on : Bool} {cell : Cell}
    → board_sides rows cols ≡ true
    → on ≡ on_board rows cols place offset
    → on ≡ true
    → cell ≡ cell_of place offset
    → (entry_of cols cell < rows * cols) × (rows * cols ≤ 4096)
below rows cols place offset s e t k =
    (rw k (entry-below rows cols place offset (sym e ∙ t)), few-cells rows cols s)

pub returns-then-not-on_board : goal.returns-then-not-on_board
returns-then-not-on_board c =
    let a = c.args in
    c.fill.ensures
    ∙ off-board a.plane.now a.out.now a.rows a.cols a.count a.place a.offset c.requires.out-long
    (sym c.on_board.ensures ∙ c.if-not-on_board.true)

pub overflow_mul-rows : goal.overflow_mul-rows
overflow_mul-rows c = record { fits = omega (arith, few-cells c.args.rows c.args.cols c.requires.sides) }

pub overflow_mul-cell : goal.overflow_mul-cell
overflow_mul-cell c =
    let a = c.args in
    record { fits = omega (arith, below a.rows a.cols a.place a.offset c.requires.sides c.on_board.ensures c.if-not-on_board.false c.cell_of-cell.ensures) }

pub overflow_add-cell : goal.overflow_add-cell
overflow_add-cell c =
    let a = c.args in
    record { fits = omega (arith, below a.rows a.cols a.place a.offset c.requires.sides c.on_board.ensures c.if-not-on_board.false c.cell_of-cell.ensures) }

pub gather-requires : goal.gather-requires
gather-requires c =
    let a = c.args in (
      (below a.rows a.cols a.place a.offset c.requires.sides c.on_board.ensures c.if-not-on_board.false c.cell_of-cell.ensures).0,
      c.requires.long ∙ ap (λ (n : ℕ). n * (a.rows * a.cols)) (sym c.requires.out-long),
    )

pub returns : goal.returns
returns c =
    let a = c.args in
    c.gather.ensures
    ∙ on-board a.plane.now a.out.now a.rows a.cols a.count a.place a.offset c.requires.out-long c.cell_of-cell.ensures
    (sym c.on_board.ensures ∙ c.if-not-on_board.false)
