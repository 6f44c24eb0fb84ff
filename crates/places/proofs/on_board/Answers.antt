-- `places::on_board` meets its contract: the column is asked only where the row lies on the board.
-- Assumes nothing.
use mathlib.Core.Path.{sym, ◌∙◌}
use native.Mathlib.Omega.{arith}
use lib.IntN.{◌+ℤ◌}
use Rattle.base.specs.Whole.{index_below}
use Rattle.rules.specs.Tests.{on_board}
use Rattle.base.proofs.Bools.{and-go, and-halt}
use Rattle.places.proofs.Wide.{same-two}
use Rattle.places.proofs.on_board.Goals as goal

pub returns-then-on_side : goal.returns-then-on_side
unfolding on_board
returns-then-on_side c =
    let a = c.args in
    and-go _ _
    (sym (c.on_side.ensures ∙ same-two (λ x y. index_below a.rows (x +ℤ y)) a.place.0 a.offset.0 (omega arith) (omega arith)) ∙ c.if-on_side.true)
    (c.on_side-then-on_side.ensures ∙ same-two (λ x y. index_below a.cols (x +ℤ y)) a.place.1 a.offset.1 (omega arith) (omega arith))

pub returns-else-on_side : goal.returns-else-on_side
unfolding on_board
returns-else-on_side c =
    let a = c.args in
    and-halt _ _ (c.on_side.ensures ∙ same-two (λ x y. index_below a.rows (x +ℤ y)) a.place.0 a.offset.0 (omega arith) (omega arith)) c.if-on_side.false
