-- `board_planes::check_lengths` meets its contract: the check of the sides, then those of the lengths. Assumes nothing.
use mathlib.Core.Path.{sym, ◌∙◌}
use Rattle.base.proofs.Chain.{chain}
use Rattle.rules.proofs.Answered.{answers, then-part}
use Rattle.board_planes.proofs.Planes.{planes-as}
use Rattle.board_planes.proofs.check_lengths.Goals as goal

pub returns-then-not-board_sides : goal.returns-then-not-board_sides
returns-then-not-board_sides c = search (chain, answers) depth 20 fits 5000

pub cells_of-requires : goal.cells_of-requires
cells_of-requires c = sym c.board_sides.ensures ∙ c.if-not-board_sides.false

pub returns : goal.returns
returns c = search (chain, answers, then-part, planes-as) depth 20 fits 5000
