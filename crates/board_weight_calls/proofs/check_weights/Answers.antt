-- `board_weight_calls::check_weights` meets its contract: a chain of three checks of the plane, then the place's. Assumes nothing.
use mathlib.Core.Path.{sym, ◌∙◌}
use Rattle.base.proofs.Chain.{chain}
use Rattle.rules.proofs.Answered.{answers}
use Rattle.check_sizes.proofs.Lengths.{lengths}
use Rattle.board_weight_calls.proofs.Leaning.{by-place}
use Rattle.board_weight_calls.proofs.check_weights.Goals as goal

pub returns-then-not-board_sides : goal.returns-then-not-board_sides
returns-then-not-board_sides c = search (chain, answers, lengths) depth 20 fits 5000

pub cells_of-requires : goal.cells_of-requires
cells_of-requires c = sym c.board_sides.ensures ∙ c.if-not-board_sides.false

pub returns-then-not-has_length : goal.returns-then-not-has_length
returns-then-not-has_length c = search (chain, answers, lengths) depth 20 fits 5000

pub returns-then-not-no_word_above : goal.returns-then-not-no_word_above
returns-then-not-no_word_above c = search (chain, answers, lengths) depth 20 fits 5000

pub returns : goal.returns
returns c = by-place _ _ _ _ _ _ c.near_spans.ensures (search (chain, lengths) depth 20 fits 5000)
