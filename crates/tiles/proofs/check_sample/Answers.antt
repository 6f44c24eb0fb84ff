-- `tiles::check_sample` meets its contract: each exit is one check of the chain. Assumes nothing.
use mathlib.Core.Path.{sym, ◌∙◌}
use native.Mathlib.Omega.{arith}
use Rattle.base.proofs.Chain.{chain}
use Rattle.rules.proofs.Answered.{answers}
use Rattle.base.proofs.Numbers.{mul-le}
use Rattle.tiles.proofs.Answers.{sides-few}
use Rattle.tiles.proofs.check_sample.Goals as goal

pub returns-then-not-sample_sides : goal.returns-then-not-sample_sides
returns-then-not-sample_sides c = search (chain, answers) depth 20 fits 5000

pub overflow_mul-rows : goal.overflow_mul-rows
overflow_mul-rows c =
    let s = sides-few _ _ (sym c.sample_sides.ensures ∙ c.if-not-sample_sides.false) in record { fits = omega (arith, mul-le s.0 s.1) }

pub returns-then-not-has_length : goal.returns-then-not-has_length
returns-then-not-has_length c = search (chain, answers) depth 20 fits 5000

pub returns-then-not-colour_count : goal.returns-then-not-colour_count
returns-then-not-colour_count c = search (chain, answers) depth 20 fits 5000

pub returns-then-not-no_byte_above : goal.returns-then-not-no_byte_above
returns-then-not-no_byte_above c = search (chain, answers) depth 20 fits 5000

pub returns : goal.returns
returns c = search (chain, answers) depth 20 fits 5000
