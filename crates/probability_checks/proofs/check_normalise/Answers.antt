-- `probability_checks::check_normalise` meets its contract: each exit answers the first check that fails. Assumes nothing.
use Prim.Native.Nat.{◌^◌, ◌≤◌}
use mathlib.Core.Path.{sym, ◌∙◌}
use Rattle.base.proofs.Chain.{chain}
use Rattle.rules.proofs.Answered.{answers}
use Rattle.check_sizes.proofs.Sides.{few-cells}
use Rattle.base.proofs.Numbers.{mul-le}
use native.Mathlib.Omega.{arith}
use Rattle.probability_checks.proofs.check_normalise.Goals as goal

pub returns-then-not-board_sides : goal.returns-then-not-board_sides
returns-then-not-board_sides c = search (chain, answers) depth 20 fits 5000

pub overflow_mul-rows : goal.overflow_mul-rows
overflow_mul-rows c =
    record { fits = omega (arith, few-cells c.args.rows c.args.cols (sym c.board_sides.ensures ∙ c.if-not-board_sides.false)) }

pub overflow_mul-count : goal.overflow_mul-count
overflow_mul-count c =
    let n : c.args.count ≤ 2 ^ 32 = omega (arith, c.ranges) in
    record { fits = omega (arith, mul-le n (few-cells c.args.rows c.args.cols (sym c.board_sides.ensures ∙ c.if-not-board_sides.false))) }

pub returns-then-not-has_length : goal.returns-then-not-has_length
returns-then-not-has_length c = search (chain, answers) depth 20 fits 5000

pub returns-then-not-has_length-2 : goal.returns-then-not-has_length-2
returns-then-not-has_length-2 c = search (chain, answers) depth 20 fits 5000

pub returns-then-not-colour_count : goal.returns-then-not-colour_count
returns-then-not-colour_count c = search (chain, answers) depth 20 fits 5000

pub returns-then-not-all_numbers : goal.returns-then-not-all_numbers
returns-then-not-all_numbers c = search (chain, answers) depth 20 fits 5000

pub returns-then-not-on_wall : goal.returns-then-not-on_wall
returns-then-not-on_wall c = search (chain, answers) depth 20 fits 5000

pub returns-then-not-offset_fits : goal.returns-then-not-offset_fits
returns-then-not-offset_fits c = search (chain, answers) depth 20 fits 5000

pub returns : goal.returns
returns c = search (chain, answers) depth 20 fits 5000
