-- `probability_checks::check_influence` meets its contract: each exit answers the first check that fails. Assumes nothing.
use Prim.Native.Nat.{ℕ, ◌*◌, ◌^◌, ◌≤◌}
use mathlib.Core.Path.{◌≡◌, sym, ◌∙◌}
use mathlib.Core.Bool.{Bool, true, ◌&&◌}
use Rattle.base.proofs.Chain.{chain}
use Rattle.rules.proofs.Answered.{answers}
use Rattle.check_sizes.proofs.Sides.{few-cells}
use Rattle.base.proofs.Numbers.{mul-le, within-high}
use native.Mathlib.Omega.{arith}
use Rattle.base.specs.Counting.{within}
use Rattle.base.proofs.Bools.{and_left, and_right}
use Rattle.rules.specs.Bounds.{max_influence_side}
use Rattle.rules.specs.Tests.{board_sides}
use Rattle.probability_checks.proofs.check_influence.Goals as goal

pub returns-then-not-board_sides : goal.returns-then-not-board_sides
returns-then-not-board_sides c = search (chain, answers) depth 20 fits 5000

pub returns-then-not-influence_sides : goal.returns-then-not-influence_sides
returns-then-not-influence_sides c = search (chain, answers) depth 20 fits 5000

pub returns-then-radius-gt-MAX_RADIUS : goal.returns-then-radius-gt-MAX_RADIUS
returns-then-radius-gt-MAX_RADIUS c = search (chain, answers) depth 20 fits 5000

-- the board has few cells, the block few entries, and there are few colours
cells : (rows cols : ℕ) {r : Bool} → r ≡ board_sides rows cols → r ≡ true → rows * cols ≤ 4096
cells rows cols e t = few-cells rows cols (sym e ∙ t)

entries : (brows bcols : ℕ) {r : Bool} → r ≡ (within 1 max_influence_side brows && within 1 max_influence_side bcols) → r ≡ true
    → brows * bcols ≤ 127 * 127
entries brows bcols e t =
    let rowwise = within 1 max_influence_side brows in
    let colwise = within 1 max_influence_side bcols in
    let both = sym e ∙ t in
    mul-le (within-high 1 127 brows (and_left rowwise colwise both)) (within-high 1 127 bcols (and_right rowwise colwise both))

pub overflow_mul-rows : goal.overflow_mul-rows
overflow_mul-rows c =
    record { fits = omega (arith, cells c.args.rows c.args.cols c.board_sides.ensures c.if-not-board_sides.false) }

pub overflow_mul-count : goal.overflow_mul-count
overflow_mul-count c =
    let n : c.args.count ≤ 2 ^ 32 = omega (arith, c.ranges) in
    record { fits = omega (arith, mul-le n (cells c.args.rows c.args.cols c.board_sides.ensures c.if-not-board_sides.false)) }

pub returns-then-not-has_length : goal.returns-then-not-has_length
returns-then-not-has_length c = search (chain, answers) depth 20 fits 5000

pub overflow_mul-brows : goal.overflow_mul-brows
overflow_mul-brows c =
    record { fits = omega (arith, entries c.args.brows c.args.bcols c.influence_sides.ensures c.if-not-influence_sides.false) }

pub overflow_mul-count-2 : goal.overflow_mul-count-2
overflow_mul-count-2 c =
    let n : c.args.count ≤ 2 ^ 32 = omega (arith, c.ranges) in
    record { fits = omega (arith, mul-le n (entries c.args.brows c.args.bcols c.influence_sides.ensures c.if-not-influence_sides.false)) }

pub returns-then-not-has_length-2 : goal.returns-then-not-has_length-2
returns-then-not-has_length-2 c = search (chain, answers) depth 20 fits 5000

pub returns-then-not-colour_count : goal.returns-then-not-colour_count
returns-then-not-colour_count c = search (chain, answers) depth 20 fits 5000

pub returns : goal.returns
returns c = search (chain, answers) depth 20 fits 5000
