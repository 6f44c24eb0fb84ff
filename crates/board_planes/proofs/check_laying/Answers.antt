-- `board_planes::check_laying` meets its contract, by its three ways out: the range has the colours of the count. Assumes nothing.
use mathlib.Core.Path.{◌≡◌, sym, ◌∙◌}
use Rattle.std.proofs.Common.{rules}
use Rattle.base.specs.Counting.{within}
use Rattle.base.proofs.Bools.{not-is-true, not-is-false}
use Rattle.base.proofs.Chain.{chain}
use Rattle.rules.proofs.Answered.{answers}
use Rattle.board_planes.proofs.check_laying.Goals.{After-contains}
use Rattle.board_planes.proofs.check_laying.Goals as goal

told : (c : After-contains) → c.contains.result ≡ within 1 c.args.count c.args.colour
unfolding within
told c = search rules

pub returns-then-not-contains : goal.returns-then-not-contains
returns-then-not-contains c =
    let out = sym (told (goal.at.returns-then-not-contains c).After-contains) ∙ c.if-not-contains.true in
    search (chain, answers, out) depth 20 fits 5000

pub returns-then-pieces-k-gt-BARE_PIECE : goal.returns-then-pieces-k-gt-BARE_PIECE
returns-then-pieces-k-gt-BARE_PIECE c =
    let in_range = sym (told (goal.at.returns-then-pieces-k-gt-BARE_PIECE c).After-contains) ∙ c.if-not-contains.false in
    search (chain, answers, in_range, not-is-false) depth 20 fits 5000

pub returns : goal.returns
returns c =
    let in_range = sym (told (goal.at.returns c).After-contains) ∙ c.if-not-contains.false in
    search (chain, answers, in_range, not-is-true) depth 20 fits 5000
