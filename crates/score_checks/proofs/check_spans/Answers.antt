-- `score_checks::check_spans` meets its contract: sides, the spans' ends, planes. Assumes nothing.
use Rattle.base.proofs.Chain.{chain}
use Rattle.rules.proofs.Answered.{answers, then-part}
use Rattle.score_checks.proofs.check_spans.Goals as goal

pub returns-then-not-board_sides : goal.returns-then-not-board_sides
returns-then-not-board_sides c = search (chain, answers) depth 20 fits 5000

pub returns-then-spans-rows : goal.returns-then-spans-rows
returns-then-spans-rows c = search (chain, answers) depth 20 fits 5000

pub returns-then-spans-cols : goal.returns-then-spans-cols
returns-then-spans-cols c = search (chain, answers) depth 20 fits 5000

pub returns : goal.returns
returns c = search (chain, then-part) depth 20 fits 5000
