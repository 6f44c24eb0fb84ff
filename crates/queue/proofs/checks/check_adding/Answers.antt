-- `queue::checks::check_adding` meets its contract, by the laws of a chain of checks.
-- Assumes nothing.
use Rattle.base.proofs.Chain.{chain}
use Rattle.rules.proofs.Answered.{answers}
use Rattle.rules.specs.Forced.{queued, offered}
use Rattle.queue.proofs.checks.check_adding.Goals as goal

pub returns-then-queue-gt-QUEUE_ROOM : goal.returns-then-queue-gt-QUEUE_ROOM
unfolding queued offered
returns-then-queue-gt-QUEUE_ROOM c = search (chain, answers) depth 20 fits 5000

pub returns-then-positions-gt-ADDED_ROOM : goal.returns-then-positions-gt-ADDED_ROOM
unfolding queued offered
returns-then-positions-gt-ADDED_ROOM c = search (chain, answers) depth 20 fits 5000

pub returns-then-not-all_on_wall : goal.returns-then-not-all_on_wall
unfolding queued offered
returns-then-not-all_on_wall c = search (chain, answers) depth 20 fits 5000

pub returns-then-not-all_on_wall-2 : goal.returns-then-not-all_on_wall-2
unfolding queued offered
returns-then-not-all_on_wall-2 c = search (chain, answers) depth 20 fits 5000

pub returns : goal.returns
unfolding queued offered
returns c = search (chain, answers) depth 20 fits 5000
