-- `queue::checks::check_queue` meets its contract, by the laws of a chain of checks.
-- Assumes nothing.
use Rattle.base.proofs.Chain.{chain}
use Rattle.rules.proofs.Answered.{answers}
use Rattle.rules.specs.Forced.{queued}
use Rattle.queue.proofs.checks.check_queue.Goals as goal

pub returns-then-queue-gt-QUEUE_ROOM : goal.returns-then-queue-gt-QUEUE_ROOM
unfolding queued
returns-then-queue-gt-QUEUE_ROOM c = search (chain, answers) depth 20 fits 5000

pub returns-then-not-all_on_wall : goal.returns-then-not-all_on_wall
unfolding queued
returns-then-not-all_on_wall c = search (chain, answers) depth 20 fits 5000

pub returns : goal.returns
unfolding queued
returns c = search (chain, answers) depth 20 fits 5000
