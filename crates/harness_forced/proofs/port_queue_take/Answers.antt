-- `harness_forced::port_queue_take` meets its contract: the answer by its definition, passed on. Assumes nothing.
use mathlib.Core.Path.{◌∙◌, ap}
use Rattle.rules.specs.Forced.{taken_from}
use Rattle.harness_forced.specs.Slices.{queue_from, slices, taking}
use Rattle.harness_forced.proofs.Crossing.{taken-on}
use Rattle.harness_forced.proofs.port_queue_take.Goals as goal

pub returns : goal.returns
returns c =
    let a = c.args in
    let queue-is = c.queue_from-queue.ensures ∙ ap (queue_from a.coordinates.now a.colours.now) c.length_at-n.ensures in
    taken-on (taking (slices a.coordinates.now a.colours.now a.len.now) a.taken.now a.colour.now a.found.now) _ _ (c.take_next-answer.ensures ∙ ap taken_from queue-is) c.taken_given.ensures
