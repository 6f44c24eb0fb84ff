-- `harness_forced::port_queue_add` meets its contract: the answer by its definition, passed on. Assumes nothing.
use mathlib.Core.Path.{◌∙◌, ap, ap₂}
use Rattle.rules.specs.Forced.{grown_by}
use Rattle.harness_forced.specs.Slices.{queue_from, slices}
use Rattle.harness_forced.proofs.Crossing.{grown-on}
use Rattle.harness_forced.proofs.port_queue_add.Goals as goal

pub returns : goal.returns
returns c =
    let a = c.args in
    let queue-is = c.queue_from-queue.ensures ∙ ap (queue_from a.coordinates.now a.colours.now) c.length_at-n.ensures in
    grown-on (slices a.coordinates.now a.colours.now a.len.now) _ _ (c.add_positions-grown.ensures ∙ ap₂ grown_by queue-is c.positions_from-added.ensures) c.added_given.ensures
