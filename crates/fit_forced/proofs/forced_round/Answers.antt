-- `fit_forced::forced_round` meets its contract: before each turn the positions are those of the neighbours passed. Assumes nothing.
use mathlib.Core.Path.{refl, ◌∙◌, ap}
use native.Mathlib.Omega.{arith}
use Rattle.rules.specs.Forced.{positions_of}
use Rattle.fit_forced.proofs.Round.{before-none, before-few, before_more, before-all}
use Rattle.fit_forced.proofs.forced_round.Goals as goal

pub loop-d-init : goal.loop-d-init
loop-d-init c = c.no_positions-found.ensures ∙ ap positions_of (before-none _ _ _ _ _ _ _ _ _)

pub add_forced-requires : goal.add_forced-requires
add_forced-requires c = omega (arith, before-few _ _ _ _ _ _ _ _ _ _ _ c.loop-d.invariant, c.loop-d-test.true)

pub loop-d-preserved : goal.loop-d-preserved
loop-d-preserved c =
    c.add_forced.ensures _ c.loop-d.invariant
    ∙ ap positions_of (before_more _ _ _ _ _ _ _ _ _ _ _ _ _ refl c.neighbour_at-there.ensures c.forced_colour-colour.ensures)

pub returns : goal.returns
returns c = c.loop-d.invariant ∙ ap positions_of (before-all _ _ _ _ _ _ _ _ _ _ c.loop-d.auto.d-index-end c.loop-d-test.false)
