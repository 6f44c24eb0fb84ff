-- `board_run::run_out` meets its contract. The loop's invariant: numbers, planes and entries are those of the run after so many steps as
-- entries were taken.
-- Assumes nothing.
use mathlib.Core.Path.{refl, sym, ◌∙◌}
use native.Mathlib.Omega.{arith}
use Rattle.board_run.proofs.Looping.{loop-from, turning, before-budget, loop-turn, loop-end}
use Rattle.board_run.proofs.Showing.{ends-so}
use Rattle.board_run.proofs.run_out.Goals as goal

pub begin-state-requires : goal.begin-state-requires
begin-state-requires c =
    let p = c.requires in
    (record { ready = p.0.ready; walled = p.1 }, c.new-queue.ensures)

pub loop-offset-init : goal.loop-offset-init
loop-offset-init c =
    let e = c.begin-state.ensures in
    loop-from _ _ _ _ _ _ _ _ (e.2 _ refl) c.requires.0 e.0 e.1

pub turn-state-requires : goal.turn-state-requires
turn-state-requires c =
    turning _ _ _ _ _ _ _ _ _ _ c.loop-offset.invariant (sym c.goes_on.ensures ∙ c.loop-offset-test.true) c.requires.2

pub loop-offset-smaller : goal.loop-offset-smaller
loop-offset-smaller c =
    let l = c.loop-offset in
    let may = sym c.goes_on.ensures ∙ c.loop-offset-test.true in
    omega (arith, before-budget _ _ _ _ _ _ _ _ _ _ l.invariant may, c.turn-state.ensures.0)

pub loop-offset-preserved : goal.loop-offset-preserved
loop-offset-preserved c =
    let e = c.turn-state.ensures in
    loop-turn _ _ _ _ _ _ _ _ _ _ c.loop-offset.invariant (sym c.goes_on.ensures ∙ c.loop-offset-test.true) _ _ _ e.0 e.1 e.2

pub shape_of-pieces : goal.shape_of-pieces
shape_of-pieces c =
    let g = c.loop-offset.invariant.going in
    let p = c.requires.0 in
    g.ready.tried.board.plane ∙ sym p.ready.tried.board.plane

pub shape_of-weights : goal.shape_of-weights
shape_of-weights c =
    let g = c.loop-offset.invariant.going in
    let p = c.requires.0 in
    g.weights ∙ sym p.weights

pub shape_of-counts : goal.shape_of-counts
shape_of-counts c =
    let g = c.loop-offset.invariant.going in
    let p = c.requires.0 in
    g.counts ∙ sym p.counts

pub returns : goal.returns
returns c =
    let shown = loop-end _ _ _ _ _ _ _ _ _ _ c.loop-offset.invariant (sym c.goes_on.ensures ∙ c.loop-offset-test.false) _ _ (c.begin-state.ensures.2 _ refl) in
    record { answered = ends-so _ _ _ _ shown c.ended.ensures; leaves = shown.board }
