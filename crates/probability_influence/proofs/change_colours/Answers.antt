-- `probability_influence::change_colours` meets its contract: a sweep, colour by colour. Assumes nothing.
use Prim.Native.Nat.{ℕ, ◌+◌, ◌*◌, ◌<◌, ◌≤◌}
use mathlib.Core.Path.{◌≡◌, sym, ap, ◌∙◌}
use native.Mathlib.Omega.{arith}
use native.Mathlib.Nat.{le_refl, zero-mul, suc-mul}
use native.Mathlib.Numerals.{add-one}
use lib.ListN.{length}
use Rattle.base.proofs.Numbers.{rows_apart}
use Rattle.base.proofs.Sweep.{sweep-none, sweep-at, sweep-part, sweep-all}
use Rattle.probability_influence.specs.Step.{colours_changed}
use Rattle.probability_influence.proofs.Step.{colour-cells, colour-change}
use Rattle.probability_influence.proofs.change_colours.Goals as goal

clash : {n : ℕ} (j : ℕ) → n ≤ j → j < n → ⊥
clash j a b = omega arith

pub loop-t-init : goal.loop-t-init
loop-t-init g c = sweep-at sweep-none (sym (zero-mul c.args.cells))

pub loop-t-preserved : goal.loop-t-preserved
loop-t-preserved g c =
    let a = c.args in
    let laws = g.met.C.Change.laws in
    let from = c.loop-t.t * a.cells in
    let room : from + a.cells ≤ length a.plane.now = omega (arith, rows_apart {b = a.count} a.cells c.loop-t-test.true) in
    sweep-at
    (sweep-part c.loop-t.invariant from (from + a.cells) (le_refl _) (omega arith) room
    (c.change_colour.ensures ∙ colour-cells laws a.cols _ _ _)
    (λ j p q. absurd (clash j p q))
    (λ j h o. colour-change a.brows a.bcols a.block.now c.loop-t.t _ laws a.cells a.cols j (omega arith) o))
    (rw (add-one, suc-mul))

pub returns : goal.returns
unfolding colours_changed
returns g c =
    let e : c.args.count ≡ c.loop-t.t = omega (arith, c.loop-t-test.false) in
    sweep-all c.loop-t.invariant (omega (arith, c.requires.long, ap (λ (n : ℕ). n * c.args.cells) e))
