-- `probability_influence::Quotient` meets the contract of `change_row`: a sweep that ends where the row or its factors end. Assumes nothing.
use Prim.Native.Nat.{◌<◌}
use mathlib.Core.Path.{ap, ◌∙◌}
use lib.ListN.{length, get_or}
use lib.Ieee.{Float, nan, ne}
use native.Mathlib.Omega.{arith}
use native.Mathlib.Nat.{le_refl}
use borrow.Author.Tests.{lt-ltb, le-ltb}
use Rattle.base.specs.Counting.{pick}
use Rattle.base.proofs.Bools.{pick_no, and-no-left}
use Rattle.base.proofs.Sweep.{sweep-none, sweep-turn, sweep-skip, sweep-all, sweep-old}
use Rattle.rules.specs.Floats.{over, zero64}
use Rattle.probability_influence.specs.Step.{divided_by}
use Rattle.probability_influence.proofs.QuotientChange.change_row.Goals as goal

pub loop-j-init : goal.loop-j-init
loop-j-init c = sweep-none

pub loop-j-preserved : goal.loop-j-preserved
unfolding divided_by
loop-j-preserved c = let s = c.args in
    let h : c.loop-j.j < length s.row.now = omega arith in
    let b : c.loop-j.j < length s.factors.now = omega arith in
    let f = get_or s.factors.now c.loop-j.j nan in
    sweep-turn c.loop-j.invariant h
    (c.divided.ensures
    ∙ ap (λ (p : Float). pick (ne f zero64) (over p f) p) (sweep-old c.loop-j.invariant c.loop-j.j (le_refl _) h)
    ∙ rw (lt-ltb _ _ b))

pub returns : goal.returns
unfolding divided_by
returns c = let s = c.args in
    sweep-all (sweep-skip c.loop-j.invariant c.loop-j.invariant.reach (le_refl _)
    (λ j h b. pick_no _ _ _ (and-no-left _ _ (le-ltb j (length s.factors.now) (omega arith))))) (le_refl _)
