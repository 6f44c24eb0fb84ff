-- `probability_normal::normalise` meets its contract, by the two cases of the largest. Assumes nothing.
use mathlib.Core.Path.{sym, ap, ◌∙◌}
use Prim.Native.Nat.{ℕ}
use mathlib.Core.List.{map}
use lib.Ieee.{Float}
use Rattle.rules.specs.Floats.{one64, over, float_of}
use Rattle.probability_normal.proofs.Normal.{shares, uniform}
use Rattle.probability_normal.proofs.normalise.Goals as goal

pub returns-then-not-usable : goal.returns-then-not-usable
returns-then-not-usable c =
    let ps = c.args.ps.now in
    let most = c.largest-most.result in
    c.fill.ensures
    ∙ ap (λ (n : ℕ). map (λ (_ : Float). over one64 (float_of n)) ps) c.requires
    ∙ uniform ps most c.largest-most.ensures (sym c.usable.ensures ∙ c.if-not-usable.true)

pub returns : goal.returns
returns c =
    let ps = c.args.ps.now in
    let most = c.largest-most.result in
    c.share_out.ensures
    ∙ ap (λ (x : Float). map (λ (p : Float). over (over p most) x) ps) c.total-sum.ensures
    ∙ shares ps most c.largest-most.ensures (sym c.usable.ensures ∙ c.if-not-usable.false)
