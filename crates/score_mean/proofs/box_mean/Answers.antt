-- `score_mean::box_mean` meets its contract: the box has as many cells as its rows times its columns. Assumes nothing.
use mathlib.Core.Path.{ap, ◌∙◌}
use Prim.Native.Nat.{◌-◌, ◌*◌}
use lib.Ieee.{Float}
use Rattle.rules.specs.Floats.{over, float_of}
use Rattle.rules.specs.Scores.{mean_of}
use Rattle.score_mean.specs.Box.{score_at}
use Rattle.score_mean.proofs.Box.{box-length}
use Rattle.score_mean.proofs.box_mean.Goals as goal

pub returns : goal.returns
unfolding score_at mean_of
returns g c =
    let a = c.args in
    ap (λ (x : Float). over x (float_of ((3 - c.missing.result) * (3 - c.missing-2.result)))) c.box_sum.ensures
    ∙ rw (c.missing.ensures, c.missing-2.ensures, box-length a.cols a.r a.c)
