-- `copy_rows::lay_row` meets its contract: at each turn one entry more is the row's. Assumes nothing.
use mathlib.Core.Path.{refl, sym, ◌∙◌, ap}
use mathlib.Core.List.{◌∷◌, [], ◌++◌}
use native.Mathlib.Omega.{arith}
use lib.ListN.{take}
use lib.Seq.{take_all}
use Rattle.std.proofs.lemmas.List.{take_more, take_more_set}
use Rattle.copy_rows.proofs.lay_row.Goals as goal

pub loop-j-init : goal.loop-j-init
loop-j-init g c = refl

pub loop-j-preserved : goal.loop-j-preserved
loop-j-preserved g c =
    take_more_set _ _ _ (omega (arith, c.loop-j-test.true, c.loop-j.auto.part))
    ∙ rw (c.loop-j.invariant)
    (ap (λ x. take c.loop-j.j c.args.row.now ++ (x ∷ [])) c.index-row-j.is
    ∙ sym (take_more c.args.row.now c.loop-j.j c.index-row-j.result (omega (arith, c.loop-j-test.true, c.requires))))

pub returns : goal.returns
returns g c =
    sym (take_all c.loop-j.j c.loop-j.part (omega (arith, c.loop-j-test.false, c.loop-j.auto.part)))
    ∙ c.loop-j.invariant
    ∙ take_all c.loop-j.j c.args.row.now (omega (arith, c.loop-j-test.false, c.requires))
