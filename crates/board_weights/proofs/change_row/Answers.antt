-- `board_weights::change_row` meets its contract: a sweep along the row. Assumes nothing.
use mathlib.Core.Path.{sym, ◌∙◌, ap, subst}
use Prim.Native.Nat.{◌+◌}
use native.Mathlib.Nat.{le_refl}
use lib.ListN.{get_or}
use Rattle.base.proofs.Sweep.{sweep-old}
use Rattle.base.proofs.Regions.{row-none, row-turn, row_done}
use Rattle.rules.specs.Grid.{cell_at, distance}
use Rattle.rules.proofs.Shares.{share-le}
use Rattle.board_weights.specs.Shares.{changed_by}
use Rattle.board_weights.proofs.change_row.Goals as goal

pub loop-j-init : goal.loop-j-init
loop-j-init g c = let a = c.args in row-none 0 (changed_by g.S.Step.becomes a.cell) a.row a.left

pub step-requires : goal.step-requires
step-requires g c =
    let l = c.loop-j in
    let a = c.args in
    subst (λ n. g.S.Step.can_step n c.share_at.result) (sym (sweep-old l.invariant l.j (le_refl _) c.loop-j-test.true))
    (c.requires.1 l.j _ c.loop-j-test.true (rw c.share_at.ensures (share-le (distance a.cell (cell_at a.row (a.left + l.j))))))

pub loop-j-preserved : goal.loop-j-preserved
loop-j-preserved g c =
    let l = c.loop-j in
    let a = c.args in
    row-turn 0 (changed_by g.S.Step.becomes a.cell) a.row a.left l.invariant c.loop-j-test.true
    (c.step.ensures ∙ ap (g.S.Step.becomes (get_or l.part l.j 0)) c.share_at.ensures)

pub returns : goal.returns
returns g c = let a = c.args in row_done 0 (changed_by g.S.Step.becomes a.cell) a.row a.left c.loop-j.invariant c.loop-j-test.false
