-- `fit_windows::viable_colours` meets its contract. The loop's invariant: left are the colours that the windows passed allow. Assumes nothing.
use Prim.Native.Nat.{◌<◌}
use mathlib.Core.Path.{◌≡◌, ◌∙◌}
use native.Mathlib.Omega.{arith}
use Rattle.rules.proofs.Meaning.{order_lt}
use Rattle.fit_pattern.proofs.Windows.{painted}
use Rattle.fit_windows.proofs.Kept.{keeps-ext}
use Rattle.fit_windows.proofs.Lists.{few-lt, in-patch, left-first, left-turn, left-none}
use Rattle.fit_windows.proofs.Accepted.{ready-coloured}
use Rattle.fit_windows.proofs.viable_colours.Goals.{After-from}
use Rattle.fit_windows.proofs.viable_colours.Goals as goal

pub loop-q-init : goal.loop-q-init
loop-q-init c = c.all_colours-left.ensures ∙ left-first _ _ _ _ _

pub returns-then-left-eq0 : goal.returns-then-left-eq0
returns-then-left-eq0 c = let l = c.loop-q in left-none _ _ _ _ _ l.auto.q-index-end l.invariant c.if-left-eq0.true

-- the place that the cell has in the window
placed : (c : After-from) → c.from.result < 9
placed c = rw c.from.ensures (order_lt c.loop-q.q-index c.loop-q-test.true)

pub narrowed-left-requires : goal.narrowed-left-requires
narrowed-left-requires c =
    let ready = c.requires.ready in
    record {
      left_bound = few-lt _ _ _ ready.colours c.loop-q.invariant;
      painted = painted 25 _ ready.tried.board c.patch_at-patch.ensures;
      coloured = ready-coloured _ _ _ _ _ ready;
      q_bound = placed (goal.at.narrowed-left-requires c).After-from;
    }

pub loop-q-preserved : goal.loop-q-preserved
loop-q-preserved c =
    let q = placed (goal.at.loop-q-preserved c).After-from in
    left-turn _ _ _ _ _ _ c.requires.ready.colours c.loop-q.invariant c.from.ensures
    (keeps-ext c.narrowed-left.ensures (λ t a b. in-patch _ _ _ _ _ _ _ c.requires.cell_on.colwise c.patch_at-patch.ensures t _ q))

pub returns : goal.returns
returns c =
    let nine : c.loop-q.q-index ≡ 9 = omega arith in
    rw nine at c.loop-q.invariant
