-- `fit_scan::first_dead_end` meets its contract: while the loops run, no cell that they passed qualifies. Assumes nothing.
use mathlib.Core.Path.{refl, sym, ◌∙◌}
use native.Mathlib.Omega.{arith}
use Rattle.base.proofs.Numbers.{cell-lt}
use Rattle.fit_scan.specs.Scanned.{scanned}
use Rattle.fit_scan.proofs.Search.{found_at, found_none, no_row, cell-done, rows-done}
use Rattle.fit_scan.proofs.first_dead_end.Goals as goal

pub scan-init : goal.scan-init
scan-init c = record { nowhere = refl; row_in = omega arith; passed = no_row _ _ }

pub loop-col-preserved : goal.loop-col-preserved
loop-col-preserved c =
    let i = c.loop-col.invariant in
    record {
      nowhere = i.nowhere;
      row_in = i.row_in;
      col-in = omega arith;
      passed = cell-done _ _ _ i.passed (sym c.is_dead_end.ensures ∙ c.if-is_dead_end.false);
    }

pub returns-after-scan : goal.returns-after-scan
unfolding scanned
returns-after-scan c =
    let i = c.scan.invariant in
    i.nowhere ∙ found_none _ _ _ (rows-done _ _ _ _ i.row_in c.scan-test.false i.passed)

pub returns-then-is_dead_end : goal.returns-then-is_dead_end
unfolding scanned
returns-then-is_dead_end c =
    let i = c.loop-col.invariant in
    let l = c.loop-col-test.true in
    found_at _ _ _ _ l (cell-lt i.row_in l) i.passed (sym c.is_dead_end.ensures ∙ c.if-is_dead_end.true)
