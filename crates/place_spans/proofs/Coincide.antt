-- Two results that meet the contract of a public call coincide.
-- Assumes nothing.
use Prim.Native.Nat.{ℕ}
use mathlib.Core.Path.{◌≡◌}
use Rattle.base.proofs.Chain.{coincide}
use Rattle.rules.specs.Places.{span_checks, region_spans}
use Rattle.rules.specs.declared.World.{World}
use Rattle.rules.specs.declared.Offset.{Offset}
use Rattle.rules.specs.Answers.{Answer, checked}
use Rattle.rules.specs.declared.Spans.{Spans}

pub check-region : (o : Offset) (w : World) (k : ℕ) {r s : Answer Unit} → r ≡ checked (span_checks o w k) → s ≡ checked (span_checks o w k) → r ≡ s
check-region o w k p q = coincide p q

pub get-region-spans : (o : Offset) (w : World) (k : ℕ) {r s : Answer Spans} → r ≡ region_spans o w k → s ≡ region_spans o w k → r ≡ s
get-region-spans o w k p q = coincide p q
