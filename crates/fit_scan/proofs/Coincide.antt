-- Two results that meet the contract of a public call coincide.
-- Assumes nothing.
use Prim.Native.Nat.{ℕ}
use mathlib.Core.Path.{◌≡◌}
use mathlib.Core.List.{List}
use Rattle.std.specs.Prelude.{Option}
use Rattle.base.proofs.Chain.{coincide}
use Rattle.rules.specs.Grid.{Kind}
use Rattle.rules.specs.Forced.{scan_checks, dead_end}
use Rattle.rules.specs.Answers.{Answer, checked}
use Rattle.rules.specs.declared.Cell.{Cell}

module _ (pieces weights : List ℕ) (rows cols : ℕ) (tiles : List ℕ) (count : ℕ) where
  pub check-scan : {r s : Answer Unit} → r ≡ checked (scan_checks pieces weights rows cols tiles count)
      → s ≡ checked (scan_checks pieces weights rows cols tiles count) → r ≡ s
  check-scan p q = coincide p q

  pub check-for-contradiction : (kind : Kind) {r s : Answer (Option Cell)} → r ≡ dead_end kind pieces weights rows cols tiles count
      → s ≡ dead_end kind pieces weights rows cols tiles count → r ≡ s
  check-for-contradiction kind p q = coincide p q
