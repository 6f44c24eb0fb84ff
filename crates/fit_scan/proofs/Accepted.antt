-- What accepted checks give: the record that the scan leans on.
-- Assumes nothing.
use Prim.Native.Nat.{ℕ, ◌*◌}
use mathlib.Core.Path.{◌≡◌, refl}
use mathlib.Core.List.{List}
use Rattle.base.specs.Refusal.{refusal}
use Rattle.base.proofs.Chain.{all_pass}
use Rattle.rules.specs.Forced.{scan_checks}
use Rattle.check_sizes.proofs.Sides.{long}
use Rattle.fit_windows.proofs.Accepted.{ready-from}
use Rattle.fit_scan.specs.Scanned.{Scannable}

module _ (pieces weights : List ℕ) (rows cols : ℕ) (tiles : List ℕ) (count : ℕ) (e : refusal (scan_checks pieces weights rows cols tiles count) ≡ 0) where
  pub scannable : Scannable pieces weights rows cols tiles count
  scannable =
      let h = all_pass (scan_checks pieces weights rows cols tiles count) refl e in
      record { ready = ready-from pieces rows cols tiles count (search); weighed = long weights (rows * cols) (search) }
