-- Two results that meet the contract of a public call coincide.
-- Assumes nothing.
use Prim.Native.Nat.{ℕ}
use mathlib.Core.Path.{◌≡◌}
use mathlib.Core.Bool.{Bool}
use lib.IntN.{ℤ, ◌+ℤ◌}
use Rattle.base.specs.Whole.{clip, within_z}
use Rattle.rules.specs.Answers.{Answer, checked}
use Rattle.base.proofs.Chain.{coincide}
use Rattle.rules.specs.Tests.{on_wall, offset_fits, on_board}
use Rattle.rules.specs.Places.{cell_of}
use Rattle.rules.specs.Fit.{place_checks}
use Rattle.rules.specs.declared.World.{World}
use Rattle.rules.specs.declared.Offset.{Offset}
use Rattle.rules.specs.declared.Cell.{Cell}

pub in-range : (least most z : ℤ) {r s : Bool} → r ≡ within_z least most z → s ≡ within_z least most z → r ≡ s
in-range least most z p q = coincide p q

pub on-wall : (w : World) {r s : Bool} → r ≡ on_wall w → s ≡ on_wall w → r ≡ s
on-wall w p q = coincide p q

pub offset-fits : (o : Offset) {r s : Bool} → r ≡ offset_fits o → s ≡ offset_fits o → r ≡ s
offset-fits o p q = coincide p q

pub on-board : (rows cols : ℕ) (w : World) (o : Offset) {r s : Bool} → r ≡ on_board rows cols w o → s ≡ on_board rows cols w o → r ≡ s
on-board rows cols w o p q = coincide p q

pub clip-to : (z : ℤ) {r s : ℕ} → r ≡ clip z → s ≡ clip z → r ≡ s
clip-to z p q = coincide p q

pub signed-index : (coordinate offset : ℤ) {r s : ℤ} → r ≡ coordinate +ℤ offset → s ≡ coordinate +ℤ offset → r ≡ s
signed-index coordinate offset p q = coincide p q

pub cell-of : (w : World) (o : Offset) {r s : Cell} → r ≡ cell_of w o → s ≡ cell_of w o → r ≡ s
cell-of w o p q = coincide p q

pub check-place : (rows cols : ℕ) (w : World) (o : Offset) {r s : Answer Unit}
    → r ≡ checked (place_checks rows cols w o) → s ≡ checked (place_checks rows cols w o) → r ≡ s
check-place rows cols w o p q = coincide p q
