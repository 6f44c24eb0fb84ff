-- Two results that meet the contract of a public call coincide.
-- Assumes nothing.
use Prim.Native.Nat.{ℕ}
use mathlib.Core.Path.{◌≡◌}
use mathlib.Core.Bool.{Bool}
use mathlib.Core.List.{List}
use lib.Ieee.{Float}
use Rattle.rules.specs.Answers.{Answer, checked}
use Rattle.base.proofs.Chain.{coincide}
use Rattle.rules.specs.Tests.{none_above}
use Rattle.rules.specs.Floats.{is_number, is_finite, all_are}
use Rattle.rules.specs.Fit.{contents_checks}

-- of the tests of bytes and of words
pub none_above-entry : (plane : List ℕ) (most : ℕ) {r s : Bool} → r ≡ none_above plane most → s ≡ none_above plane most → r ≡ s
none_above-entry plane most p q = coincide p q

pub all-numbers : (plane : List Float) {r s : Bool} → r ≡ all_are is_number plane → s ≡ all_are is_number plane → r ≡ s
all-numbers plane p q = coincide p q

pub all-finite : (plane : List Float) {r s : Bool} → r ≡ all_are is_finite plane → s ≡ all_are is_finite plane → r ≡ s
all-finite plane p q = coincide p q

pub check-colours : (tiles : List ℕ) (count : ℕ) (pieces : List ℕ) {r s : Answer Unit}
    → r ≡ checked (contents_checks tiles count pieces) → s ≡ checked (contents_checks tiles count pieces) → r ≡ s
check-colours tiles count pieces p q = coincide p q
