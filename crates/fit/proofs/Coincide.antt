-- Two results that meet a call's contract coincide: the contract says all of the answer.
-- Assumes nothing.
use Prim.Native.Nat.{ℕ}
use mathlib.Core.Path.{◌≡◌}
use mathlib.Core.List.{List}
use Rattle.base.proofs.Chain.{coincide}
use Rattle.rules.specs.Grid.{Kind}
use Rattle.rules.specs.Fit.{pieces_checks, listing, region_count}
use Rattle.rules.specs.Scores.{fraction_at}
use Rattle.rules.specs.declared.World.{World}
use Rattle.rules.specs.declared.Cell.{Cell}
use Rattle.rules.specs.declared.Offset.{Offset}
use Rattle.rules.specs.Answers.{Answer, checked}
use lib.Ieee.{Float}
use Rattle.rules.specs.declared.TileBitset.{TileBitset}

pub check-pieces : (pieces : List ℕ) (rows cols : ℕ) (tiles : List ℕ) (count : ℕ) {r s : Answer Unit} → r ≡ checked (pieces_checks pieces rows cols tiles count)
    → s ≡ checked (pieces_checks pieces rows cols tiles count) → r ≡ s
check-pieces pieces rows cols tiles count = coincide

pub compute-viable-tiles-at-position : (kind : Kind) (pieces : List ℕ) (rows cols : ℕ) (tiles : List ℕ) (count : ℕ) (w : World) (o : Offset) {r s : Answer TileBitset}
    → r ≡ listing kind pieces rows cols tiles count w o → s ≡ listing kind pieces rows cols tiles count w o → r ≡ s
compute-viable-tiles-at-position kind pieces rows cols tiles count w o = coincide

pub count-fitting : (kind : Kind) (pieces : List ℕ) (rows cols : ℕ) (tiles : List ℕ) (count : ℕ) (start : Cell) {r s : Answer ℕ}
    → r ≡ region_count kind pieces rows cols tiles count start → s ≡ region_count kind pieces rows cols tiles count start → r ≡ s
count-fitting kind pieces rows cols tiles count start = coincide

pub get-fraction : (counts : List ℕ) (rows cols tiles : ℕ) (cell : Cell) {r s : Answer Float} → r ≡ fraction_at counts rows cols tiles cell
    → s ≡ fraction_at counts rows cols tiles cell → r ≡ s
get-fraction counts rows cols tiles cell = coincide
