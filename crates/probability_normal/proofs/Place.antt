-- The probabilities of a place, off the board and on it.
-- Assumes nothing.
use Prim.Native.Nat.{ℕ, ◌+◌, ◌*◌}
use mathlib.Core.Path.{◌≡◌, sym, ◌∙◌}
use mathlib.Core.Bool.{true, false}
use mathlib.Core.List.{List, map}
use lib.ListN.{length, get_or}
use lib.Ieee.{Float, nan}
use Rattle.base.specs.Tables.{tab}
use Rattle.base.proofs.Tabled.{tab-ext}
use Rattle.base.proofs.Bools.{pick_yes, pick_no}
use Rattle.rules.specs.Floats.{zero64}
use Rattle.rules.specs.Probabilities.{probabilities_at}
use Rattle.rules.specs.Tests.{on_board}
use Rattle.rules.specs.Places.{cell_of}
use Rattle.rules.specs.Grid.{entry_of}
use Rattle.rules.specs.declared.World.{World}
use Rattle.rules.specs.declared.Offset.{Offset}
use Rattle.rules.specs.declared.Cell.{Cell}
use Rattle.probability_normal.proofs.Normal.{map-tab}

module _ (plane out : List Float) (rows cols count : ℕ) (w : World) (o : Offset) (n : length out ≡ count) where
  pub off-board : on_board rows cols w o ≡ false → map (λ (_ : Float). zero64) out ≡ probabilities_at plane rows cols count w o
  unfolding probabilities_at
  off-board e = sym (map-tab (λ (_ : Float). zero64) out zero64 zero64) ∙ rw n (tab-ext count _ _ (λ t _. sym (pick_no _ _ _ e)))

  pub on-board : {k : Cell} → k ≡ cell_of w o → on_board rows cols w o ≡ true
      → tab (length out) (λ t. get_or plane (t * (rows * cols) + entry_of cols k) nan) ≡ probabilities_at plane rows cols count w o
  unfolding probabilities_at
  on-board p e = rw (p, n) (tab-ext count _ _ (λ t _. sym (pick_yes _ _ _ e)))
