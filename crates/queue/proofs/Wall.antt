-- The check that entries are on the wall, as a loop that passes them one by one: its state, one turn, its end.
-- Assumes nothing.
use Prim.Native.Nat.{ℕ, ◌+◌, ◌<◌, ◌≤◌}
use mathlib.Core.Path.{◌≡◌, sym, ◌∙◌, ap}
use mathlib.Core.Bool.{Bool, true, false, ◌&&◌}
use mathlib.Core.List.{List}
use lib.ListN.{length, get_or, drop}
use Rattle.rules.specs.Tests.{on_wall}
use Rattle.rules.specs.Forced.{all_on_wall, no_position}
use Rattle.rules.specs.declared.ForcedPosition.{ForcedPosition}
use Rattle.queue_entries.proofs.Places.{still, none_left}

-- the entries passed, of which `fine` tells, and those from i on are on the wall exactly if all are
abbrev pub Walled : List ForcedPosition → Bool → ℕ → Type 0
Walled es fine i = (fine && all_on_wall (drop i es)) ≡ all_on_wall es

module _ (es : List ForcedPosition) (i : ℕ) where
  pub wall-turn : (fine here : Bool) → Walled es fine i → i < length es → here ≡ on_wall (get_or es i no_position).coordinates
      → Walled es (fine && here) (i + 1)
  unfolding all_on_wall
  wall-turn true here inv h e = rw e (ap all_on_wall (sym (still es i no_position h)) ∙ inv)
  wall-turn false here inv h e = inv

  pub wall-end : (fine : Bool) → Walled es fine i → length es ≤ i → fine ≡ all_on_wall es
  unfolding all_on_wall
  wall-end true inv h = ap all_on_wall (sym (none_left es i h)) ∙ inv
  wall-end false inv h = inv
