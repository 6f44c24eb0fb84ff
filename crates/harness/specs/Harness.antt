-- The promises of two functions for tests: the calls' own, with a place and an offset as two numbers each and an answer as its number.
use Rattle.std.specs.Prelude.{ℕ, List, ℤ}
use Rattle.rules.specs.Grid.{flat}
use Rattle.rules.specs.Fit.{listing}
use Rattle.rules.specs.Promises.{panel, Recounts}
use Rattle.boundary_slots.specs.Slots.{world, offset_by}
use Rattle.boundary.specs.Boundary.{set_stored, Numbered, Tells}

abbrev pub PortLists : List ℕ → ℕ → ℕ → List ℕ → ℕ → ℤ → ℤ → ℤ → ℤ → List ℕ → ℕ → List ℕ → Type 0
PortLists pieces rows cols tiles count row col down across out =
    Tells set_stored (listing flat pieces rows cols tiles count (world row col) (offset_by down across)) out

abbrev pub PortRecounts : ℕ → ℕ → List ℕ → ℕ → ℤ → ℤ → ℤ → ℤ → List ℕ → List ℕ → ℕ → List ℕ → Type 0
PortRecounts rows cols tiles count row col down across pieces old =
    Numbered (Recounts (panel rows cols tiles (offset_by down across)) count (world row col) pieces old)
