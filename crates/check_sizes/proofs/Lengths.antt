-- The tests of lengths in the words of a function that has asked for the number of cells first, or that takes the answer of `tile_number`
-- apart: a list for `search`, beside `chain`.
-- Assumes nothing.
use Prim.Native.Nat.{ℕ}
use mathlib.Core.Path.{◌≡◌, ◌∙◌, ap}
use mathlib.Core.Bool.{Bool}
use mathlib.Core.List.{List}
use Rattle.rules.specs.Tests.{has_length}
use Rattle.check_sizes.proofs.Tiled.{not-whole, is_whole}

-- the number of cells was worked out before
pub length-as : {A : Type 0} {r : Bool} (plane : List A) (m n : ℕ) → r ≡ has_length plane m → m ≡ n → r ≡ has_length plane n
length-as plane m n e q = e ∙ ap (has_length plane) q

pub ruleset lengths = (length-as, not-whole, is_whole)
