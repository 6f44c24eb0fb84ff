-- Two results that meet the promise of `list` coincide: the numbers answered are equal, and so is what the buffers hold. That it prints
-- `printed` decides both; that the answer is no more than the buffer has says nothing besides.
-- Assumes nothing.
use Prim.Native.Nat.{ℕ}
use mathlib.Core.Path.{◌≡◌}
use mathlib.Core.List.{List}
use Rattle.listing_text.specs.Counts.{IsPrefixLen}
use Rattle.listing_lines.specs.Pages.{Prints}
use Rattle.listing_lines.proofs.Coincide.{prints-coincide}
use Rattle.listing_text.specs.Printed.{printed}

pub list-coincides : {x y z : List ℕ} {r s : ℕ} (input : List ℕ) → IsPrefixLen r y × Prints (printed input) 0 x r y
    → IsPrefixLen s z × Prints (printed input) 0 x s z → (r ≡ s) × (y ≡ z)
list-coincides input p q = prints-coincide p.1 q.1
