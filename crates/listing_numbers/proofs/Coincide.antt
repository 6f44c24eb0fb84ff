-- Two results that meet the promise of a public call coincide.
-- Assumes nothing.
use Prim.Native.Nat.{ℕ}
use mathlib.Core.Path.{◌≡◌}
use mathlib.Core.List.{List}
use Rattle.base.proofs.Chain.{gives-coincide}
use Rattle.listing_numbers.specs.Decimals.{Parses}
use Rattle.listing_numbers.specs.Input.{input_text}
use Rattle.std.specs.Prelude.{Result}
use Rattle.listing_numbers.specs.declared.ParseError.{ParseError}

pub read-input-coincides : (input d : List ℕ) {r s : Result ℕ ParseError} {x y : List ℕ}
    → Parses (input_text input) d r x → Parses (input_text input) d s y → (r ≡ s) × (x ≡ y)
read-input-coincides input d p q = gives-coincide p q
