-- Two results that meet the promise of a public call coincide. The promises of all of them have one form, a text that is written.
-- Assumes nothing.
use Prim.Native.Nat.{ℕ}
use mathlib.Core.Path.{◌≡◌}
use mathlib.Core.List.{List}
use Rattle.base.proofs.Chain.{coincide}
use Rattle.listing_lines.specs.Lines.{decimal, number_line, plane_text}
use Rattle.listing_lines.specs.Pages.{Prints}

pub prints-coincide : {t x y z : List ℕ} {at r s : ℕ} → Prints t at x r y → Prints t at x s z → (r ≡ s) × (y ≡ z)
prints-coincide p q = (coincide p.end q.end, coincide p.bytes q.bytes)

pub put-number-coincides : {x y z : List ℕ} {at r s : ℕ} (n : ℕ) → Prints (decimal n) at x r y → Prints (decimal n) at x s z → (r ≡ s) × (y ≡ z)
put-number-coincides n p q = prints-coincide p q

pub put-number-line-coincides : {x y z : List ℕ} {at r s : ℕ} (n : ℕ) → Prints (number_line n) at x r y → Prints (number_line n) at x s z → (r ≡ s) × (y ≡ z)
put-number-line-coincides n p q = prints-coincide p q

pub put-text-coincides : {x y z : List ℕ} {at r s : ℕ} (t : List ℕ) → Prints t at x r y → Prints t at x s z → (r ≡ s) × (y ≡ z)
put-text-coincides t p q = prints-coincide p q

pub put-plane-coincides : {x y z : List ℕ} {at r s : ℕ} (least : ℕ) (plane : List ℕ) (cols : ℕ)
    → Prints (plane_text least plane cols) at x r y → Prints (plane_text least plane cols) at x s z → (r ≡ s) × (y ≡ z)
put-plane-coincides least plane cols p q = prints-coincide p q
