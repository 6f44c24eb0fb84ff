-- `places::cell_of` meets its contract: the index along each side.
-- Assumes nothing.
use Prim.Native.Nat.{ℕ}
use mathlib.Core.Path.{◌≡◌, ◌∙◌}
use native.Mathlib.Omega.{arith}
use lib.IntN.{◌+ℤ◌}
use Rattle.base.specs.Whole.{clip}
use Rattle.rules.specs.Places.{cell_of}
use Rattle.rules.specs.declared.Cell.{Cell}
use Rattle.places.proofs.Wide.{same-two}
use Rattle.places.proofs.cell_of.Goals as goal

both : {a b x y : ℕ} → a ≡ x → b ≡ y → ◌≡◌ {A = Cell} (record { 0 = a; 1 = b }) (record { 0 = x; 1 = y })
both p q = rw (p, q)

pub returns : goal.returns
unfolding cell_of
returns c =
    let a = c.args in
    both
    (c.index_along.ensures ∙ same-two (λ x y. clip (x +ℤ y)) a.place.0 a.offset.0 (omega arith) (omega arith))
    (c.index_along-2.ensures ∙ same-two (λ x y. clip (x +ℤ y)) a.place.1 a.offset.1 (omega arith) (omega arith))
