-- The cells of a copy of a plane into a larger one, over any kind of entry.
--     old-place    the rules' test of an old cell's place, as that of a region
--     old-at       which old cell stands at such a place
--     old-cell     old cell (i, j) stands at (left + i, top + j)
--     new-cell     a cell outside that region holds the fill
-- Assumes nothing.
use Prim.Native.Nat.{ℕ, ◌+◌, ◌-◌, ◌*◌, ◌<◌, ◌≤◌}
use mathlib.Core.Path.{◌≡◌, ◌∙◌, ap}
use mathlib.Core.Bool.{true, false, ◌&&◌, and_assoc}
use mathlib.Core.List.{List}
use native.Mathlib.Nat.{add-sub_cancel_left}
use native.Mathlib.Omega.{arith}
use lib.Dec.{leb, ltb}
use lib.ListN.{get_or}
use borrow.Author.Tests.{lt-ltb, ltb-true, leb-true}
use Rattle.base.specs.Regions.{between, inside}
use Rattle.base.proofs.Bools.{by-test, same_test, and_left, and_right, and_both, pick_yes, pick_no}
use Rattle.base.proofs.Numbers.{cell-lt}
use Rattle.base.proofs.Regions.{is-between, between-low, between-high}
use Rattle.rules.specs.Grid.{cell_at, entry_of}
use Rattle.rules.specs.Places.{copied_cell}
use Rattle.rules.specs.declared.Pads.{Pads}

shifted : (from n x : ℕ) → (leb from x && ltb (x - from) n) ≡ between from (from + n) x
shifted from n x =
    by-test (leb from x)
    (λ e.
    rw e
    (same_test (ltb (x - from) n) (ltb x (from + n))
    (λ t. lt-ltb x (from + n) (omega (arith, ltb-true (x - from) n t)))
    (λ t. lt-ltb (x - from) n (omega (arith, leb-true from x e, ltb-true x (from + n) t)))))
    (λ e. rw e)

pub old-place : (rows cols : ℕ) (p : Pads) (r c : ℕ)
    → (leb p.left r && ltb (r - p.left) rows && leb p.top c && ltb (c - p.top) cols) ≡ inside p.left (p.left + rows) p.top (p.top + cols) r c
old-place rows cols p r c =
    and_assoc (leb p.left r && ltb (r - p.left) rows) (leb p.top c) (ltb (c - p.top) cols)
    ∙ rw (shifted p.left rows r, shifted p.top cols c)

-- the old cell that stands at (r, c)
pub record OldAt (rows cols : ℕ) (p : Pads) (r c : ℕ) : Type 0 where
  pub below : p.left ≤ r
  pub after : p.top ≤ c
  pub rowwise : r - p.left < rows
  pub colwise : c - p.top < cols
  pub entry : entry_of cols (cell_at (r - p.left) (c - p.top)) < rows * cols

pub old-at : (rows cols : ℕ) (p : Pads) (r c : ℕ) → inside p.left (p.left + rows) p.top (p.top + cols) r c ≡ true → OldAt rows cols p r c
old-at rows cols p r c e =
    let row = and_left (between p.left (p.left + rows) r) (between p.top (p.top + cols) c) e in
    let col = and_right (between p.left (p.left + rows) r) (between p.top (p.top + cols) c) e in
    let below : p.left ≤ r = between-low p.left (p.left + rows) r row in
    let after : p.top ≤ c = between-low p.top (p.top + cols) c col in
    let r< : r - p.left < rows = omega (arith, between-high p.left (p.left + rows) r row) in
    let c< : c - p.top < cols = omega (arith, between-high p.top (p.top + cols) c col) in
    record { below = below; after = after; rowwise = r<; colwise = c<; entry = cell-lt r< c< }

module _ {A : Type 0} (none fill : A) (plane : List A) (rows cols : ℕ) (p : Pads) where
  pub old-cell : (i j : ℕ) → i < rows → j < cols
      → copied_cell none fill plane rows cols p (p.left + i) (p.top + j) ≡ get_or plane (entry_of cols (cell_at i j)) none
  unfolding copied_cell
  old-cell i j h k =
      pick_yes _ _ _
      (old-place rows cols p (p.left + i) (p.top + j)
      ∙ and_both _ _
      (is-between p.left (p.left + rows) (p.left + i) (omega arith) (omega arith))
      (is-between p.top (p.top + cols) (p.top + j) (omega arith) (omega arith)))
      ∙ ap (λ (n : ℕ). get_or plane n none) (rw (add-sub_cancel_left p.left i, add-sub_cancel_left p.top j))

  pub new-cell : (r c : ℕ) → inside p.left (p.left + rows) p.top (p.top + cols) r c ≡ false → copied_cell none fill plane rows cols p r c ≡ fill
  unfolding copied_cell
  new-cell r c e = pick_no _ _ _ (old-place rows cols p r c ∙ e)
