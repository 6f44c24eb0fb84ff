-- The product step and its reverse, cell by cell: what the block's row says of an entry is what the rules say of it, and what lies
-- outside the region stays. Each is said of any step that keeps the laws of one, then of the two steps, which keep them.
-- Assumes nothing.
use Prim.Native.Nat.{ℕ, ◌+◌, ◌-◌, ◌*◌, ◌/◌, ◌%◌, ◌<◌, ◌≤◌}
use mathlib.Core.Path.{◌≡◌, refl, ◌∙◌, ap}
use mathlib.Core.Bool.{true}
use mathlib.Core.List.{List}
use native.Mathlib.Nat.{zero-mul}
use native.Mathlib.Omega.{arith}
use lib.Dec.{ltb}
use lib.ListN.{length, get_or, take, drop}
use lib.Ieee.{Float, nan}
use borrow.Author.Tests.{le-ltb, ltb-true}
use Rattle.base.specs.Tables.{tab}
use Rattle.base.proofs.Bools.{and_left, and_right, and_both, by-test}
use Rattle.base.proofs.Sweep.{length_part, part_at}
use Rattle.base.proofs.Regions.{is-between, region-is}
use Rattle.base.proofs.Numbers.{cell-lt, row_of, col-of, rows_apart}
use Rattle.rules.specs.Probabilities.{Region, Block, in_region, in_block, influence, product_at, quotient_at}
use Rattle.rules.specs.declared.Span.{Span}
use Rattle.probability_influence.specs.Step.{CellStep, RowStep, StepLaws, multiplied_by, divided_by, region_in, block_of, block_row, colour_changed}
use Rattle.probability_influence.specs.Laws.{product-laws, quotient-laws}

-- so one colour's plane, cell by cell
pub colour-cells : {f : CellStep} {e : RowStep} → StepLaws f e → (cols : ℕ) (g : Region) (b : Block) (plane : List Float)
    → colour_changed f cols g b plane ≡ tab (length plane) (λ k. f g b (get_or plane k nan) 0 (k / cols) (k % cols))
unfolding colour_changed
colour-cells laws cols g b plane = region-is _ _ _ _ _ _ _ plane _ (λ _ _ _. refl) (λ k _ e. laws.outside g b _ 0 _ _ e)

-- the factors of the block for row i of the region
abbrev row_factors : ℕ → ℕ → List Float → ℕ → List Float
row_factors brows bcols block i = take ((block_row brows bcols i).1 - (block_row brows bcols i).0) (drop (block_row brows bcols i).0 block)

module _ (brows bcols : ℕ) (block : List Float) (long : length block ≡ brows * bcols) where
  -- they are a part of it
  pub row-starts : (i : ℕ) → (block_row brows bcols i).0 ≤ (block_row brows bcols i).1
  row-starts i = by-test (ltb i brows) (λ e. rw e (omega arith)) (λ e. rw e (omega arith))

  pub row_ends : (i : ℕ) → (block_row brows bcols i).1 ≤ length block
  row_ends i =
      by-test (ltb i brows)
      (λ e. let i< : i < brows = ltb-true i brows e in rw e (omega (arith, long, rows_apart bcols i<)))
      (λ e. rw e (omega arith))

  in_row : (i j : ℕ) → ltb i brows ≡ true → ltb j (length (row_factors brows bcols block i)) ≡ ltb j bcols
  in_row i j e =
      let i< : i < brows = ltb-true i brows e in
      let n : length (take ((i * bcols + bcols) - i * bcols) (drop (i * bcols) block)) ≡ bcols =
      length_part block (i * bcols) (i * bcols + bcols) (omega (arith, long, rows_apart bcols i<)) ∙ omega arith in
      rw (e, n)

  row-entry : (i j : ℕ) → ltb i brows ≡ true → j < bcols → get_or (row_factors brows bcols block i) j nan ≡ get_or block (i * bcols + j) nan
  row-entry i j e h = rw e (part_at nan block (i * bcols) (i * bcols + bcols) j (omega arith))

  module _ (rs cs : Span) (r j : ℕ) (low : rs.0 ≤ r) (high : r < rs.1) (end : cs.0 + j < cs.1) where
    abbrev g : Region
    g = region_in rs cs

    abbrev b : Block
    b = block_of brows bcols block

    col : cs.0 + j - cs.0 ≡ j
    col = omega arith

    -- whether the block has an entry for the cell, and which
    within_block : ltb j (length (row_factors brows bcols block (r - rs.0))) ≡ in_block g b r (cs.0 + j)
    within_block =
        by-test (ltb (r - rs.0) brows)
        (λ e. in_row (r - rs.0) j e ∙ rw (e, col))
        (λ e. rw e (le-ltb j 0 (omega arith)))

    entry : in_block g b r (cs.0 + j) ≡ true → get_or (row_factors brows bcols block (r - rs.0)) j nan ≡ influence g b 0 r (cs.0 + j)
    unfolding influence
    entry e =
        let i = r - rs.0 in
        let in_rows : ltb i brows ≡ true = and_left (ltb i brows) (ltb (cs.0 + j - cs.0) bcols) e in
        let in-cols : cs.0 + j - cs.0 < bcols = ltb-true _ _ (and_right (ltb i brows) (ltb (cs.0 + j - cs.0) bcols) e) in
        let at : i * bcols + j ≡ 0 * (brows * bcols) + (i * bcols + (cs.0 + j - cs.0)) = omega (arith, zero-mul (brows * bcols)) in
        row-entry i j in_rows (omega arith) ∙ ap (λ (n : ℕ). get_or block n nan) at

    here : in_region g r (cs.0 + j) ≡ true
    here = and_both _ _ (is-between rs.0 rs.1 r low high) (is-between cs.0 cs.1 (cs.0 + j) (omega arith) end)

    -- as the block's row is lent
    pub cell-change : {f : CellStep} {e : RowStep} → StepLaws f e → (p : Float) {row : Span} → row ≡ block_row brows bcols (r - rs.0)
        → e (take (row.1 - row.0) (drop row.0 block)) p j ≡ f g b p 0 r (cs.0 + j)
    cell-change {e = e} laws p is =
        ap (λ (x : Span). e (take (x.1 - x.0) (drop x.0 block)) p j) is
        ∙ laws.by-row g b (row_factors brows bcols block (r - rs.0)) p 0 r (cs.0 + j) j here within_block entry

    -- of the two steps
    pub cell-product : (p : Float) {row : Span} → row ≡ block_row brows bcols (r - rs.0)
        → multiplied_by (take (row.1 - row.0) (drop row.0 block)) p j ≡ product_at g b p 0 r (cs.0 + j)
    cell-product p is = cell-change product-laws p is

    pub cell-quotient : (p : Float) {row : Span} → row ≡ block_row brows bcols (r - rs.0)
        → divided_by (take (row.1 - row.0) (drop row.0 block)) p j ≡ quotient_at g b p 0 r (cs.0 + j)
    cell-quotient p is = cell-change quotient-laws p is

-- colour t's own part of the block
abbrev own_block : ℕ → ℕ → List Float → ℕ → Block
own_block brows bcols block t =
    block_of brows bcols (take ((t * (brows * bcols) + brows * bcols) - t * (brows * bcols)) (drop (t * (brows * bcols)) block))

module _ (brows bcols : ℕ) (block : List Float) (t : ℕ) (g : Region) where
  own-entry : (r c : ℕ) → in_block g (block_of brows bcols block) r c ≡ true
      → influence g (own_block brows bcols block t) 0 r c ≡ influence g (block_of brows bcols block) t r c
  unfolding influence
  own-entry r c e =
      let i = r - g.rows.0 in
      let j = c - g.cols.0 in
      let own = (own_block brows bcols block t).entries in
      let i< : i < brows = ltb-true i brows (and_left (ltb i brows) (ltb j bcols) e) in
      let j< : j < bcols = ltb-true j bcols (and_right (ltb i brows) (ltb j bcols) e) in
      let z : 0 * (brows * bcols) + (i * bcols + j) ≡ i * bcols + j = omega (arith, zero-mul (brows * bcols)) in
      ap (λ (n : ℕ). get_or own n nan) z
      ∙ part_at nan block (t * (brows * bcols)) (t * (brows * bcols) + brows * bcols) (i * bcols + j) (omega (arith, cell-lt i< j<))

  -- as the cell is numbered among all colours
  pub colour-change : {f : CellStep} {e : RowStep} → StepLaws f e → (cells cols j : ℕ) {p q : Float} → j < cells → p ≡ q
      → f g (own_block brows bcols block t) p 0 (j / cols) (j % cols)
      ≡ f g (block_of brows bcols block) q ((t * cells + j) / cells) ((t * cells + j) % cells / cols) ((t * cells + j) % cells % cols)
  colour-change laws cells cols j {q = q} h o =
      rw (o, row_of t h, col-of t h)
      (laws.by-factor g (own_block brows bcols block t) (block_of brows bcols block) q 0 t (j / cols) (j % cols) refl (own-entry (j / cols) (j % cols)))

  -- of the two steps
  pub colour-product : (cells cols j : ℕ) {p q : Float} → j < cells → p ≡ q
      → product_at g (own_block brows bcols block t) p 0 (j / cols) (j % cols)
      ≡ product_at g (block_of brows bcols block) q ((t * cells + j) / cells) ((t * cells + j) % cells / cols) ((t * cells + j) % cells % cols)
  colour-product cells cols j h o = colour-change product-laws cells cols j h o

  pub colour-quotient : (cells cols j : ℕ) {p q : Float} → j < cells → p ≡ q
      → quotient_at g (own_block brows bcols block t) p 0 (j / cols) (j % cols)
      ≡ quotient_at g (block_of brows bcols block) q ((t * cells + j) / cells) ((t * cells + j) % cells / cols) ((t * cells + j) % cells % cols)
  colour-quotient cells cols j h o = colour-change quotient-laws cells cols j h o
