-- A loop over the rows of a region of a lent plane, over any kind of entry and any step: each row's cells of the region are lent to a
-- function that rewrites them. Cells outside the region stay as they are, so that the loop never visits them.
--     region-start, region-turn, region-row, region-done   before the first row; one row, whatever rewrote it or by the step; past the last
--     region-is      the region's rewriting is the table of f, where f is the step inside the region and changes nothing outside
--     row-none, row-turn, row_done   the loop of such a function along the row
-- Assumes nothing.
use Prim.Native.Nat.{ℕ, ◌+◌, ◌-◌, ◌*◌, ◌/◌, ◌%◌, ◌<◌, ◌≤◌}
use mathlib.Core.Path.{◌≡◌, refl, sym, ◌∙◌, ap}
use mathlib.Core.Bool.{true, false}
use mathlib.Core.List.{List, ◌++◌}
use native.Mathlib.Nat.{mul-le-mul_right, suc-mul, le-div_iff_mul-le}
use native.Mathlib.Numerals.{add-one}
use native.Mathlib.Omega.{arith}
use lib.Dec.{leb, ltb}
use lib.ListN.{length, get_or, set, take, drop}
use borrow.Author.Tests.{lt-leb, le-ltb, le-leb, lt-ltb, leb-true, ltb-true}
use Rattle.base.specs.Counting.{pick}
use Rattle.base.specs.Tables.{tab}
use Rattle.base.specs.Regions.{between, inside, RegionFits, over_row, over_region}
use Rattle.base.proofs.Bools.{and_both, and_left, and_right, and-no-left, and-no-right, by-test, pick_yes, pick_no}
use Rattle.base.proofs.Numbers.{row_of, col-of, row_lt}
use Rattle.base.proofs.Tabled.{tab-ext}
use Rattle.base.proofs.Sweep.{Sweep, sweep-none, sweep-turn, sweep-skip, sweep-all, sweep-old, sweep-part, part_at}

-- ---- between

pub not-before : (from to x : ℕ) → x < from → between from to x ≡ false
not-before from to x h = and-no-left _ _ (lt-leb from x h)

pub not_after : (from to x : ℕ) → to ≤ x → between from to x ≡ false
not_after from to x h = and-no-right (leb from x) _ (le-ltb x to h)

pub is-between : (from to x : ℕ) → from ≤ x → x < to → between from to x ≡ true
is-between from to x h k = and_both _ _ (le-leb _ _ h) (lt-ltb _ _ k)

pub between-low : (from to x : ℕ) → between from to x ≡ true → from ≤ x
between-low from to x e = leb-true from x (and_left (leb from x) (ltb x to) e)

pub between-high : (from to x : ℕ) → between from to x ≡ true → x < to
between-high from to x e = ltb-true x to (and_right (leb from x) (ltb x to) e)

-- ---- rows

-- a cell of row r
at-col : (r k cols : ℕ) → r * cols ≤ k → k < r * cols + cols → k % cols ≡ k - r * cols
at-col r k cols h b =
    let e : k ≡ r * cols + (k - r * cols) = omega arith in
    ap (λ (n : ℕ). n % cols) e ∙ col-of r (omega arith)

next_row : (r cols : ℕ) → (r + 1) * cols ≡ r * cols + cols
next_row r cols = rw (add-one, suc-mul)

low-row : (r k cols : ℕ) → 0 < cols → r * cols ≤ k → r ≤ k / cols
low-row r k cols p h = (le-div_iff_mul-le {x = r} {y = k} p).1 h

-- ---- the loop over the rows

module _ {A : Type 0} (none : A) (step : ℕ → ℕ → A → A) (cols top bottom left right : ℕ) where
  -- what becomes of cell k of the plane l
  abbrev pub cell_then : List A → ℕ → A
  cell_then l k =
      pick (inside top bottom left right (k / cols) (k % cols)) (step (k / cols) (k % cols) (get_or l k none)) (get_or l k none)

  -- the plane w where the rows of the region before row r are done
  pub record RowsDone (l w : List A) (r : ℕ) : Type 0 where
    pub low : top ≤ r
    pub high : r ≤ bottom
    pub long : length w ≡ length l
    pub sweep : Sweep none (cell_then l) l w (r * cols)

  module _ (l : List A) (fits : RegionFits (length l) cols top bottom left right) where
    outside : (k : ℕ) → inside top bottom left right (k / cols) (k % cols) ≡ false → cell_then l k ≡ get_or l k none
    outside k e = pick_no _ _ _ e

    pub region-start : RowsDone l l top
    region-start =
        let b : top * cols ≤ bottom * cols = mul-le-mul_right cols fits.rowwise in
        record {
          low = omega arith;
          high = fits.rowwise;
          long = refl;
          sweep =
              sweep-skip sweep-none (omega arith) (omega arith)
              (λ j _ h. outside j (and-no-left _ _ (not-before top bottom (j / cols) (row_lt j top cols fits.wide h))));
        }

    module _ {w : List A} {r : ℕ} (d : RowsDone l w r) where
      -- row r is in the plane
      pub row_room : r < bottom → r * cols + cols ≤ length w
      row_room h = let b : (r + 1) * cols ≤ bottom * cols = mul-le-mul_right cols (omega arith) in omega (arith, next_row r cols, d.long, fits.room)

      -- the cells that it lends are as they were
      pub part-old : (a e j : ℕ) → r * cols ≤ a → a + j < e → e ≤ length l → get_or (take (e - a) (drop a w)) j none ≡ get_or l (a + j) none
      part-old a e j h k b = part_at none w a e j k ∙ sweep-old d.sweep (a + j) (omega arith) (omega arith)

      -- row r is the next, and its cells of the region were lent to a function that left ys there
      pub region-turn : {ys : List A} {g : ℕ → A} (a e : ℕ) → a ≡ r * cols + left → e ≡ r * cols + right → r < bottom
          → ys ≡ tab (length (take (e - a) (drop a w))) g
          → ((j : ℕ) → left + j < right → g j ≡ step r (left + j) (get_or (take (e - a) (drop a w)) j none))
          → RowsDone l (take a w ++ (ys ++ drop (e - a) (drop a w))) (r + 1)
      region-turn {ys} {g} a e a-is e-is r< made new =
          record { low = omega (arith, d.low); high = omega arith; long = swept.long; sweep = swept }
        where
          end : (r + 1) * cols ≤ bottom * cols
          end = mul-le-mul_right cols (omega arith)

          within : (j : ℕ) → left + j < right → step r (left + j) (get_or l (a + j) none) ≡ cell_then l (a + j)
          within j h =
              let q : a + j ≡ r * cols + (left + j) = omega arith in
              let c< : left + j < cols = omega (arith, fits.ends) in
              let row : (a + j) / cols ≡ r = ap (λ (n : ℕ). n / cols) q ∙ row_of r c< in
              let col : (a + j) % cols ≡ left + j = ap (λ (n : ℕ). n % cols) q ∙ col-of r c< in
              sym
              (rw (row, col)
              (pick_yes _ _ _ (and_both _ _ (is-between top bottom r d.low r<) (is-between left right (left + j) (omega arith) h))))

          part : Sweep none (cell_then l) l (take a w ++ (ys ++ drop (e - a) (drop a w))) e
          part =
              sweep-part d.sweep a e (omega arith) (omega (arith, fits.colwise)) (omega (arith, end, next_row r cols, fits.ends, fits.room)) made
              (λ j h b.
              outside j
              (and-no-right (between top bottom (j / cols)) _
              (not-before left right (j % cols) (omega (arith, at-col r j cols h (omega (arith, fits.colwise, fits.ends)))))))
              (λ j h o. new j (omega arith) ∙ ap (step r (left + j)) o ∙ within j (omega arith))

          swept : Sweep none (cell_then l) l (take a w ++ (ys ++ drop (e - a) (drop a w))) ((r + 1) * cols)
          swept =
              sweep-skip part (omega (arith, next_row r cols, fits.ends)) (omega (arith, end, fits.room))
              (λ j h b.
              let low : r * cols ≤ j = omega (arith, fits.colwise) in
              let high : j < r * cols + cols = omega (arith, next_row r cols) in
              outside j
              (and-no-right (between top bottom (j / cols)) _ (not_after left right (j % cols) (omega (arith, at-col r j cols low high)))))

      -- the same, where that function did the step itself
      pub region-row : {ys : List A} (a e : ℕ) → a ≡ r * cols + left → e ≡ r * cols + right → r < bottom
          → ys ≡ over_row none step r left (take (e - a) (drop a w)) → RowsDone l (take a w ++ (ys ++ drop (e - a) (drop a w))) (r + 1)
      unfolding over_row
      region-row a e a-is e-is r< made = region-turn a e a-is e-is r< made (λ j h. refl)

      pub region-done : bottom ≤ r → w ≡ over_region none step cols top bottom left right l
      unfolding over_region
      region-done h =
          sweep-all
          (sweep-skip d.sweep d.sweep.reach (omega arith)
          (λ j b j<. outside j (and-no-left _ _ (not_after top bottom (j / cols) (omega (arith, low-row r j cols fits.wide b))))))
          (omega arith)

  -- the rewriting of the region, cell by cell
  pub region-is : (l : List A) (f : ℕ → A)
      → ((k : ℕ) → k < length l → inside top bottom left right (k / cols) (k % cols) ≡ true → f k ≡ step (k / cols) (k % cols) (get_or l k none))
      → ((k : ℕ) → k < length l → inside top bottom left right (k / cols) (k % cols) ≡ false → f k ≡ get_or l k none)
      → over_region none step cols top bottom left right l ≡ tab (length l) f
  unfolding over_region
  region-is l f on off =
      tab-ext (length l) (cell_then l) f
      (λ k k<.
      by-test (inside top bottom left right (k / cols) (k % cols))
      (λ e. pick_yes _ _ _ e ∙ sym (on k k< e))
      (λ e. pick_no _ _ _ e ∙ sym (off k k< e)))

-- ---- the loop along a row

module _ {A : Type 0} (none : A) (step : ℕ → ℕ → A → A) (r left : ℕ) where
  abbrev pub entry_then : List A → ℕ → A
  entry_then row j = step r (left + j) (get_or row j none)

  pub row-none : {row : List A} → Sweep none (entry_then row) row row 0
  row-none = sweep-none

  pub row-turn : {row w : List A} {j : ℕ} {v : A} → Sweep none (entry_then row) row w j → j < length row → v ≡ step r (left + j) (get_or w j none)
      → Sweep none (entry_then row) row (set w j v) (j + 1)
  row-turn {row} {w} {j} s h e = sweep-turn s h (e ∙ ap (step r (left + j)) (sweep-old s j (omega arith) h))

  pub row_done : {row w : List A} {j : ℕ} → Sweep none (entry_then row) row w j → length row ≤ j → w ≡ over_row none step r left row
  unfolding over_row
  row_done s h = sweep-all s h
