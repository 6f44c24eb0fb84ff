-- A window where it stands.
--     back_on, back_above, back-left    the entry two up and two left of a cell
--     window-shown    what the patch round a cell shows where one of its kept windows stands is that window's pattern
--     whole_is     what nine colours that were read show, whole
--     tile-is      the cells of a tile
--     shown-each, last-is, eight_is    what holds of each cell, the ninth, and eight read as one number
-- Assumes nothing.
use Prim.Native.Nat.{ℕ, ◌+◌, ◌-◌, ◌*◌, ◌/◌, ◌%◌, ◌^◌, ◌<◌, ◌≤◌}
use mathlib.Core.Path.{◌≡◌, sym, ◌∙◌, ap, ap₂}
use mathlib.Core.Bool.{◌&&◌}
use mathlib.Core.List.{List}
use native.Mathlib.Nat.{zero-add}
use native.Mathlib.Omega.{arith}
use borrow.Author.Tests.{le-leb, lt-leb}
use lib.Dec.{leb, lit<}
use lib.ListN.{get_or}
use Rattle.base.specs.Tables.{tab}
use Rattle.base.proofs.Bools.{and_both, and-no-left, and-no-right, pick_yes, pick_no}
use Rattle.base.proofs.Numbers.{cell-is, row_of, col-of, col-lt}
use Rattle.rules.specs.Grid.{cell_at, entry_of, entry_or_past, flat, colour_on}
use Rattle.rules.specs.Fit.{pattern}
use Rattle.rules.specs.declared.Cell.{Cell}
use Rattle.fit_pattern.specs.Patch.{entry_back, patch_round, window_in, shown_in, window_of}
use Rattle.fit_pattern.specs.Packed.{cells_from, packed}
use Rattle.fit_pattern.proofs.Packed.{packed-ext, packed_join}
use Rattle.fit_pattern.proofs.Flat.{start_for, place_from, pattern-is, start_is}
use Rattle.fit_pattern.proofs.Windows.{read_is}

module _ (rows cols : ℕ) (cell : Cell) where
  pub back_on : 2 ≤ cell.0 → 2 ≤ cell.1 → entry_back rows cols cell ≡ entry_or_past rows cols (cell_at (cell.0 - 2) (cell.1 - 2))
  unfolding entry_back
  back_on p q = pick_yes (leb 2 cell.0 && leb 2 cell.1) _ _ (and_both _ _ (le-leb 2 cell.0 p) (le-leb 2 cell.1 q))

  pub back_above : cell.0 < 2 → entry_back rows cols cell ≡ rows * cols
  unfolding entry_back
  back_above p = pick_no (leb 2 cell.0 && leb 2 cell.1) _ _ (and-no-left _ _ (lt-leb 2 cell.0 p))

  pub back-left : cell.1 < 2 → entry_back rows cols cell ≡ rows * cols
  unfolding entry_back
  back-left q = pick_no (leb 2 cell.0 && leb 2 cell.1) _ _ (and-no-right (leb 2 cell.0) _ (lt-leb 2 cell.1 q))

-- place i of the window that has the cell at place q: its row and its column in the patch
abbrev down : ℕ → ℕ → ℕ
down q i = 2 - q / 3 + i / 3

abbrev right : ℕ → ℕ → ℕ
right q i = 2 - q % 3 + i % 3

module _ (q i : ℕ) (q< : q < 9) (i< : i < 9) where
  place_is : window_in q + (i / 3 * 5 + i % 3) ≡ down q i * 5 + right q i
  place_is = omega arith

  right< : right q i < 5
  right< = omega (arith, col-lt q 3 (lit< tt), col-lt i 3 (lit< tt))

  place< : down q i * 5 + right q i < 25
  place< = omega (arith, right<)

-- the window of a cell that has it at place q and starts on the grid
module _ (rows cols : ℕ) (pieces : List ℕ) (cell : Cell) (q : ℕ) (q< : q < 9) (above : q / 3 ≤ cell.0) (left : q % 3 ≤ cell.1) (colwise : cell.1 < cols) where
  back_is : (i : ℕ) → entry_back rows cols (cell_at (cell.0 + down q i) (cell.1 + right q i)) ≡ entry_or_past rows cols (place_from (start_for cell q) i)
  back_is i =
      let r : cell.0 + down q i - 2 ≡ cell.0 - q / 3 + i / 3 = omega arith in
      let c : cell.1 + right q i - 2 ≡ cell.1 - q % 3 + i % 3 = omega (arith, col-lt q 3 (lit< tt)) in
      back_on rows cols (cell_at (cell.0 + down q i) (cell.1 + right q i)) (omega arith) (omega (arith, col-lt q 3 (lit< tt)))
      ∙ ap₂ (λ (x y : ℕ). entry_or_past rows cols (cell_at x y)) r c

  pub window-shown : (patch : List ℕ) → patch ≡ tab 25 (patch_round rows cols pieces cell)
      → (i : ℕ) → i < 9 → window_of patch q i ≡ pattern (flat rows cols) pieces ((flat rows cols).start (entry_of cols cell) q) i
  unfolding shown_in
  window-shown patch read i i< =
      ap (λ (j : ℕ). get_or patch j 0) (place_is q i q< i<)
      ∙ read_is 25 (patch_round rows cols pieces cell) read (down q i * 5 + right q i) (place< q i q< i<)
      ∙ ap₂ (λ (r c : ℕ). colour_on pieces (entry_back rows cols (cell_at (cell.0 + r) (cell.1 + c)))) (row_of (down q i) (right< q i q< i<))
      (col-of (down q i) (right< q i q< i<))
      ∙ ap (colour_on pieces) (back_is i)
      ∙ pattern-is rows cols (start_for cell q) i (omega arith) pieces
      ∙ ap (λ (s : ℕ). pattern (flat rows cols) pieces s i) (sym (start_is rows cols cell q colwise))

-- nine colours that were read show what they hold
pub whole_is : (f : ℕ → ℕ) {cells : List ℕ} → cells ≡ tab 9 f → (i : ℕ) → i < 9 → shown_in cells 3 0 i ≡ f i
unfolding shown_in
whole_is f {cells} e i l = ap (λ (k : ℕ). get_or cells k 0) (zero-add (i / 3 * 3 + i % 3) ∙ cell-is i 3) ∙ read_is 9 f e i l

-- the cells of a tile, which has rows of three
pub tile-is : (n : ℕ) (tiles : List ℕ) (at : ℕ) → packed n (shown_in tiles 3 at) ≡ packed n (cells_from tiles at)
unfolding shown_in
tile-is n tiles at = packed-ext n _ _ (λ i l. ap (λ (k : ℕ). get_or tiles (at + k) 0) (cell-is i 3))

module _ (cells : List ℕ) (width at : ℕ) where
  pub shown-each : (P : ℕ → Type 0) → ((i : ℕ) → P (get_or cells i 0)) → (i : ℕ) → P (shown_in cells width at i)
  unfolding shown_in
  shown-each P h i = h (at + (i / 3 * width + i % 3))

  pub last-is : get_or cells (at + width + width + 2) 0 ≡ shown_in cells width at 8
  unfolding shown_in
  last-is = ap (λ (k : ℕ). get_or cells k 0) (omega arith)

  row-shown : (a i : ℕ) → i < 3 → shown_in cells width at (3 * a + i) ≡ get_or cells (at + a * width + i) 0
  unfolding shown_in
  row-shown a i l =
      let r : (3 * a + i) / 3 ≡ a = omega arith in
      let c : (3 * a + i) % 3 ≡ i = omega arith in
      ap₂ (λ (x y : ℕ). get_or cells (at + (x * width + y)) 0) r c ∙ ap (λ (k : ℕ). get_or cells k 0) (omega arith)

  pub eight_is : {top middle bottom : ℕ} → top ≡ packed 3 (cells_from cells at) → middle ≡ packed 3 (cells_from cells (at + width))
      → bottom ≡ packed 2 (cells_from cells (at + width + width)) → (bottom * 2 ^ 24 + middle) * 2 ^ 24 + top ≡ packed 8 (shown_in cells width at)
  eight_is {top} {middle} {bottom} t m b =
      ap₂ (λ (x y : ℕ). x * 2 ^ 24 + y)
      (ap₂ (λ (x y : ℕ). x * 2 ^ 24 + y)
      (b ∙ packed-ext 2 _ _ (λ i l. ap (λ (k : ℕ). get_or cells k 0) (omega arith) ∙ sym (row-shown 2 i (omega arith)) ∙ ap (shown_in cells width at) (omega arith)))
      (m ∙ packed-ext 3 _ _ (λ i l. ap (λ (k : ℕ). get_or cells k 0) (omega arith) ∙ sym (row-shown 1 i l) ∙ ap (shown_in cells width at) (omega arith)))
      ∙ sym (packed_join 3 2 (λ i. shown_in cells width at (3 + i))))
      (t ∙ packed-ext 3 _ _ (λ i l. ap (λ (k : ℕ). get_or cells k 0) (omega arith) ∙ sym (row-shown 0 i l) ∙ ap (shown_in cells width at) (omega arith)))
      ∙ sym (packed_join 3 5 (shown_in cells width at))
