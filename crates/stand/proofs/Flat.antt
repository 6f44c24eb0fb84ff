-- The flat board is a sound shape: a region shows the cells at most two rows and two columns past its start, and no other (`flat-shows`,
-- `flat_sound`), and a window that holds a cell shows it once (`flat-seen`). And it can be widened: moved by the pads, each cell stands in
-- the larger grid, rows and columns as far from each other as before (`flat-embeds`), each kept window is kept and shows the same
-- (`flat-windows`), and none is kept that was skipped, but above the old rows and before the old columns (`flat-kept`). Assumes nothing.
use Prim.Native.Nat.{ℕ, ◌+◌, ◌-◌, ◌*◌, ◌/◌, ◌%◌, ◌<◌, ◌≤◌, max}
use mathlib.Core.Path.{◌≡◌, sym, ◌∙◌, ap, subst}
use mathlib.Core.Bool.{true, false, ◌&&◌}
use mathlib.Core.Logic.{◌≢◌, ◌⊎◌, inl, inr, ⊎_elim}
use native.Mathlib.Omega.{arith}
use lib.Dec.{leb, ltb}
use borrow.Author.Tests.{leb-true, le-leb, ltb-true, lt-ltb}
use Rattle.base.specs.Counting.{sum}
use Rattle.base.proofs.Bools.{never, by-test, and_left, and_right, and_both, pick_yes, pick_no}
use Rattle.base.proofs.Counted.{sum-ext}
use Rattle.base.proofs.Sums.{sum_rows, InBox, sum-box}
use Rattle.base.proofs.Numbers.{cell-lt, cell-is, row_of, col-of, row_in, col-in}
use Rattle.rules.specs.Grid.{cell_at, entry_of, entry_or_past, on_grid, flat, gap}
use Rattle.rules.specs.Places.{new_rows, new_cols}
use Rattle.rules.specs.declared.Pads.{Pads}
use Rattle.rules.proofs.Fewer.{Seen}
use Rattle.stand.proofs.Shared.{Sound}
use Rattle.stand.proofs.Moved.{New, Stays, Embeds, WindowsStay}
use Rattle.stand.proofs.Widened.{embedded, embedded-row, embedded-col, embedded-in}

near : (a b d : ℕ) → a ≡ b + d → d ≤ 2 → gap a b ≤ 2
near a b d e h = omega arith

not-both : {a b : ℕ} → a ≤ 2 → b ≤ 2 → 2 < max a b → ⊥
not-both p q far = omega arith

-- the entry of a cell that lies on the board, and of one past its edge
number-on : (rows cols r c : ℕ) → on_grid rows cols (cell_at r c) ≡ true → entry_or_past rows cols (cell_at r c) ≡ entry_of cols (cell_at r c)
unfolding entry_or_past
number-on rows cols r c on = pick_yes (on_grid rows cols (cell_at r c)) _ _ on

number_in : (rows cols r c : ℕ) → r < rows → c < cols → entry_or_past rows cols (cell_at r c) ≡ entry_of cols (cell_at r c)
number_in rows cols r c r< c< = number-on rows cols r c (and_both (ltb r rows) (ltb c cols) (lt-ltb r rows r<) (lt-ltb c cols c<))

number_past : (rows cols r c : ℕ) → on_grid rows cols (cell_at r c) ≡ false → entry_or_past rows cols (cell_at r c) ≡ rows * cols
unfolding entry_or_past
number_past rows cols r c off = pick_no (on_grid rows cols (cell_at r c)) _ _ off

over : {a b : ℕ} → a < b → a ≡ b → ⊥
over h e = omega arith

low : {a b : ℕ} → a ≡ b → b ≤ a
low e = omega arith

-- the cell at place i of a region that lies inside
record Shown (rows cols s i : ℕ) : Type 0 where
  row_low : s / cols + i / 3 < rows
  col-low : s % cols + i % 3 < cols
  at : entry_or_past rows cols (cell_at (s / cols + i / 3) (s % cols + i % 3)) ≡ entry_of cols (cell_at (s / cols + i / 3) (s % cols + i % 3))

shown : (rows cols s i : ℕ) → i < 9 → (ltb (s / cols + 2) rows && ltb (s % cols + 2) cols) ≡ true → Shown rows cols s i
shown rows cols s i i< inside =
    let rowwise : s / cols + 2 < rows = ltb-true (s / cols + 2) rows (and_left (ltb (s / cols + 2) rows) (ltb (s % cols + 2) cols) inside) in
    let right : s % cols + 2 < cols = ltb-true (s % cols + 2) cols (and_right (ltb (s / cols + 2) rows) (ltb (s % cols + 2) cols) inside) in
    let r< : s / cols + i / 3 < rows = omega arith in
    let c< : s % cols + i % 3 < cols = omega arith in
    record { row_low = r<; col-low = c<; at = number_in rows cols _ _ r< c< }

pub flat-shows : (rows cols k s i : ℕ) → i < 9 → (flat rows cols).whole s ≡ true → (flat rows cols).cell s i ≡ k
    → (k / cols ≡ s / cols + i / 3) × (k % cols ≡ s % cols + i % 3)
unfolding flat
flat-shows rows cols k s i i< inside here =
    let h : Shown rows cols s i = shown rows cols s i i< inside in
    let at : k ≡ entry_of cols (cell_at (s / cols + i / 3) (s % cols + i % 3)) = sym here ∙ h.at in (
      ap (λ (n : ℕ). n / cols) at ∙ row_of (s / cols + i / 3) h.col-low,
      ap (λ (n : ℕ). n % cols) at ∙ col-of (s / cols + i / 3) h.col-low,
    )

pub flat_sound : (rows cols : ℕ) → Sound (flat rows cols)
unfolding flat
flat_sound rows cols = record { unseen = unseen }
  where
    unseen : (k s i : ℕ) → i < 9 → (flat rows cols).whole s ≡ true → 2 < (flat rows cols).apart k s → (flat rows cols).cell s i ≢ k
    unseen k s i i< inside far here =
        let at = flat-shows rows cols k s i i< inside here in
        not-both (near (k / cols) (s / cols) (i / 3) at.0 (omega arith)) (near (k % cols) (s % cols) (i % 3) at.1 (omega arith)) far

-- a window that is kept shows the cell once, at its place in it; the one that starts at the cell is kept
pub flat-seen : (rows cols k : ℕ) → k < rows * cols → Seen (flat rows cols) k
unfolding flat
flat-seen rows cols k k< =
    record {
      some = (0, omega arith, and_both _ _ (le-leb 0 (k / cols) (omega arith)) (le-leb 0 (k % cols) (omega arith)));
      here = here;
      once = once;
    }
  where
    r< : k / cols < rows
    r< = row_in k rows cols k<

    c< : k % cols < cols
    c< = col-in k rows cols k<

    -- the start of the window that has the cell at place q
    from : ℕ → ℕ
    from q = entry_of cols (cell_at (k / cols - q / 3) (k % cols - q % 3))

    in-cols : (q : ℕ) → k % cols - q % 3 < cols
    in-cols q = omega (arith, c<)

    -- it starts q / 3 rows above the cell and q % 3 columns before it
    rowwise : (q : ℕ) → (leb (q / 3) (k / cols) && leb (q % 3) (k % cols)) ≡ true → from q / cols + q / 3 ≡ k / cols
    rowwise q on =
        let a : q / 3 ≤ k / cols = leb-true _ _ (and_left (leb (q / 3) (k / cols)) (leb (q % 3) (k % cols)) on) in
        omega (arith, row_of (k / cols - q / 3) (in-cols q))

    colwise : (q : ℕ) → (leb (q / 3) (k / cols) && leb (q % 3) (k % cols)) ≡ true → from q % cols + q % 3 ≡ k % cols
    colwise q on =
        let a : q % 3 ≤ k % cols = leb-true _ _ (and_right (leb (q / 3) (k / cols)) (leb (q % 3) (k % cols)) on) in
        omega (arith, col-of (k / cols - q / 3) (in-cols q))

    here : (q : ℕ) → q < 9 → (leb (q / 3) (k / cols) && leb (q % 3) (k % cols)) ≡ true
        → entry_or_past rows cols (cell_at (from q / cols + q / 3) (from q % cols + q % 3)) ≡ k
    here q q< on = rw (rowwise q on, colwise q on) (number_in rows cols (k / cols) (k % cols) r< c< ∙ cell-is k cols)

    once : (q i : ℕ) → q < 9 → i < 9 → (leb (q / 3) (k / cols) && leb (q % 3) (k % cols)) ≡ true
        → entry_or_past rows cols (cell_at (from q / cols + i / 3) (from q % cols + i % 3)) ≡ k → i ≡ q
    once q i q< i< on e =
        by-test (on_grid rows cols (cell_at (from q / cols + i / 3) (from q % cols + i % 3)))
        (λ in-grid.
        let c : from q % cols + i % 3 < cols = ltb-true _ _ (and_right (ltb (from q / cols + i / 3) rows) (ltb (from q % cols + i % 3) cols) in-grid) in
        let at : entry_of cols (cell_at (from q / cols + i / 3) (from q % cols + i % 3)) ≡ k = sym (number-on rows cols _ _ in-grid) ∙ e in
        let er : from q / cols + i / 3 ≡ k / cols = sym (row_of (from q / cols + i / 3) c) ∙ ap (λ (n : ℕ). n / cols) at in
        let ec : from q % cols + i % 3 ≡ k % cols = sym (col-of (from q / cols + i / 3) c) ∙ ap (λ (n : ℕ). n % cols) at in
        omega (arith, er, ec, rowwise q on, colwise q on))
        (λ out. absurd (over k< (sym e ∙ number_past rows cols _ _ out)))

-- ---- in the wider grid

gap-moved : (l a b : ℕ) → gap (l + a) (l + b) ≡ gap a b
gap-moved l a b = omega arith

-- each cell stands in the wider grid where its row and its column say
module _ (rows cols : ℕ) (p : Pads) where
  abbrev wide : ℕ
  wide = new_cols cols p

  abbrev e : ℕ → ℕ
  e = embedded cols p

  row : (k : ℕ) → k < rows * cols → e k / wide ≡ p.left + k / cols
  row = embedded-row rows cols p

  col : (k : ℕ) → k < rows * cols → e k % wide ≡ p.top + k % cols
  col = embedded-col rows cols p

  -- where the cell of a row and a column stands
  placed : (r c : ℕ) → r < rows → c < cols
      → (entry_or_past rows cols (cell_at r c) < rows * cols)
      × (entry_or_past (new_rows rows p) wide (cell_at (p.left + r) (p.top + c)) ≡ e (entry_or_past rows cols (cell_at r c)))
  placed r c r< c< = (
    rw (number_in rows cols r c r< c<) (cell-lt r< c<),
    rw (number_in rows cols r c r< c<, row_of r c<, col-of r c<) (number_in (new_rows rows p) wide (p.left + r) (p.top + c) (omega arith) (omega arith)),
  )

  -- an old cell lies in the part of the grid that the pads leave
  boxed : (r c : ℕ) → c < wide → (j : ℕ) → j < rows * cols → e j ≡ r * wide + c → InBox p.left rows p.top cols r c
  boxed r c c< j j< h =
      let er : r ≡ p.left + j / cols = sym (row_of r c<) ∙ ap (λ (n : ℕ). n / wide) (sym h) ∙ row j j< in
      let ec : c ≡ p.top + j % cols = sym (col-of r c<) ∙ ap (λ (n : ℕ). n % wide) (sym h) ∙ col j j< in
      let r< : j / cols < rows = row_in j rows cols j< in
      let j%< : j % cols < cols = col-in j rows cols j< in
      record { below = omega arith; above = omega arith; after = omega arith; before = omega arith }

  pub flat-embeds : Embeds (flat rows cols) (flat (new_rows rows p) (new_cols cols p)) (rows * cols) (new_rows rows p * new_cols cols p) (embedded cols p)
  unfolding flat
  flat-embeds = record { apart = apart; cell = cell; whole = whole; total = total }
    where
      apart : (j k : ℕ) → j < rows * cols → k < rows * cols
          → max (gap (e j / wide) (e k / wide)) (gap (e j % wide) (e k % wide)) ≡ max (gap (j / cols) (k / cols)) (gap (j % cols) (k % cols))
      apart j k j< k< =
          rw (row j j<, row k k<, col j j<, col k k<, gap-moved p.left (j / cols) (k / cols), gap-moved p.top (j % cols) (k % cols))

      start-in : (s : ℕ) → s / cols < rows → s % cols < cols → s < rows * cols
      start-in s r< c< = subst (λ (n : ℕ). n < rows * cols) (cell-is s cols) (cell-lt r< c<)

      cell : (s i : ℕ) → i < 9 → (ltb (s / cols + 2) rows && ltb (s % cols + 2) cols) ≡ true
          → (entry_or_past rows cols (cell_at (s / cols + i / 3) (s % cols + i % 3)) < rows * cols)
          × (entry_or_past (new_rows rows p) wide (cell_at (e s / wide + i / 3) (e s % wide + i % 3)) ≡ e (entry_or_past rows cols (cell_at (s / cols + i / 3) (s % cols + i % 3))))
      cell s i i< inside =
          let h : Shown rows cols s i = shown rows cols s i i< inside in
          let r< : s / cols + i / 3 < rows = h.row_low in
          let c< : s % cols + i % 3 < cols = h.col-low in
          let s< : s < rows * cols = start-in s (omega arith) (omega arith) in
          let ra : (p.left + s / cols) + i / 3 ≡ p.left + (s / cols + i / 3) = omega arith in
          let ca : (p.top + s % cols) + i % 3 ≡ p.top + (s % cols + i % 3) = omega arith in
          rw (row s s<, col s s<, ra, ca) (placed (s / cols + i / 3) (s % cols + i % 3) r< c<)

      whole : (s : ℕ) → (ltb (s / cols + 2) rows && ltb (s % cols + 2) cols) ≡ true
          → (ltb (e s / wide + 2) (new_rows rows p) && ltb (e s % wide + 2) wide) ≡ true
      whole s inside =
          let h : Shown rows cols s 8 = shown rows cols s 8 (omega arith) inside in
          let r< : s / cols + 2 < rows = h.row_low in
          let c< : s % cols + 2 < cols = h.col-low in
          let s< : s < rows * cols = start-in s (omega arith) (omega arith) in
          rw (row s s<, col s s<) (and_both _ _ (lt-ltb ((p.left + s / cols) + 2) (new_rows rows p) (omega arith)) (lt-ltb ((p.top + s % cols) + 2) wide (omega arith)))

      total : (f : ℕ → ℕ) → ((k : ℕ) → k < new_rows rows p * wide → New (rows * cols) e k → f k ≡ 0) → sum (new_rows rows p * wide) f ≡ sum (rows * cols) (λ j. f (e j))
      total f none =
          sum-box (new_rows rows p) wide p.left rows p.top cols f (omega arith) (omega arith)
          (λ r c r< c< out. none (r * wide + c) (cell-lt r< c<) (λ j j< h. out (boxed r c c< j j< h)))
          ∙ sum-ext _ _ rows (λ r r<. sum-ext _ _ cols (λ c c<. rw (row_of r c<, col-of r c<)))
          ∙ sym (sum_rows rows cols (λ j. f (e j)))

  pub flat-windows : WindowsStay (flat rows cols) (flat (new_rows rows p) (new_cols cols p)) (rows * cols) (embedded cols p)
  unfolding flat
  flat-windows = record { kept = kept; shows = shows }
    where
      kept : (k q : ℕ) → k < rows * cols → q < 9 → (leb (q / 3) (k / cols) && leb (q % 3) (k % cols)) ≡ true
          → (leb (q / 3) (e k / wide) && leb (q % 3) (e k % wide)) ≡ true
      kept k q k< q< on =
          let a : q / 3 ≤ k / cols = leb-true _ _ (and_left (leb (q / 3) (k / cols)) _ on) in
          let b : q % 3 ≤ k % cols = leb-true _ _ (and_right (leb (q / 3) (k / cols)) (leb (q % 3) (k % cols)) on) in
          rw (row k k<, col k k<) (and_both _ _ (le-leb (q / 3) (p.left + k / cols) (omega arith)) (le-leb (q % 3) (p.top + k % cols) (omega arith)))

      -- what is past the old edge is past the new one, or a new cell
      past : (r c : ℕ) → on_grid rows cols (cell_at r c) ≡ false → New (rows * cols) e (entry_or_past (new_rows rows p) wide (cell_at (p.left + r) (p.top + c)))
      past r c off j j< h =
          by-test (on_grid (new_rows rows p) wide (cell_at (p.left + r) (p.top + c)))
          (λ on.
          let c< : p.top + c < wide = ltb-true _ _ (and_right (ltb (p.left + r) (new_rows rows p)) (ltb (p.top + c) wide) on) in
          let b = boxed (p.left + r) (p.top + c) c< j j< (h ∙ number-on (new_rows rows p) wide _ _ on) in
          let r<rows : r < rows = omega (arith, b.above) in
          let c<cols : c < cols = omega (arith, b.before) in
          never (on_grid rows cols (cell_at r c)) (and_both _ _ (lt-ltb r rows r<rows) (lt-ltb c cols c<cols)) off)
          (λ out. over (embedded-in rows cols p j j<) (h ∙ number_past (new_rows rows p) wide _ _ out))

      shows : (k q i : ℕ) → k < rows * cols → q < 9 → i < 9 → (leb (q / 3) (k / cols) && leb (q % 3) (k % cols)) ≡ true
          → Stays (rows * cols) e
          (entry_or_past rows cols
          (cell_at (entry_of cols (cell_at (k / cols - q / 3) (k % cols - q % 3)) / cols + i / 3)
          (entry_of cols (cell_at (k / cols - q / 3) (k % cols - q % 3)) % cols + i % 3)))
          (entry_or_past (new_rows rows p) wide
          (cell_at (entry_of wide (cell_at (e k / wide - q / 3) (e k % wide - q % 3)) / wide + i / 3)
          (entry_of wide (cell_at (e k / wide - q / 3) (e k % wide - q % 3)) % wide + i % 3)))
      shows k q i k< q< i< on =
          let a : q / 3 ≤ k / cols = leb-true _ _ (and_left (leb (q / 3) (k / cols)) (leb (q % 3) (k % cols)) on) in
          let b : q % 3 ≤ k % cols = leb-true _ _ (and_right (leb (q / 3) (k / cols)) (leb (q % 3) (k % cols)) on) in
          let c< : k % cols < cols = col-in k rows cols k< in
          let r : ℕ = k / cols - q / 3 in
          let c : ℕ = k % cols - q % 3 in
          let ra : (p.left + k / cols) - q / 3 ≡ p.left + r = omega arith in
          let ca : (p.top + k % cols) - q % 3 ≡ p.top + c = omega arith in
          let in-old : c < cols = omega arith in
          let in-new : p.top + c < wide = omega arith in
          let rb : (p.left + r) + i / 3 ≡ p.left + (r + i / 3) = omega arith in
          let cb : (p.top + c) + i % 3 ≡ p.top + (c + i % 3) = omega arith in
          rw (row k k<, col k k<, ra, ca, row_of r in-old, col-of r in-old, row_of (p.left + r) in-new, col-of (p.left + r) in-new, rb, cb)
          (stays (r + i / 3) (c + i % 3))
        where
          stays : (r c : ℕ) → Stays (rows * cols) e (entry_or_past rows cols (cell_at r c)) (entry_or_past (new_rows rows p) wide (cell_at (p.left + r) (p.top + c)))
          stays r c =
              by-test (on_grid rows cols (cell_at r c))
              (λ on. inl (placed r c (ltb-true r rows (and_left (ltb r rows) (ltb c cols) on)) (ltb-true c cols (and_right (ltb r rows) (ltb c cols) on))))
              (λ off. inr (low (number_past rows cols r c off), past r c off))

-- a window of an old cell that is kept in the wider grid was kept before, unless its row or its column is new
pub flat-kept : (rows cols : ℕ) (p : Pads) (k : ℕ) → k < rows * cols → (p.left ≡ 0) ⊎ (2 ≤ k / cols) → (p.top ≡ 0) ⊎ (2 ≤ k % cols) → (q : ℕ) → q < 9
    → (flat (new_rows rows p) (new_cols cols p)).kept (embedded cols p k) q ≡ true → (flat rows cols).kept k q ≡ true
unfolding flat
flat-kept rows cols p k k< above before q q< on =
    let h : (leb (q / 3) (p.left + k / cols) && leb (q % 3) (p.top + k % cols)) ≡ true =
    sym (rw (embedded-row rows cols p k k<, embedded-col rows cols p k k<)) ∙ on in
    and_both _ _
    (le-leb _ _ (within (q / 3) p.left (k / cols) (omega arith) (leb-true _ _ (and_left (leb (q / 3) (p.left + k / cols)) _ h)) above))
    (le-leb _ _ (within (q % 3) p.top (k % cols) (omega arith) (leb-true _ _ (and_right (leb (q / 3) (p.left + k / cols)) (leb (q % 3) (p.top + k % cols)) h)) before))
  where
    within : (d pad r : ℕ) → d ≤ 2 → d ≤ pad + r → (pad ≡ 0) ⊎ (2 ≤ r) → d ≤ r
    within d pad r few h = ⊎_elim (λ (z : pad ≡ 0). omega arith) (λ (z : 2 ≤ r). omega arith)
