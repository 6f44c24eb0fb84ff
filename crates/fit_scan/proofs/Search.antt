-- The search row by row, and what each way out of it answers.
--     found_at, found_none    the first cell that qualifies, and that there is none
--     no_row, cell-done, rows-done    the cells that the loops passed
--     dead-laid, dead-light, dead-listed    whether a cell qualifies
-- Assumes nothing.
use Rattle.std.specs.Prelude.{Some, None}
use Prim.Native.Nat.{ℕ, ◌+◌, ◌*◌, ◌<◌, ◌≤◌}
use mathlib.Core.Path.{◌≡◌, sym, ◌∙◌, ap}
use mathlib.Core.Bool.{Bool, true, false, not}
use mathlib.Core.List.{List}
use native.Mathlib.Nat.{zero-mul}
use native.Mathlib.Omega.{arith}
use borrow.Author.Tests.{lt-ltb, le-ltb}
use lib.Dec.{ltb, eqb}
use lib.ListN.{length, get_or}
use Rattle.base.specs.Counting.{some, first}
use Rattle.base.proofs.Bools.{never, by-test, and-no-left, and-no-right}
use Rattle.base.proofs.Numbers.{row_of, col-of}
use Rattle.base.proofs.Counted.{some-none, some_is, some_next, first-is, first-none}
use Rattle.rules.specs.Grid.{entry_of, Shape}
use Rattle.rules.specs.Forced.{listed_at, dead_at}
use Rattle.rules.specs.declared.Cell.{Cell}
use Rattle.fit_scan.specs.Scanned.{found_by}

none_of : (test : ℕ → Bool) (n : ℕ) → some n test ≡ false → (k : ℕ) → k < n → test k ≡ false
none_of test n e k l = by-test (test k) (λ t. never (some n test) (some_is test n k l t) e) (λ t. t)

module _ (n cols : ℕ) (test : ℕ → Bool) where
  pub found_at : (cell : Cell) → cell.1 < cols → entry_of cols cell < n → some (entry_of cols cell) test ≡ false → test (entry_of cols cell) ≡ true
      → Some cell ≡ found_by n cols test
  unfolding found_by
  found_at cell l in-plane e t =
      let f : first n test ≡ entry_of cols cell = first-is test n (entry_of cols cell) in-plane t (none_of test (entry_of cols cell) e) in
      rw (f, lt-ltb (entry_of cols cell) n in-plane, row_of cell.0 {c = cell.1} {cols = cols} l, col-of cell.0 {c = cell.1} {cols = cols} l)

  pub found_none : some n test ≡ false → None ≡ found_by n cols test
  unfolding found_by
  found_none e =
      let f : first n test ≡ n = first-none test n (none_of test n e) in
      rw (f, le-ltb n n (omega arith))

-- the cells that the loops passed: before the first row, after a cell, after the last row
pub no_row : (test : ℕ → Bool) (cols : ℕ) → some (0 * cols) test ≡ false
no_row test cols = ap (λ (m : ℕ). some m test) (zero-mul cols) ∙ some-none test

pub cell-done : (test : ℕ → Bool) (k col : ℕ) → some (k + col) test ≡ false → test (k + col) ≡ false → some (k + (col + 1)) test ≡ false
cell-done test k col e t =
    let z : k + (col + 1) ≡ k + col + 1 = omega arith in
    ap (λ (m : ℕ). some m test) z ∙ some_next test e t

pub rows-done : (test : ℕ → Bool) (rows row cols : ℕ) → row ≤ rows → rows ≤ row → some (row * cols) test ≡ false → some (rows * cols) test ≡ false
rows-done test rows row cols p q e =
    let z : rows ≡ row = omega arith in
    ap (λ (m : ℕ). some (m * cols) test) z ∙ e

module _ (g : Shape) (tiles pieces weights : List ℕ) (count k : ℕ) where
  pub dead-laid : 1 < get_or pieces k 0 → false ≡ dead_at g tiles pieces weights count k
  unfolding dead_at
  dead-laid h = rw (lt-ltb 1 (get_or pieces k 0) h)

  pub dead-light : get_or weights k 0 ≤ 1 → false ≡ dead_at g tiles pieces weights count k
  unfolding dead_at
  dead-light h = sym (and-no-left _ _ (and-no-right (not (ltb 1 (get_or pieces k 0))) _ (le-ltb 1 (get_or weights k 0) h)))

  pub dead-listed : {r : Bool} → get_or pieces k 0 ≤ 1 → 1 < get_or weights k 0 → r ≡ eqb (length (listed_at g tiles pieces count k)) 0
      → r ≡ dead_at g tiles pieces weights count k
  unfolding dead_at
  dead-listed p w e = rw (le-ltb 1 (get_or pieces k 0) p, lt-ltb 1 (get_or weights k 0) w) e
