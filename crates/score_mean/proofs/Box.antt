-- The box of a cell: the loops that visit it, that it has the cells which the rules give it, and how many they are.
-- Assumes nothing.
use Prim.Native.Nat.{ℕ, zero, suc, ◌+◌, ◌-◌, ◌*◌, ◌<◌, ◌≤◌}
use mathlib.Core.Path.{◌≡◌, refl, sym, ◌∙◌}
use mathlib.Core.Bool.{Bool, true, false, ◌&&◌}
use mathlib.Core.List.{[], ◌∷◌, ◌++◌, append-nil, append_assoc}
use native.Mathlib.Nat.{le_step, lt-suc_self, add-zero, add-suc, zero-mul, suc-mul}
use native.Mathlib.Numerals.{add-one}
use native.Mathlib.Omega.{arith}
use lib.Dec.{leb}
use lib.ListN.{length, length-append}
use borrow.Author.Tests.{le-leb, lt-leb, leb-true, leb-false, lt-ltb}
use Rattle.base.specs.Counting.{pick, tally}
use Rattle.base.specs.Tables.{those}
use Rattle.base.proofs.Bools.{by-test, same_test}
use Rattle.base.proofs.Numbers.{row_of, col-of}
use Rattle.base.proofs.Tabled.{those-none, those-ext, length-those}
use Rattle.rules.specs.Scores.{box_has, box_cell, box_cells}
use Rattle.score_mean.specs.Box.{place_in, box_row, box_rows}

module _ {A : Type 0} where
  -- none that passes
  pub those-empty : (n : ℕ) (test : ℕ → Bool) (f : ℕ → A) → ((k : ℕ) → k < n → test k ≡ false) → those n test f ≡ []
  unfolding those
  those-empty zero test f h = refl
  those-empty (suc n) test f h = rw (those-empty n test f (λ k l. h k (le_step l)), h n (lt-suc_self n))

  -- the first n, and then m more
  those-append : (n m : ℕ) (test : ℕ → Bool) (f : ℕ → A) → those (n + m) test f ≡ those n test f ++ those m (λ j. test (n + j)) (λ j. f (n + j))
  unfolding those
  those-append n zero test f = rw add-zero (sym (append-nil (those n test f)))
  those-append n (suc m) test f =
      rw (add-suc, those-append n m test f)
      (append_assoc (those n test f) (those m (λ j. test (n + j)) (λ j. f (n + j))) (pick (test (n + m)) (f (n + m) ∷ []) []))

-- the loop over the rows, and the loop along one
module _ (cols r c : ℕ) where
  pub rows_none : box_rows (2 - r) cols r c ≡ []
  unfolding box_rows
  rows_none = none (2 - r) (omega arith)
    where
      none : (n : ℕ) → n ≤ 2 - r → box_rows n cols r c ≡ []
      none zero h = refl
      none (suc n) h = rw (none n (omega arith), lt-leb (2 - r) n (omega arith))

  pub rows_next : (i : ℕ) → 2 - r ≤ i → box_rows (i + 1) cols r c ≡ box_rows i cols r c ++ box_row cols r c i
  unfolding box_rows
  rows_next i h = rw (add-one, le-leb (2 - r) i h)

  pub row-none : (f : ℕ → ℕ) → those (2 - c) (leb (2 - c)) f ≡ []
  row-none f = those-empty (2 - c) (leb (2 - c)) f (λ k h. lt-leb (2 - c) k h)

  -- how many cells
  tally-up : (m : ℕ) → m ≤ 2 → tally 3 (leb m) ≡ 3 - m
  unfolding tally
  tally-up zero h = refl
  tally-up (suc zero) h = refl
  tally-up (suc (suc zero)) h = refl
  tally-up (suc (suc (suc m))) h = absurd (out h)
    where
      out : suc (suc (suc m)) ≤ 2 → ⊥
      out h = omega arith

  row-length : (i : ℕ) → length (box_row cols r c i) ≡ 3 - (2 - c)
  unfolding box_row
  row-length i = length-those 3 (leb (2 - c)) _ ∙ tally-up (2 - c) (omega arith)

  rows-length : (n : ℕ) → length (box_rows n cols r c) ≡ (n - (2 - r)) * (3 - (2 - c))
  unfolding box_rows
  rows-length zero = let z : 0 - (2 - r) ≡ 0 = omega arith in rw z (sym (zero-mul (3 - (2 - c))))
  rows-length (suc n) =
      length-append (box_rows n cols r c) (pick (leb (2 - r) n) (box_row cols r c n) [])
      ∙ by-test (leb (2 - r) n)
      (λ e.
      let h : 2 - r ≤ n = leb-true (2 - r) n e in
      let s : suc n - (2 - r) ≡ suc (n - (2 - r)) = omega arith in
      rw (e, s, suc-mul, rows-length n, row-length n))
      (λ e.
      let h : n < 2 - r = leb-false (2 - r) n e in
      let s : suc n - (2 - r) ≡ n - (2 - r) = omega arith in
      rw (e, s, rows-length n, add-zero))

  pub box-length : length (box_rows 3 cols r c) ≡ (3 - (2 - r)) * (3 - (2 - c))
  box-length = rows-length 3

-- the box has the cells at rows r-2..=r, columns c-2..=c within the grid
module _ (rows cols r c : ℕ) (r< : r < rows) (c< : c < cols) where
  -- place i * 3 + j of the nine
  has : (i j : ℕ) → i < 3 → j < 3 → box_has rows cols r c (i * 3 + j) ≡ leb (2 - r) i && leb (2 - c) j
  has i j hi hj =
      rw (row_of i hj, col-of i hj, lt-ltb (r + i - 2) rows (omega arith), lt-ltb (c + j - 2) cols (omega arith), from r i, from c j) (four (leb (2 - r) i) (leb (2 - c) j))
    where
      from : (x n : ℕ) → leb 2 (x + n) ≡ leb (2 - x) n
      from x n =
          same_test (leb 2 (x + n)) (leb (2 - x) n)
          (λ e. let h : 2 ≤ x + n = leb-true 2 (x + n) e in le-leb (2 - x) n (omega arith))
          (λ e. let h : 2 - x ≤ n = leb-true (2 - x) n e in le-leb 2 (x + n) (omega arith))

      four : (a b : Bool) → (a && true && b && true) ≡ a && b
      four true true = refl
      four true false = refl
      four false b = refl

  cell : (i j : ℕ) → i < 3 → j < 3 → box_cell cols r c (i * 3 + j) ≡ place_in cols r c i j
  cell i j hi hj = rw (row_of i hj, col-of i hj)

  row_is : (i : ℕ) → i < 3 → those 3 (λ j. box_has rows cols r c (i * 3 + j)) (λ j. box_cell cols r c (i * 3 + j)) ≡ pick (leb (2 - r) i) (box_row cols r c i) []
  unfolding box_row
  row_is i hi =
      those-ext 3 _ (λ j. leb (2 - r) i && leb (2 - c) j) _ (place_in cols r c i) (λ j hj. has i j hi hj) (λ j hj. cell i j hi hj)
      ∙ by-test (leb (2 - r) i) (λ e. rw e) (λ e. rw e (those-empty 3 _ _ (λ k h. refl)))

  pub box-is : box_cells rows cols r c ≡ box_rows 3 cols r c
  unfolding box_cells box_rows
  box-is =
      those-append 6 3 (box_has rows cols r c) (box_cell cols r c)
      ∙ rw (those-append 3 3 (box_has rows cols r c) (box_cell cols r c), those-append 0 3 (box_has rows cols r c) (box_cell cols r c), row_is 0 (omega arith), row_is 1 (omega arith), row_is 2 (omega arith), those-none (box_has rows cols r c) (box_cell cols r c))
