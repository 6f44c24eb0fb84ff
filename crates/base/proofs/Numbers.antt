-- Laws of numbers that planes need: the index law, a cell's row and column, bounds of products, ranges.
-- Assumes nothing.
use Prim.Native.Nat.{ℕ, zero, suc, ◌+◌, ◌*◌, ◌/◌, ◌%◌, ◌<◌, ◌≤◌}
use mathlib.Core.Path.{◌≡◌}
use mathlib.Core.Bool.{true, false}
use native.Mathlib.Nat.{le_trans, mul-le-mul_right, mul-le-mul_left, div-lt_iff_lt-mul, mod-lt, div-add-mod', suc-mul}
use native.Mathlib.Omega.{arith}
use lib.Arith.{digits_lt, digits_div, digits_mod}
use lib.Dec.{leb, ltb}
use borrow.Author.Tests.{leb-true, le-leb, lt-leb, ltb-true, ltb-false}
use Rattle.base.specs.Counting.{within}
use mathlib.Core.Logic.{◌⊎◌, inl, inr}
use Rattle.base.proofs.Bools.{and_left, and_right, and_both, and-no-left, and-no-right, by-test}

-- the index law of a plane
pub cell-lt : {r c rows cols : ℕ} → r < rows → c < cols → r * cols + c < rows * cols
cell-lt h k = digits_lt h k

-- the row and the column of a cell's entry
pub row_of : (r : ℕ) {c cols : ℕ} → c < cols → (r * cols + c) / cols ≡ r
row_of r {c} {cols} h = digits_div r {m = cols} {r = c} h

pub col-of : (r : ℕ) {c cols : ℕ} → c < cols → (r * cols + c) % cols ≡ c
col-of r {c} {cols} h = digits_mod r {m = cols} {r = c} h

-- a cell's entry is its row times the columns, and its column
pub cell-is : (k cols : ℕ) → k / cols * cols + k % cols ≡ k
cell-is k cols = div-add-mod' k cols

pub row_lt : (k rows cols : ℕ) → 0 < cols → k < rows * cols → k / cols < rows
row_lt k rows cols p h = (div-lt_iff_lt-mul {x = k} {y = rows} p).1 h

pub col-lt : (k cols : ℕ) → 0 < cols → k % cols < cols
col-lt k cols p = mod-lt k p

-- a cell of a grid shows that there is a column; its row and its column
some-columns : (k rows cols : ℕ) → k < rows * cols → 0 < cols
some-columns k rows zero h = absurd (none h)
  where
    none : k < rows * 0 → ⊥
    none h = omega arith
some-columns k rows (suc cols) h = omega arith

pub row_in : (k rows cols : ℕ) → k < rows * cols → k / cols < rows
row_in k rows cols h = row_lt k rows cols (some-columns k rows cols h) h

pub col-in : (k rows cols : ℕ) → k < rows * cols → k % cols < cols
col-in k rows cols h = col-lt k cols (some-columns k rows cols h)

-- a row ends before a later one begins
pub rows_apart : {a b : ℕ} (wide : ℕ) → a < b → a * wide + wide ≤ b * wide
rows_apart {a} {b} wide h = let up : suc a * wide ≤ b * wide = mul-le-mul_right wide h in omega (arith, suc-mul a wide)

pub mul-le : {a b m n : ℕ} → a ≤ m → b ≤ n → a * b ≤ m * n
mul-le {a} {b} {m} {n} p q = le_trans (mul-le-mul_right b p) (mul-le-mul_left m q)

-- lo ≤ n ≤ hi, both ways, and where it fails
pub within_low : (lo hi n : ℕ) → within lo hi n ≡ true → lo ≤ n
unfolding within
within_low lo hi n e = leb-true lo n (and_left (leb lo n) (leb n hi) e)

pub within-high : (lo hi n : ℕ) → within lo hi n ≡ true → n ≤ hi
unfolding within
within-high lo hi n e = leb-true n hi (and_right (leb lo n) (leb n hi) e)

pub within-is : (lo hi n : ℕ) → lo ≤ n → n ≤ hi → within lo hi n ≡ true
unfolding within
within-is lo hi n p q = and_both (leb lo n) (leb n hi) (le-leb lo n p) (le-leb n hi q)

pub within-under : (lo hi n : ℕ) → n < lo → within lo hi n ≡ false
unfolding within
within-under lo hi n h = and-no-left (leb lo n) (leb n hi) (lt-leb lo n h)

pub within-over : (lo hi n : ℕ) → hi < n → within lo hi n ≡ false
unfolding within
within-over lo hi n h = and-no-right (leb lo n) (leb n hi) (lt-leb n hi h)

pub lt-or-le : (a b : ℕ) → (a < b) ⊎ (b ≤ a)
lt-or-le a b = by-test (ltb a b) (λ e. inl (ltb-true a b e)) (λ e. inr (ltb-false a b e))
