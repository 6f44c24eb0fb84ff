-- Laws of sums: of nothing, of small terms, one term more, in two parts, row by row, and of terms that are 0 outside a part of a line or of a
-- grid.
-- Assumes nothing.
use Prim.Native.Nat.{ℕ, zero, suc, ◌+◌, ◌-◌, ◌*◌, ◌<◌, ◌≤◌}
use mathlib.Core.Path.{◌≡◌, refl, sym, ◌∙◌, ap}
use native.Mathlib.Nat.{add-zero, le_step, lt-suc_self, suc-mul}
use native.Mathlib.Numerals.{add-one}
use native.Mathlib.Omega.{arith}
use Rattle.base.specs.Counting.{sum}
use Rattle.base.proofs.Counted.{sum-ext}

-- a sum of zeros, and a sum of small terms
pub sum-none : (n : ℕ) (f : ℕ → ℕ) → ((k : ℕ) → k < n → f k ≡ 0) → sum n f ≡ 0
unfolding sum
sum-none zero f h = refl
sum-none (suc n) f h = let a : sum n f ≡ 0 = sum-none n f (λ k l. h k (le_step l)) in let b : f n ≡ 0 = h n (lt-suc_self n) in omega arith

pub sum_low : (n m : ℕ) (f : ℕ → ℕ) → ((k : ℕ) → k < n → f k ≤ m) → sum n f ≤ n * m
unfolding sum
sum_low zero m f h = omega arith
sum_low (suc n) m f h =
    let a : sum n f ≤ n * m = sum_low n m f (λ k l. h k (le_step l)) in
    let b : f n ≤ m = h n (lt-suc_self n) in
    rw (suc-mul n m) (omega arith)

-- one term more, as a loop counts
pub sum_more : (n : ℕ) (f : ℕ → ℕ) → sum (n + 1) f ≡ sum n f + f n
unfolding sum
sum_more n f = rw add-one

-- the first a terms, and then the others
pub sum-split : (a b : ℕ) (f : ℕ → ℕ) → sum (a + b) f ≡ sum a f + sum b (λ i. f (a + i))
unfolding sum
sum-split a zero f = ap (λ (n : ℕ). sum n f) (add-zero a) ∙ sym (add-zero (sum a f))
sum-split a (suc b) f =
    let e : a + suc b ≡ suc (a + b) = omega arith in
    let ih : sum (a + b) f ≡ sum a f + sum b (λ i. f (a + i)) = sum-split a b f in
    ap (λ (n : ℕ). sum n f) e ∙ omega (arith, ih)

-- row by row
pub sum_rows : (rows cols : ℕ) (f : ℕ → ℕ) → sum (rows * cols) f ≡ sum rows (λ r. sum cols (λ c. f (r * cols + c)))
unfolding sum
sum_rows zero cols f = ap (λ (n : ℕ). sum n f) (zero-rows cols)
  where
    zero-rows : (cols : ℕ) → 0 * cols ≡ 0
    zero-rows cols = omega arith
sum_rows (suc rows) cols f =
    ap (λ (n : ℕ). sum n f) (suc-mul rows cols)
    ∙ sum-split (rows * cols) cols f
    ∙ ap (λ (n : ℕ). n + sum cols (λ c. f (rows * cols + c))) (sum_rows rows cols f)

-- terms that are 0 before a and from a + m on
pub sum-middle : (a m n : ℕ) (f : ℕ → ℕ) → a + m ≤ n → ((k : ℕ) → k < a → f k ≡ 0) → ((k : ℕ) → a + m ≤ k → k < n → f k ≡ 0)
    → sum n f ≡ sum m (λ i. f (a + i))
sum-middle a m n f h before past =
    let rest : ℕ = n - (a + m) in
    let all : n ≡ (a + m) + rest = omega arith in
    let low : sum a f ≡ 0 = sum-none a f before in
    let high : sum rest (λ i. f ((a + m) + i)) ≡ 0 = sum-none rest (λ i. f ((a + m) + i)) (λ k k<. past ((a + m) + k) (omega arith) (omega arith)) in
    let two : sum (a + m) f ≡ sum a f + sum m (λ i. f (a + i)) = sum-split a m f in
    ap (λ (k : ℕ). sum k f) all ∙ sum-split (a + m) rest f ∙ omega (arith, two, low, high)

-- n rows from row a on, and m columns from column b on
pub record InBox (a n b m r c : ℕ) : Type 0 where
  pub below : a ≤ r
  pub above : r < a + n
  pub after : b ≤ c
  pub before : c < b + m

-- terms that are 0 outside a part of a grid
pub sum-box : (rows cols a n b m : ℕ) (f : ℕ → ℕ) → a + n ≤ rows → b + m ≤ cols
    → ((r c : ℕ) → r < rows → c < cols → (InBox a n b m r c → ⊥) → f (r * cols + c) ≡ 0)
    → sum (rows * cols) f ≡ sum n (λ r. sum m (λ c. f ((a + r) * cols + (b + c))))
sum-box rows cols a n b m f hr hc out =
    sum_rows rows cols f
    ∙ sum-middle a n rows (λ r. sum cols (λ c. f (r * cols + c))) hr
    (λ r r<. sum-none cols (λ c. f (r * cols + c)) (λ c c<. out r c (omega arith) c< (λ i. over r< i.below)))
    (λ r r≥ r<. sum-none cols (λ c. f (r * cols + c)) (λ c c<. out r c r< c< (λ i. over i.above r≥)))
    ∙ sum-ext _ _ n
    (λ r r<.
    sum-middle b m cols (λ c. f ((a + r) * cols + c)) hc
    (λ c c<. out (a + r) c (omega arith) (omega arith) (λ i. over c< i.after))
    (λ c c≥ c<. out (a + r) c (omega arith) c< (λ i. over i.before c≥)))
  where
    over : {x y : ℕ} → x < y → y ≤ x → ⊥
    over p q = omega arith
