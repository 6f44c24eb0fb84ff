-- Laws of texts, as the code meets them: digits, runs of texts, the cells of a plane; and how long texts are.
-- Assumes nothing.
use Prim.Native.Nat.{ℕ, zero, suc, ◌+◌, ◌-◌, ◌*◌, ◌/◌, ◌%◌, ◌<◌, ◌≤◌}
use mathlib.Core.Path.{◌≡◌, sym, ◌∙◌, ap}
use mathlib.Core.List.{List, [], ◌∷◌, ◌++◌}
use native.Mathlib.Nat.{suc-mul}
use native.Mathlib.Numerals.{add-one}
use native.Mathlib.Omega.{arith}
use lib.Dec.{ltb}
use lib.ListN.{length, get_or, take, length-append}
use lib.Seq.{take-suc, take_all}
use borrow.Author.Tests.{lt-ltb, le-ltb, eq-eqb, ne_eqb}
use Rattle.base.proofs.Bools.{by-test}
use Rattle.listing_lines.specs.Lines.{digits, decimal, number_line, joined, parting, cell_text, plane_text}
use Rattle.listing_lines.specs.Pages.{Prints}
use Rattle.listing_lines.proofs.Written.{writes-none, writes_then, writes_as}

-- ---- digits
module _ (k n : ℕ) where
  digits-none : k ≡ 0 → [] ≡ digits k n
  unfolding digits
  digits-none e = rw e

  digits-one : (j b : ℕ) → k ≡ suc j → n < 10 → b ≡ 48 + n % 10 → b ∷ [] ≡ digits k n
  unfolding digits
  digits-one j b e h q = rw (e, q, lt-ltb n 10 h)

  digits_more : (j b : ℕ) → k ≡ suc j → 10 ≤ n → b ≡ 48 + n % 10 → digits j (n / 10) ++ b ∷ [] ≡ digits k n
  unfolding digits
  digits_more j b e h q = rw (e, q, le-ltb n 10 h)

module _ {at : ℕ} {x : List ℕ} (k n : ℕ) where
  pub put-none : k ≡ 0 → Prints (digits k n) at x at x
  put-none e = writes_as (digits-none k n e) (writes-none at x)

  pub put_one : {b r : ℕ} {y : List ℕ} → (k ≡ 0 → ⊥) → n < 10 → b ≡ 48 + n % 10 → Prints (b ∷ []) at x r y → Prints (digits k n) at x r y
  put_one {b} h l q f = writes_as (digits-one k n (k - 1) b (omega arith) l q) f

  pub put-more : {b m r : ℕ} {w y : List ℕ} → (k ≡ 0 → ⊥) → 10 ≤ n → b ≡ 48 + n % 10
      → Prints (digits (k - 1) (n / 10)) at x m w → Prints (b ∷ []) m w r y → Prints (digits k n) at x r y
  put-more {b} h l q f g = writes_as (digits_more k n (k - 1) b (omega arith) l q) (writes_then f g)

-- ---- runs of texts
module _ {at r s : ℕ} {x y z : List ℕ} where
  pub text-turn : (l : List ℕ) (k : ℕ) → k < length l → Prints (take k l) at x r y → Prints (get_or l k 0 ∷ []) r y s z → Prints (take (k + 1) l) at x s z
  text-turn l k h f g = writes_as (sym (ap (λ (m : ℕ). take m l) (add-one k) ∙ take-suc l k 0 h)) (writes_then f g)

  pub joined-turn : (f : ℕ → List ℕ) (k : ℕ) → Prints (joined k f) at x r y → Prints (f k) r y s z → Prints (joined (k + 1) f) at x s z
  unfolding joined
  joined-turn f k p q = rw add-one (writes_then p q)

pub text-all : {at r : ℕ} {x y : List ℕ} (l : List ℕ) (k : ℕ) → length l ≤ k → Prints (take k l) at x r y → Prints l at x r y
text-all l k h f = writes_as (take_all k l h) f

pub joined-none : (f : ℕ → List ℕ) (at : ℕ) (x : List ℕ) → Prints (joined 0 f) at x at x
unfolding joined
joined-none f at x = writes-none at x

pub joined-all : {at r : ℕ} {x y : List ℕ} (f : ℕ → List ℕ) (k n : ℕ) → k ≤ n → n ≤ k → Prints (joined k f) at x r y → Prints (joined n f) at x r y
joined-all f k n h l p = let e : k ≡ n = omega arith in writes_as (ap (λ (m : ℕ). joined m f) e) p

-- ---- cells
pub gap-none : (cols k : ℕ) → cols ≡ 0 → 32 ≡ parting cols k
unfolding parting
gap-none cols k e = rw (ne_eqb (k % cols + 1) cols (λ q. omega arith))

pub gap-last : (cols k : ℕ) → k % cols + 1 ≡ cols → 10 ≡ parting cols k
unfolding parting
gap-last cols k e = rw (eq-eqb (k % cols + 1) cols e)

pub gap-inner : (cols k : ℕ) → (k % cols + 1 ≡ cols → ⊥) → 32 ≡ parting cols k
unfolding parting
gap-inner cols k h = rw (ne_eqb (k % cols + 1) cols h)

pub cell-is : {at r s b n : ℕ} {x y z : List ℕ} (least : ℕ) (plane : List ℕ) (cols k : ℕ) → n ≡ get_or plane k 0 - least → b ≡ parting cols k
    → Prints (decimal n) at x r y → Prints (b ∷ []) r y s z → Prints (cell_text least plane cols k) at x s z
unfolding cell_text
cell-is least plane cols k p q f g = writes_as (rw (p, q)) (writes_then f g)

-- ---- how long texts are
digits-length : (k n : ℕ) → length (digits k n) ≤ k
unfolding digits
digits-length zero n = omega arith
digits-length (suc k) n =
    simp length-append (by-test (ltb n 10) (λ e. rw e (omega arith)) (λ e. rw e (omega (arith, digits-length k (n / 10)))))

pub decimal-length : (n : ℕ) → length (decimal n) ≤ 10
unfolding decimal
decimal-length n = digits-length 10 n

pub line-length : (n : ℕ) → length (number_line n) ≤ 11
unfolding number_line
line-length n = simp length-append (omega (arith, decimal-length n))

pub joined_length : (m : ℕ) (f : ℕ → List ℕ) → ((k : ℕ) → length (f k) ≤ m) → (n : ℕ) → length (joined n f) ≤ n * m
unfolding joined
joined_length m f h zero = omega arith
joined_length m f h (suc n) = simp (length-append, suc-mul) (omega (arith, joined_length m f h n, h n))

pub plane-length : (least : ℕ) (plane : List ℕ) (cols : ℕ) → length (plane_text least plane cols) ≤ length plane * 11
unfolding plane_text cell_text
plane-length least plane cols =
    joined_length 11 (cell_text least plane cols) (λ k. simp length-append (omega (arith, decimal-length (get_or plane k 0 - least)))) (length plane)
