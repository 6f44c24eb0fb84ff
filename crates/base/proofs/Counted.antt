-- Laws of `every`, `some`, `tally`, `sum` and `first`. For each: what it says at a number, one number more (as a loop counts), equal
-- tests give equal answers. `..-stop`, `..-next` and `..-done` answer a loop that leaves at the first hit.
-- Assumes nothing.
use Prim.Native.Nat.{ℕ, zero, suc, ◌+◌, ◌<◌, ◌≤◌}
use mathlib.Core.Path.{◌≡◌, refl, sym, ◌∙◌, ap, subst}
use mathlib.Core.Bool.{Bool, true, false, ◌&&◌, ◌||◌}
use mathlib.Core.Logic.{⊎_elim, ◌≢◌}
use native.Mathlib.Nat.{not-suc-le-zero, le_of_suc-le-suc, eq-or-lt_of_le, lt-suc_self, le_step}
use native.Mathlib.Numerals.{add-one}
use native.Mathlib.Omega.{arith}
use Rattle.base.specs.Counting.{pick, every, some, sum, tally, first}
use Rattle.base.proofs.Bools.{and_left, and_right, and_both, and-no-left, and-no-right, or_right, never, by-test, pick_yes, pick_no}

-- below n + 1: at n, or below n
last : {n : ℕ} (P : ℕ → Type 0) → P n → (k : ℕ) → k < suc n → (k < n → P k) → P k
last P here k l below = ⊎_elim (λ e. subst P (sym e) here) below (eq-or-lt_of_le (le_of_suc-le-suc l))

module _ (f : ℕ → Bool) where
  pub every-none : every 0 f ≡ true
  unfolding every
  every-none = refl

  pub every_more : (n : ℕ) → every (n + 1) f ≡ (every n f && f n)
  unfolding every
  every_more n = rw add-one

  pub every-at : (n : ℕ) → every n f ≡ true → (k : ℕ) → k < n → f k ≡ true
  unfolding every
  every-at zero e k l = absurd (not-suc-le-zero l)
  every-at (suc n) e k l = last (λ i. f i ≡ true) (and_right (every n f) (f n) e) k l (every-at n (and_left (every n f) (f n) e) k)

  pub every-is : (n : ℕ) → ((k : ℕ) → k < n → f k ≡ true) → every n f ≡ true
  unfolding every
  every-is zero h = refl
  every-is (suc n) h = and_both (every n f) (f n) (every-is n (λ k l. h k (le_step l))) (h n (lt-suc_self n))

  pub every-not : (n k : ℕ) → k < n → f k ≡ false → every n f ≡ false
  unfolding every
  every-not zero k l e = absurd (not-suc-le-zero l)
  every-not (suc n) k l e =
      ⊎_elim (λ q. and-no-right (every n f) (f n) (subst (λ (i : ℕ). f i ≡ false) q e))
      (λ lt. and-no-left (every n f) (f n) (every-not n k lt e))
      (eq-or-lt_of_le (le_of_suc-le-suc l))

  pub every-stop : {n i : ℕ} → i < n → f i ≡ false → false ≡ every n f
  every-stop {n} {i} l e = sym (every-not n i l e)

  pub every-next : {i : ℕ} → every i f ≡ true → f i ≡ true → every (i + 1) f ≡ true
  every-next {i} h e = every_more i ∙ and_both (every i f) (f i) h e

  pub every-done : {n i : ℕ} {r : Bool} → i ≤ n → n ≤ i → r ≡ every i f → r ≡ every n f
  every-done {n} {i} a b h = let e : i ≡ n = omega arith in h ∙ ap (λ (m : ℕ). every m f) e

  pub some-none : some 0 f ≡ false
  unfolding some
  some-none = refl

  pub some_more : (n : ℕ) → some (n + 1) f ≡ (some n f || f n)
  unfolding some
  some_more n = rw add-one

  pub some_is : (n k : ℕ) → k < n → f k ≡ true → some n f ≡ true
  unfolding some
  some_is zero k l e = absurd (not-suc-le-zero l)
  some_is (suc n) k l e =
      ⊎_elim (λ q. or_right (some n f) (f n) (subst (λ (i : ℕ). f i ≡ true) q e))
      (λ lt. ap (λ (b : Bool). b || f n) (some_is n k lt e))
      (eq-or-lt_of_le (le_of_suc-le-suc l))

  pub some_at : (n : ℕ) → some n f ≡ true → (k : ℕ) × (k < n) × (f k ≡ true)
  unfolding some
  some_at zero e = never false e refl
  some_at (suc n) e = split (some n f) e (some_at n)
    where
      split : (b : Bool) → (b || f n) ≡ true → (b ≡ true → (k : ℕ) × (k < n) × (f k ≡ true)) → (k : ℕ) × (k < suc n) × (f k ≡ true)
      split true q r = let w = r refl in (w.0, le_step w.1, w.2)
      split false q r = (n, lt-suc_self n, q)

  pub some-stop : {n i : ℕ} → i < n → f i ≡ true → true ≡ some n f
  some-stop {n} {i} l e = sym (some_is n i l e)

  pub some_next : {i : ℕ} → some i f ≡ false → f i ≡ false → some (i + 1) f ≡ false
  some_next {i} h e = rw (some_more i, h) e

  pub some-done : {n i : ℕ} {r : Bool} → i ≤ n → n ≤ i → r ≡ some i f → r ≡ some n f
  some-done {n} {i} a b h = let e : i ≡ n = omega arith in h ∙ ap (λ (m : ℕ). some m f) e

  pub tally-more : (n : ℕ) → tally (n + 1) f ≡ tally n f + pick (f n) 1 0
  unfolding tally
  tally-more n = rw add-one

  pub tally-le : (n : ℕ) → tally n f ≤ n
  unfolding tally
  tally-le zero = omega arith
  tally-le (suc n) = by-test (f n) (λ e. rw e (omega (arith, tally-le n))) (λ e. rw e (omega (arith, tally-le n)))

  pub tally-all : (n : ℕ) → ((k : ℕ) → k < n → f k ≡ true) → tally n f ≡ n
  unfolding tally
  tally-all zero h = refl
  tally-all (suc n) h = rw (h n (lt-suc_self n)) (omega (arith, tally-all n (λ k l. h k (le_step l))))

module _ (f g : ℕ → Bool) where
  pub every-ext : (n : ℕ) → ((k : ℕ) → k < n → f k ≡ g k) → every n f ≡ every n g
  unfolding every
  every-ext zero h = refl
  every-ext (suc n) h = rw (every-ext n (λ k l. h k (le_step l)), h n (lt-suc_self n))

  pub some-ext : (n : ℕ) → ((k : ℕ) → k < n → f k ≡ g k) → some n f ≡ some n g
  unfolding some
  some-ext zero h = refl
  some-ext (suc n) h = rw (some-ext n (λ k l. h k (le_step l)), h n (lt-suc_self n))

  pub tally-ext : (n : ℕ) → ((k : ℕ) → k < n → f k ≡ g k) → tally n f ≡ tally n g
  unfolding tally
  tally-ext zero h = refl
  tally-ext (suc n) h = rw (tally-ext n (λ k l. h k (le_step l)), h n (lt-suc_self n))

  -- f holds only where g does
  pub tally-less : (n : ℕ) → ((k : ℕ) → k < n → f k ≡ true → g k ≡ true) → tally n f ≤ tally n g
  unfolding tally
  tally-less zero h = omega arith
  tally-less (suc n) h =
      let a : tally n f ≤ tally n g = tally-less n (λ k l. h k (le_step l)) in
      by-test (f n)
      (λ e. let b : g n ≡ true = h n (lt-suc_self n) e in rw (e, b) (omega arith))
      (λ e. rw e (omega arith))

-- f holds only where g does, and once not there
pub tally-fewer : (f g : ℕ → Bool) (n k : ℕ) → k < n → f k ≡ false → g k ≡ true → ((i : ℕ) → i < n → f i ≡ true → g i ≡ true) → tally n f < tally n g
unfolding tally
tally-fewer f g zero k l off on h = absurd (not-suc-le-zero l)
tally-fewer f g (suc n) k l off on h =
    ⊎_elim
    (λ q.
    let here : f n ≡ false = subst (λ (i : ℕ). f i ≡ false) q off in
    let there : g n ≡ true = subst (λ (i : ℕ). g i ≡ true) q on in
    rw (here, there) (omega (arith, tally-less f g n (λ i b. h i (le_step b)))))
    (λ below.
    let less : tally n f < tally n g = tally-fewer f g n k below off on (λ i b. h i (le_step b)) in
    by-test (f n)
    (λ e. let t : g n ≡ true = h n (lt-suc_self n) e in rw (e, t) (omega arith))
    (λ e. rw e (omega arith)))
    (eq-or-lt_of_le (le_of_suc-le-suc l))

-- one turn of a loop that counts, and its end
pub tally-turn : {n sofar here : ℕ} {test : Bool} (f : ℕ → Bool) → sofar ≡ tally n f → test ≡ f n → here ≡ pick test 1 0 → sofar + here ≡ tally (n + 1) f
tally-turn {n} f p q e = rw (p, e, q) (sym (tally-more f n))

pub tally-done : {n i r : ℕ} (f : ℕ → Bool) → i ≤ n → n ≤ i → r ≡ tally i f → r ≡ tally n f
tally-done {n} {i} f a b h = let e : i ≡ n = omega arith in h ∙ ap (λ (m : ℕ). tally m f) e

-- the first number of which f holds
pub first-none : (f : ℕ → Bool) (n : ℕ) → ((k : ℕ) → k < n → f k ≡ false) → first n f ≡ n
unfolding first
first-none f zero h = refl
first-none f (suc n) h = pick_no (f 0) 0 _ (h 0 (omega arith)) ∙ ap suc (first-none (λ k. f (suc k)) n (λ k l. h (suc k) (omega arith)))

pub first-is : (f : ℕ → Bool) (n k : ℕ) → k < n → f k ≡ true → ((j : ℕ) → j < k → f j ≡ false) → first n f ≡ k
unfolding first
first-is f zero k l e h = absurd (not-suc-le-zero l)
first-is f (suc n) zero l e h = pick_yes (f 0) 0 _ e
first-is f (suc n) (suc k) l e h =
    pick_no (f 0) 0 _ (h 0 (omega arith))
    ∙ ap suc (first-is (λ j. f (suc j)) n k (le_of_suc-le-suc l) e (λ j b. h (suc j) (omega arith)))

-- what `first` says: f holds there where it is below n, and of no number before it
pub first_holds : (f : ℕ → Bool) (n : ℕ) → first n f < n → f (first n f) ≡ true
unfolding first
first_holds f zero l = absurd (not-suc-le-zero l)
first_holds f (suc n) l =
    by-test (f 0)
    (λ e. ap f (pick_yes (f 0) 0 _ e) ∙ e)
    (λ e. let p = pick_no (f 0) 0 (suc (first n (λ k. f (suc k)))) e in ap f p ∙ first_holds (λ k. f (suc k)) n (omega arith))

pub first-before : (f : ℕ → Bool) (n k : ℕ) → k < first n f → f k ≡ false
unfolding first
first-before f zero k l = absurd (not-suc-le-zero l)
first-before f (suc n) k l =
    by-test (f 0)
    (λ e. absurd (out k (pick_yes (f 0) 0 (suc (first n (λ k. f (suc k)))) e) l))
    (λ e. at k e (λ j b. first-before (λ k. f (suc k)) n j b) (pick_no (f 0) 0 (suc (first n (λ k. f (suc k)))) e) l)
  where
    out : (k : ℕ) {m : ℕ} → m ≡ 0 → k < m → ⊥
    out k p l = omega arith

    at : (k : ℕ) {m r : ℕ} → f 0 ≡ false → ((j : ℕ) → j < r → f (suc j) ≡ false) → m ≡ suc r → k < m → f k ≡ false
    at zero e ih p l = e
    at (suc k) e ih p l = ih k (omega arith)

-- sums
module _ (f g : ℕ → ℕ) where
  pub sum-ext : (n : ℕ) → ((k : ℕ) → k < n → f k ≡ g k) → sum n f ≡ sum n g
  unfolding sum
  sum-ext zero h = refl
  sum-ext (suc n) h = rw (sum-ext n (λ k l. h k (le_step l)), h n (lt-suc_self n))

-- a sum of which one term changed
pub sum_one : (n k x : ℕ) (f g : ℕ → ℕ) → k < n → g k ≡ f k + x → ((j : ℕ) → j < n → j ≢ k → g j ≡ f j) → sum n g ≡ sum n f + x
unfolding sum
sum_one zero k x f g l e h = absurd (not-suc-le-zero l)
sum_one (suc n) k x f g l e h =
    ⊎_elim
    (λ q.
    let a : sum n g ≡ sum n f = sum-ext g f n (λ j b. h j (le_step b) (λ r. below j b r q)) in
    let c : g n ≡ f n + x = subst (λ (i : ℕ). g i ≡ f i + x) q e in
    omega arith)
    (λ lt.
    let a : sum n g ≡ sum n f + x = sum_one n k x f g lt e (λ j b r. h j (le_step b) r) in
    let c : g n ≡ f n = h n (lt-suc_self n) (λ r. above r lt) in
    omega arith)
    (eq-or-lt_of_le (le_of_suc-le-suc l))
  where
    below : (j : ℕ) → j < n → j ≡ k → k ≡ n → ⊥
    below j b r q = omega arith

    above : n ≡ k → k < n → ⊥
    above r b = omega arith
