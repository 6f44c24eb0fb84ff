-- What the definitions say: a text has at most one number to two bytes, so that 8,192 entries hold the numbers of any input; and no
-- number passes the limit.
-- Assumes nothing.
use Prim.Native.Nat.{ℕ, zero, suc, ◌+◌, ◌≤◌}
use mathlib.Core.Path.{◌≡◌, sym, ◌∙◌, subst}
use mathlib.Core.Bool.{true, ◌&&◌}
use mathlib.Core.List.{List, [], ◌∷◌, ◌++◌}
use native.Mathlib.Omega.{arith}
use lib.ListN.{length, get_or, length-append}
use borrow.Author.Tests.{leb-true, leb-false}
use lib.Dec.{leb}
use Rattle.base.specs.Counting.{within}
use Rattle.base.specs.Tables.{fold}
use Rattle.base.proofs.Bools.{and_right, by-test}
use Rattle.listing_numbers.specs.Decimals.{Reading, spoilt, between, inside, is_blank, with_digit, grows, grown, after, bad, numbers, ended, reading, numbers_in}
use Rattle.listing_numbers.specs.States.{state_of, bytes_read}
use Rattle.listing_numbers.specs.Input.{max_input, max_number, input_blanks, input_text}
use Rattle.listing_numbers.proofs.Reading.{input-short, input-long, reading-few}

-- ---- how many numbers there can be
ended-few : (r : Reading) (ns : List ℕ) → ended r ≡ numbers ns → length ns + length ns ≤ bytes_read (state_of r) + 1
ended-few spoilt ns e = absurd (let z : ◌≡◌ {A = ℕ} 0 1 = cc in omega arith)
ended-few (between ms) ns e = let q : ms ≡ ns = cc in rw (← q) (omega arith)
ended-few (inside ms n) ns e = let q : ms ++ n ∷ [] ≡ ns = cc in rw (← q) (omega (arith, length-append ms (n ∷ [])))

pub few-numbers : (blanks : List ℕ) (limit : ℕ) (text ns : List ℕ) → numbers_in blanks limit text ≡ numbers ns → length ns + length ns ≤ length text + 1
unfolding numbers_in
few-numbers blanks limit text ns e = omega (arith, ended-few (reading blanks limit text) ns e, reading-few blanks limit text)

pub input-is : (input ns : List ℕ) → input_text input ≡ numbers ns → (length input ≤ max_input) × (numbers_in input_blanks max_number input ≡ numbers ns)
input-is input ns e =
    by-test (leb (length input) max_input)
    (λ t. let h : length input ≤ max_input = leb-true (length input) max_input t in (h, sym (input-short input h) ∙ e))
    (λ t. absurd (let q : bad ≡ numbers ns = sym (input-long input (leb-false (length input) max_input t)) ∙ e in let z : ◌≡◌ {A = ℕ} 0 1 = cc in omega arith))

pub input-few : (input ns : List ℕ) → input_text input ≡ numbers ns → length ns ≤ 8192
input-few input ns e = let w = input-is input ns e in omega (arith, w.0, few-numbers input_blanks max_number input ns w.1)

-- ---- how large they can be
abbrev pub Small : ℕ → List ℕ → Type 0
Small limit ns = (k : ℕ) → get_or ns k 0 ≤ limit

small-more : (limit n : ℕ) (ns : List ℕ) → Small limit ns → n ≤ limit → Small limit (ns ++ n ∷ [])
small-more limit n [] h l zero = l
small-more limit n [] h l (suc k) = omega arith
small-more limit n (m ∷ ns) h l zero = h 0
small-more limit n (m ∷ ns) h l (suc k) = small-more limit n ns (λ i. h (suc i)) l k

abbrev SmallSoFar : ℕ → Reading → Type 0
SmallSoFar limit spoilt = Unit
SmallSoFar limit (between ns) = Small limit ns
SmallSoFar limit (inside ns n) = Small limit ns × (n ≤ limit)

small-grown : (limit : ℕ) (ns : List ℕ) (n b : ℕ) → Small limit ns → SmallSoFar limit (grown limit ns n b)
unfolding grows
small-grown limit ns n b h = by-test (grows limit n b) (λ e. rw e (h, fits e)) (λ e. rw e tt)
  where
    fits : (within 48 57 b && leb (with_digit n b) limit) ≡ true → with_digit n b ≤ limit
    fits e = leb-true (with_digit n b) limit (and_right (within 48 57 b) (leb (with_digit n b) limit) e)

small-after : (blanks : List ℕ) (limit : ℕ) (r : Reading) (b : ℕ) → SmallSoFar limit r → SmallSoFar limit (after blanks limit r b)
unfolding after
small-after blanks limit spoilt b h = tt
small-after blanks limit (between ns) b h =
    by-test (is_blank blanks b) (λ e. rw e h) (λ e. rw e (small-grown limit ns 0 b h))
small-after blanks limit (inside ns n) b h =
    by-test (is_blank blanks b) (λ e. rw e (small-more limit n ns h.0 h.1)) (λ e. rw e (small-grown limit ns n b h.0))

small_all : (blanks : List ℕ) (limit : ℕ) (r : Reading) (l : List ℕ) → SmallSoFar limit r → SmallSoFar limit (fold (after blanks limit) r l)
unfolding fold
small_all blanks limit r [] h = h
small_all blanks limit r (b ∷ l) h = small_all blanks limit (after blanks limit r b) l (small-after blanks limit r b h)

small-ended : (limit : ℕ) (r : Reading) (ns : List ℕ) → SmallSoFar limit r → ended r ≡ numbers ns → Small limit ns
small-ended limit spoilt ns h e = absurd (let z : ◌≡◌ {A = ℕ} 0 1 = cc in omega arith)
small-ended limit (between ms) ns h e = let q : ms ≡ ns = cc in subst (Small limit) q h
small-ended limit (inside ms n) ns h e = let q : ms ++ n ∷ [] ≡ ns = cc in subst (Small limit) q (small-more limit n ms h.0 h.1)

pub small-numbers : (blanks : List ℕ) (limit : ℕ) (text ns : List ℕ) → numbers_in blanks limit text ≡ numbers ns → Small limit ns
unfolding numbers_in reading
small-numbers blanks limit text ns e =
    small-ended limit (fold (after blanks limit) (between []) text) ns (small_all blanks limit (between []) text (λ k. omega arith)) e

pub input-small : (input ns : List ℕ) → input_text input ≡ numbers ns → Small max_number ns
input-small input ns e = small-numbers input_blanks max_number input ns (input-is input ns e).1
