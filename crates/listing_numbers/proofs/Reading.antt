-- Laws of reading a text, as the code meets them: what each exit of a step answers, what one byte more makes of the count and of the
-- store, and that two bytes make at most one number.
-- Assumes nothing.
use Prim.Native.Nat.{ℕ, zero, suc, ◌+◌, ◌<◌, ◌≤◌}
use mathlib.Core.Path.{◌≡◌, refl, sym, ◌∙◌, ap, subst}
use mathlib.Core.Bool.{Bool, true, false, ◌&&◌, ◌||◌, or_comm, or_assoc}
use mathlib.Core.List.{List, [], ◌∷◌, ◌++◌}
use native.Mathlib.Numerals.{add-one}
use native.Mathlib.Omega.{arith}
use lib.Dec.{leb}
use lib.ListN.{length, get_or, set, take, drop, length-append, take-append-drop}
use lib.Seq.{take-suc, take_all, drop-cons, append_snoc, set_at}
use Rattle.std.specs.Prelude.{Option, Some, None, Ok, Err}
use borrow.Author.Tests.{lt-leb, le-leb}
use Rattle.std.specs.List.{list_any}
use Rattle.base.specs.Counting.{pick, some, within}
use Rattle.base.specs.Refusal.{Gives}
use Rattle.base.specs.Tables.{fold}
use Rattle.base.proofs.Bools.{and_both, and-no-left, and-no-right, by-test}
use Rattle.base.proofs.Numbers.{within-is}
use Rattle.base.proofs.Tabled.{fold-append, fold-last}
use Rattle.listing_numbers.specs.Decimals.{Reading, spoilt, between, inside, is_blank, with_digit, grows, grown, after, bad, numbers, ended, reading, numbers_in, parsed_into, over, numbers_stored}
use Rattle.listing_numbers.specs.States.{state_of, grown_state, next_state, bytes_read, found_by, held, entries, begun, Fits}
use Rattle.listing_numbers.specs.Input.{max_input, max_number, input_blanks, input_text}
use Rattle.listing_numbers.specs.declared.ParseError.TheVariants as ParseError·
use Rattle.listing_numbers.specs.declared.State.{State}
use Rattle.listing_numbers.specs.declared.State.TheVariants.{Spoilt, Between, Inside}

ap-pick : {A B : Type 0} (f : A → B) (t : Bool) (x y : A) → f (pick t x y) ≡ pick t (f x) (f y)
ap-pick f true x y = refl
ap-pick f false x y = refl

-- what is asked of each element of a list, by the library's test and by its entries
some-front : (n : ℕ) (f : ℕ → Bool) → some (suc n) f ≡ (f 0 || some n (λ k. f (suc k)))
unfolding some
some-front zero f = or_comm false (f 0)
some-front (suc n) f = ap (λ (b : Bool). b || f (suc n)) (some-front n f) ∙ or_assoc (f 0) (some n (λ k. f (suc k))) (f (suc n))

pub any-is : (t : ℕ → Bool) (l : List ℕ) → list_any t l ≡ some (length l) (λ k. t (get_or l k 0))
unfolding some
any-is t [] = refl
any-is t (b ∷ l) = ap (λ (r : Bool). t b || r) (any-is t l) ∙ sym (some-front (length l) (λ k. t (get_or (b ∷ l) k 0)))

-- ---- a digit more
module _ (limit k n b : ℕ) where
  grows-not : grows limit n b ≡ false → Spoilt ≡ grown_state limit k n b
  grows-not e = rw e

  pub below-digits : b < 48 → Spoilt ≡ grown_state limit k n b
  unfolding grows within
  below-digits h = grows-not (and-no-left (within 48 57 b) (leb (with_digit n b) limit) (and-no-left (leb 48 b) (leb b 57) (lt-leb 48 b h)))

  pub above-digits : 57 < b → Spoilt ≡ grown_state limit k n b
  unfolding grows within
  above-digits h = grows-not (and-no-left (within 48 57 b) (leb (with_digit n b) limit) (and-no-right (leb 48 b) (leb b 57) (lt-leb b 57 h)))

  pub too_large : (m : ℕ) → m ≡ with_digit n b → limit < m → Spoilt ≡ grown_state limit k n b
  unfolding grows
  too_large m e h = grows-not (and-no-right (within 48 57 b) (leb (with_digit n b) limit) (lt-leb (with_digit n b) limit (rw (← e) h)))

  pub a-digit : (m : ℕ) → 48 ≤ b → b ≤ 57 → m ≡ with_digit n b → m ≤ limit → Inside k m ≡ grown_state limit k n b
  unfolding grows
  a-digit m p q e h =
      let t : (within 48 57 b && leb (with_digit n b) limit) ≡ true
      = and_both (within 48 57 b) (leb (with_digit n b) limit) (within-is 48 57 b p q) (le-leb (with_digit n b) limit (rw (← e) h)) in
      rw (t, e)

-- ---- a byte more
module _ (blanks : List ℕ) (limit : ℕ) where
  module _ (s : State) (b : ℕ) where
    pub next-spoilt : s ≡ Spoilt → Spoilt ≡ next_state blanks limit s b
    unfolding next_state
    next-spoilt e = rw e

    pub next-blank : (k : ℕ) → s ≡ Between k → is_blank blanks b ≡ true → Between k ≡ next_state blanks limit s b
    unfolding next_state
    next-blank k e t = rw (e, t)

    pub next-first : (k : ℕ) (t : State) → s ≡ Between k → is_blank blanks b ≡ false → t ≡ grown_state limit k 0 b → t ≡ next_state blanks limit s b
    unfolding next_state
    next-first k t e f g = rw (e, f) g

    pub next-end : (k n : ℕ) → s ≡ Inside k n → is_blank blanks b ≡ true → Between (k + 1) ≡ next_state blanks limit s b
    unfolding next_state
    next-end k n e t = rw (e, t)

    pub next-digit : (k n : ℕ) (t : State) → s ≡ Inside k n → is_blank blanks b ≡ false → t ≡ grown_state limit k n b → t ≡ next_state blanks limit s b
    unfolding next_state
    next-digit k n t e f g = rw (e, f) g

  -- the code's step is the definition's
  state-after : (r : Reading) (b : ℕ) → state_of (after blanks limit r b) ≡ next_state blanks limit (state_of r) b
  unfolding after next_state
  state-after spoilt b = refl
  state-after (between ns) b =
      ap-pick state_of (is_blank blanks b) (between ns) (grown limit ns 0 b)
      ∙ ap (pick (is_blank blanks b) (Between (length ns))) (ap-pick state_of (grows limit 0 b) (inside ns (with_digit 0 b)) spoilt)
  state-after (inside ns n) b =
      ap-pick state_of (is_blank blanks b) (between (ns ++ n ∷ [])) (grown limit ns n b)
      ∙ ap (λ (k : ℕ). pick (is_blank blanks b) (Between k) (state_of (grown limit ns n b))) (length-append ns (n ∷ []))
      ∙ ap (pick (is_blank blanks b) (Between (length ns + 1))) (ap-pick state_of (grows limit n b) (inside ns (with_digit n b)) spoilt)

  bytes-grown : (k n b : ℕ) → bytes_read (grown_state limit k n b) ≤ k + k + 1
  bytes-grown k n b = by-test (grows limit n b) (λ e. rw e (omega arith)) (λ e. rw e (omega arith))

  bytes_next : (s : State) (b : ℕ) → bytes_read (next_state blanks limit s b) ≤ bytes_read s + 1
  unfolding next_state
  bytes_next Spoilt b = omega arith
  bytes_next (Between k) b = by-test (is_blank blanks b) (λ e. rw e (omega arith)) (λ e. rw e (bytes-grown k 0 b))
  bytes_next (Inside k n) b = by-test (is_blank blanks b) (λ e. rw e (omega arith)) (λ e. rw e (omega (arith, bytes-grown k n b)))

  reading-more : (text : List ℕ) (i : ℕ) → i < length text
      → reading blanks limit (take (i + 1) text) ≡ after blanks limit (reading blanks limit (take i text)) (get_or text i 0)
  unfolding reading
  reading-more text i h =
      ap (fold (after blanks limit) (between [])) (ap (λ (k : ℕ). take k text) (add-one i) ∙ take-suc text i 0 h)
      ∙ fold-last (after blanks limit) (between []) (take i text) (get_or text i 0)

  reading-rest : (text : List ℕ) (i : ℕ) → reading blanks limit text ≡ fold (after blanks limit) (reading blanks limit (take i text)) (drop i text)
  unfolding reading
  reading-rest text i =
      ap (fold (after blanks limit) (between [])) (sym (take-append-drop i text))
      ∙ fold-append (after blanks limit) (between []) (take i text) (drop i text)

  -- ---- the loop that counts: s is what the first i bytes make
  pub record Counted (text : List ℕ) (i : ℕ) (s : State) : Type 0 where
    pub within : i ≤ length text
    pub is : s ≡ state_of (reading blanks limit (take i text))
    pub few : bytes_read s ≤ i

  pub counted_none : (text : List ℕ) → Counted text 0 (Between 0)
  unfolding reading fold
  counted_none text = record { within = omega arith; is = refl; few = omega arith }

  pub counted-turn : {i : ℕ} {s : State} (text : List ℕ) (t : State) → Counted text i s → i < length text → t ≡ next_state blanks limit s (get_or text i 0)
      → Counted text (i + 1) t
  counted-turn {i} {s} text t c h e =
      record {
        within = omega arith;
        is = e ∙ ap (λ (q : State). next_state blanks limit q (get_or text i 0)) c.is ∙ sym (state-after (reading blanks limit (take i text)) (get_or text i 0))
            ∙ ap state_of (sym (reading-more text i h));
        few = rw e (omega (arith, bytes_next s (get_or text i 0), c.few));
      }

  pub counted-all : {i : ℕ} {s : State} (text : List ℕ) → Counted text i s → length text ≤ i → s ≡ state_of (reading blanks limit text)
  counted-all {i} text c h = c.is ∙ ap (λ (l : List ℕ). state_of (reading blanks limit l)) (take_all i text h)

  few-more : (r : Reading) (l : List ℕ) → bytes_read (state_of (fold (after blanks limit) r l)) ≤ bytes_read (state_of r) + length l
  unfolding fold
  few-more r [] = omega arith
  few-more r (b ∷ l) =
      let one : bytes_read (state_of (after blanks limit r b)) ≤ bytes_read (state_of r) + 1 = rw (state-after r b) (bytes_next (state_of r) b) in
      omega (arith, few-more (after blanks limit r b) l)

  pub reading-few : (text : List ℕ) → bytes_read (state_of (reading blanks limit text)) ≤ length text
  unfolding reading
  reading-few text = omega (arith, few-more (between []) text)

  -- ---- the store
  fits-grown : (room : ℕ) (ns : List ℕ) (n b : ℕ) → Fits room (grown limit ns n b) → length ns < room
  fits-grown room ns n b = go (grows limit n b)
    where
      go : (t : Bool) → Fits room (pick t (inside ns (with_digit n b)) spoilt) → length ns < room
      go true f = f
      go false f = absurd f

  fits-before : (room : ℕ) (r : Reading) (b : ℕ) → Fits room (after blanks limit r b) → Fits room r
  unfolding after
  fits-before room spoilt b f = f
  fits-before room (between ns) b f = go (is_blank blanks b) f
    where
      go : (t : Bool) → Fits room (pick t (between ns) (grown limit ns 0 b)) → length ns ≤ room
      go true g = g
      go false g = omega (arith, fits-grown room ns 0 b g)
  fits-before room (inside ns n) b f = go (is_blank blanks b) f
    where
      go : (t : Bool) → Fits room (pick t (between (ns ++ n ∷ [])) (grown limit ns n b)) → length ns < room
      go true g = omega (arith, length-append ns (n ∷ []))
      go false g = fits-grown room ns n b g

  fits_all : (room : ℕ) (r : Reading) (l : List ℕ) → Fits room (fold (after blanks limit) r l) → Fits room r
  unfolding fold
  fits_all room r [] f = f
  fits_all room r (b ∷ l) f = fits-before room r b (fits_all room (after blanks limit r b) l f)

  fits-part : (room : ℕ) (text : List ℕ) (i : ℕ) → Fits room (reading blanks limit text) → Fits room (reading blanks limit (take i text))
  fits-part room text i f = fits_all room (reading blanks limit (take i text)) (drop i text) (subst (Fits room) (reading-rest text i) f)

  entries_fit : (room : ℕ) (r : Reading) → Fits room r → entries (state_of r) ≤ room
  entries_fit room spoilt f = absurd f
  entries_fit room (between ns) f = f
  entries_fit room (inside ns n) f = omega arith

  -- a number begun, and one with a digit more
  over_first : (ns d : List ℕ) (n : ℕ) → length ns < length d → set (over ns d) (length ns) n ≡ over (ns ++ n ∷ []) d
  unfolding over
  over_first ns d n h =
      ap (λ (l : List ℕ). set (ns ++ l) (length ns) n) (drop-cons d (length ns) 0 h)
      ∙ set_at ns (get_or d (length ns) 0) (drop (suc (length ns)) d) n (length ns) refl
      ∙ sym (append_snoc ns n (drop (suc (length ns)) d))
      ∙ ap (λ (k : ℕ). (ns ++ n ∷ []) ++ drop k d) (sym (length-append ns (n ∷ []) ∙ add-one (length ns)))

  over-again : (ns d : List ℕ) (m n : ℕ) → set (over (ns ++ m ∷ []) d) (length ns) n ≡ over (ns ++ n ∷ []) d
  unfolding over
  over-again ns d m n =
      ap (λ (l : List ℕ). set l (length ns) n) (append_snoc ns m (drop (length (ns ++ m ∷ [])) d))
      ∙ set_at ns m (drop (length (ns ++ m ∷ [])) d) n (length ns) refl
      ∙ sym (append_snoc ns n (drop (length (ns ++ m ∷ [])) d))
      ∙ ap (λ (k : ℕ). (ns ++ n ∷ []) ++ drop k d) (length-append ns (m ∷ []) ∙ sym (length-append ns (n ∷ [])))

  hold-turn : (d : List ℕ) (r : Reading) (b : ℕ) → Fits (length d) (after blanks limit r b)
      → held (state_of (after blanks limit r b)) (over (begun r) d) ≡ over (begun (after blanks limit r b)) d
  unfolding after
  hold-turn d spoilt b f = absurd f
  hold-turn d (between ns) b f = go (is_blank blanks b) (grows limit 0 b) f
    where
      go : (t u : Bool) → Fits (length d) (pick t (between ns) (pick u (inside ns (with_digit 0 b)) spoilt))
          → held (state_of (pick t (between ns) (pick u (inside ns (with_digit 0 b)) spoilt))) (over ns d)
          ≡ over (begun (pick t (between ns) (pick u (inside ns (with_digit 0 b)) spoilt))) d
      go true u g = refl
      go false true g = over_first ns d (with_digit 0 b) g
      go false false g = absurd g
  hold-turn d (inside ns n) b f = go (is_blank blanks b) (grows limit n b) f
    where
      go : (t u : Bool) → Fits (length d) (pick t (between (ns ++ n ∷ [])) (pick u (inside ns (with_digit n b)) spoilt))
          → held (state_of (pick t (between (ns ++ n ∷ [])) (pick u (inside ns (with_digit n b)) spoilt))) (over (ns ++ n ∷ []) d)
          ≡ over (begun (pick t (between (ns ++ n ∷ [])) (pick u (inside ns (with_digit n b)) spoilt))) d
      go true u g = refl
      go false true g = over-again ns d n (with_digit n b)
      go false false g = absurd g

  -- ---- the loop that stores
  pub record Kept (text d : List ℕ) (i : ℕ) (s : State) (x : List ℕ) : Type 0 where
    pub counted : Counted text i s
    pub same : length x ≡ length d
    pub holds : x ≡ over (begun (reading blanks limit (take i text))) d

  pub kept-none : (text d : List ℕ) → Kept text d 0 (Between 0) d
  unfolding reading fold over
  kept-none text d = record { counted = counted_none text; same = refl; holds = refl }

  pub kept-room : {i : ℕ} {s t : State} {x : List ℕ} (text d : List ℕ) → Fits (length d) (reading blanks limit text) → Kept text d i s x → i < length text
      → t ≡ next_state blanks limit s (get_or text i 0) → entries t ≤ length x
  kept-room {i} {s} {t} text d f k h e =
      rw ((counted-turn text t k.counted h e).is, k.same)
      (entries_fit (length d) (reading blanks limit (take (i + 1) text)) (fits-part (length d) text (i + 1) f))

  pub kept-turn : {i : ℕ} {s t : State} {x y : List ℕ} (text d : List ℕ) → Fits (length d) (reading blanks limit text) → Kept text d i s x → i < length text
      → t ≡ next_state blanks limit s (get_or text i 0) → y ≡ held t x → length y ≡ length x → Kept text d (i + 1) t y
  kept-turn {i} {s} {t} {x} {y} text d f k h e g n =
      let c : Counted text (i + 1) t = counted-turn text t k.counted h e in
      let m : reading blanks limit (take (i + 1) text) ≡ after blanks limit (reading blanks limit (take i text)) (get_or text i 0) = reading-more text i h in
      record {
        counted = c;
        same = n ∙ k.same;
        holds = g ∙ ap (λ (q : State). held q x) (c.is ∙ ap state_of m)
            ∙ ap (held (state_of (after blanks limit (reading blanks limit (take i text)) (get_or text i 0)))) k.holds
            ∙ hold-turn d (reading blanks limit (take i text)) (get_or text i 0) (subst (Fits (length d)) m (fits-part (length d) text (i + 1) f))
            ∙ ap (λ (r : Reading). over (begun r) d) (sym m);
      }

  pub kept-all : {i : ℕ} {s : State} {x : List ℕ} (text d : List ℕ) → Kept text d i s x → length text ≤ i → x ≡ over (begun (reading blanks limit text)) d
  kept-all {i} text d k h = k.holds ∙ ap (λ (l : List ℕ). over (begun (reading blanks limit l)) d) (take_all i text h)

-- ---- the call
found-numbers : (r : Reading) (n : ℕ) → Some n ≡ found_by (state_of r) → (ended r ≡ numbers (begun r)) × (n ≡ length (begun r))
found-numbers spoilt n e = absurd (let z : ◌≡◌ {A = ℕ} 0 1 = cc in omega arith)
found-numbers (between ns) n e = (refl, cc)
found-numbers (inside ns m) n e = let k : n ≡ length ns + 1 = cc in (refl, k ∙ sym (length-append ns (m ∷ [])))

found-fits : (r : Reading) (n room : ℕ) → Some n ≡ found_by (state_of r) → n ≤ room → Fits room r
found-fits spoilt n room e h = absurd (let z : ◌≡◌ {A = ℕ} 0 1 = cc in omega arith)
found-fits (between ns) n room e h = let k : n ≡ length ns = cc in omega arith
found-fits (inside ns m) n room e h = let k : n ≡ length ns + 1 = cc in omega arith

found-other : (r : Reading) → None ≡ found_by (state_of r) → ended r ≡ bad
found-other spoilt e = refl
found-other (between ns) e = absurd (let z : ◌≡◌ {A = ℕ} 0 1 = cc in omega arith)
found-other (inside ns n) e = absurd (let z : ◌≡◌ {A = ℕ} 0 1 = cc in omega arith)

module _ (blanks : List ℕ) (limit : ℕ) (text d : List ℕ) (f : Option ℕ) (is : f ≡ found_by (state_of (reading blanks limit text))) where
  pub parse-bad : f ≡ None → Gives (parsed_into (length d) (numbers_in blanks limit text)) (numbers_stored (numbers_in blanks limit text) d) (Err ParseError·.Bad) d
  unfolding numbers_in
  parse-bad e = rw (found-other (reading blanks limit text) (sym e ∙ is)) (record { answered = refl; leaves = refl })

  module _ (n : ℕ) (e : f ≡ Some n) where
    pub parse-full : length d < n → Gives (parsed_into (length d) (numbers_in blanks limit text)) (numbers_stored (numbers_in blanks limit text) d) (Err ParseError·.Full) d
    unfolding numbers_in
    parse-full h =
        let w = found-numbers (reading blanks limit text) n (sym e ∙ is) in
        let t : leb (length (begun (reading blanks limit text))) (length d) ≡ false = lt-leb (length (begun (reading blanks limit text))) (length d) (omega (arith, w.1)) in
        rw (w.0, t) (record { answered = refl; leaves = refl })

    pub parse-fits : n ≤ length d → Fits (length d) (reading blanks limit text)
    parse-fits h = found-fits (reading blanks limit text) n (length d) (sym e ∙ is) h

    pub parse-done : (x : List ℕ) → n ≤ length d → x ≡ over (begun (reading blanks limit text)) d
        → Gives (parsed_into (length d) (numbers_in blanks limit text)) (numbers_stored (numbers_in blanks limit text) d) (Ok n) x
    unfolding numbers_in
    parse-done x h q =
        let w = found-numbers (reading blanks limit text) n (sym e ∙ is) in
        let t : leb (length (begun (reading blanks limit text))) (length d) ≡ true = le-leb (length (begun (reading blanks limit text))) (length d) (omega (arith, w.1)) in
        rw (w.0, t) (record { answered = ap Ok w.1; leaves = q })

-- ---- the listing program's input
pub input-long : (l : List ℕ) → max_input < length l → input_text l ≡ bad
unfolding input_text
input-long l h = rw (lt-leb (length l) max_input h)

pub input-short : (l : List ℕ) → length l ≤ max_input → input_text l ≡ numbers_in input_blanks max_number l
unfolding input_text
input-short l h = rw (le-leb (length l) max_input h)
