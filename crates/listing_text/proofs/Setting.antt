-- Laws of the set-up: a sample of sides up to 16 has 1 to 1,568 tiles, so that they fit the store and a fresh board takes them; its cells
-- as bytes are refused exactly as the numbers are, and are the numbers where nothing is refused.
-- Assumes nothing.
use Prim.Native.Nat.{ℕ, zero, suc, ◌+◌, ◌*◌, ◌%◌, ◌<◌, ◌≤◌, min}
use mathlib.Core.Path.{◌≡◌, refl, sym, ◌∙◌, ap}
use mathlib.Core.Bool.{Bool, true}
use mathlib.Core.List.{List, ◌++◌}
use native.Mathlib.Omega.{arith}
use lib.Dec.{leb, eqb}
use lib.ListN.{length, get_or, take, drop, length-take, length-drop}
use lib.Seq.{take_all, take_at, get_or-take, get_or-drop, ext_get_or}
use borrow.Author.Tests.{le-leb, leb-true, eq-eqb}
use Rattle.base.specs.Counting.{every, within}
use Rattle.base.specs.Refusal.{Checks, ◌then◌, or_else, refusal, unless_refused}
use Rattle.base.proofs.Bools.{and_both, same_test, by-test}
use Rattle.base.proofs.Numbers.{mul-le, within-is}
use Rattle.base.proofs.Counted.{every-ext}
use Rattle.base.proofs.Tabled.{length-tab, get_d-tab}
use Rattle.base.proofs.Chain.{all_pass, none-fails}
use Rattle.rules.specs.Tests.{has_length, tiles_in, tile_number_fits, whole_tiles, colour_count, entry_up_to, none_above}
use Rattle.std.specs.Prelude.{Ok, Err}
use Rattle.rules.specs.Answers.{Answer, answered, number}
use Rattle.rules.specs.declared.Refusal.{Refusal}
use Rattle.rules.proofs.Numbers.{up-to-ten, told-refusal, told-value}
use Rattle.rules.specs.Tiles.{starts_along, forms, variants, variant, distinct, extracted, store_with, sample_checks, room_check, extraction, store_after}
use Rattle.rules.specs.Promises.{Extracts}
use Rattle.check_sizes.proofs.Sides.{count_most, none_above-entry}
use Rattle.tile_forms.proofs.Variants.{turns-le, forms-le, forms-pos, variant-length}
use Rattle.tiles.proofs.Store.{with-length}
use Rattle.tiles.proofs.Meaning.{run-has}
use Rattle.listing_text.specs.Runs.{clipped}

-- ---- how many tiles
run-few : (f : ℕ → List ℕ) → ((k : ℕ) → length (f k) ≡ 9) → (n : ℕ) → (m : ℕ) × (length (distinct n f) ≡ m * 9) × (m ≤ n)
unfolding distinct
run-few f nine zero = (0, refl, omega arith)
run-few f nine (suc n) =
    let w = run-few f nine n in
    let a = with-length (distinct n f) (f n) (nine n) w.0 w.1 in
    (a.0, a.1, omega (arith, w.2, a.3))

forms-few : (rotations reflections : Bool) → forms rotations reflections ≤ 8
forms-few rotations reflections = omega (arith, forms-le rotations reflections, turns-le rotations)

module _ (sample : List ℕ) (rows cols : ℕ) (rotations reflections : Bool) (tall : rows ≤ 16) (broad : cols ≤ 16) where
  abbrev tiles : List ℕ
  tiles = extracted sample rows cols rotations reflections

  variants-few : variants rows cols rotations reflections ≤ 1568
  variants-few =
      let a : starts_along rows ≤ 14 = omega arith in
      let b : starts_along cols ≤ 14 = omega arith in
      mul-le {a = starts_along rows * starts_along cols} {b = forms rotations reflections} {m = 196} {n = 8}
      (mul-le {a = starts_along rows} {b = starts_along cols} {m = 14} {n = 14} a b) (forms-few rotations reflections)

  variants-some : 1 ≤ variants rows cols rotations reflections
  variants-some =
      let a : 1 ≤ starts_along rows = omega arith in
      let b : 1 ≤ starts_along cols = omega arith in
      let c : 1 ≤ forms rotations reflections = forms-pos rotations reflections in
      mul-le {a = 1} {b = 1} {m = starts_along rows * starts_along cols} {n = forms rotations reflections}
      (mul-le {a = 1} {b = 1} {m = starts_along rows} {n = starts_along cols} a b) c

  pub tiles-counted : (length tiles ≡ tiles_in tiles * 9) × (1 ≤ tiles_in tiles) × (tiles_in tiles ≤ 1568)
  unfolding extracted
  tiles-counted =
      let f : ℕ → List ℕ = variant sample rows cols rotations reflections in
      let nine : (k : ℕ) → length (f k) ≡ 9 = variant-length sample rows cols rotations reflections in
      let w = run-few f nine (variants rows cols rotations reflections) in
      let h = run-has f nine (variants rows cols rotations reflections) 0 variants-some in
      (omega (arith, w.1), omega (arith, h.1), omega (arith, w.1, w.2, variants-few))

  pub tiles-whole : whole_tiles tiles ≡ true
  unfolding whole_tiles tile_number_fits
  tiles-whole =
      let w = tiles-counted in
      and_both (eqb (length tiles % 9) 0) (within 1 7200 (tiles_in tiles))
      (eq-eqb (length tiles % 9) 0 (omega (arith, w.0))) (within-is 1 7200 (tiles_in tiles) w.1 (omega (arith, w.2)))

-- ---- refusals
or_nothing : (n : ℕ) → or_else n 0 ≡ n
or_nothing zero = refl
or_nothing (suc n) = refl

-- checks that pass add nothing to those before them
nothing-more : (cs ds : Checks) → refusal ds ≡ 0 → refusal (cs then ds) ≡ refusal cs
unfolding refusal
nothing-more cs ds e = ap (or_else (refusal cs)) e ∙ or_nothing (refusal cs)

-- ---- the sample as bytes
module _ (ns : List ℕ) (cells : ℕ) (long : 5 + cells ≤ length ns) where
  abbrev numbered : List ℕ
  numbered = take cells (drop 5 ns)

  length-numbered : length numbered ≡ cells
  length-numbered = length-take cells (drop 5 ns) ∙ (let e = length-drop 5 ns in omega (arith, e))

  pub length-clipped : length (clipped ns cells) ≡ cells
  unfolding clipped
  length-clipped = length-tab cells (λ k. min 255 (get_or ns (5 + k) 0))

  numbered-at : (k : ℕ) → k < cells → get_or numbered k 0 ≡ get_or ns (5 + k) 0
  numbered-at k h = get_or-take cells (drop 5 ns) k 0 h ∙ get_or-drop 5 ns k 0

  clipped-at : (k : ℕ) → k < cells → get_or (clipped ns cells) k 0 ≡ min 255 (get_or numbered k 0)
  unfolding clipped
  clipped-at k h = get_d-tab cells (λ i. min 255 (get_or ns (5 + i) 0)) k 0 h ∙ ap (min 255) (sym (numbered-at k h))

  same-cell : (count n : ℕ) → count ≤ 30 → leb (min 255 n) count ≡ leb n count
  same-cell count n h =
      same_test (leb (min 255 n) count) (leb n count)
      (λ t. le-leb n count (omega (arith, leb-true (min 255 n) count t)))
      (λ t. le-leb (min 255 n) count (omega (arith, leb-true n count t)))

  same-cells : (count : ℕ) → count ≤ 30 → none_above (clipped ns cells) count ≡ none_above numbered count
  unfolding none_above
  same-cells count h =
      ap (λ (n : ℕ). every n (entry_up_to (clipped ns cells) count)) length-clipped
      ∙ every-ext (entry_up_to (clipped ns cells) count) (entry_up_to numbered count) cells
      (λ k l. ap (λ (n : ℕ). leb n count) (clipped-at k l) ∙ same-cell count (get_or numbered k 0) h)
      ∙ ap (λ (n : ℕ). every n (entry_up_to numbered count)) (sym length-numbered)

  same_length : (n : ℕ) → has_length (clipped ns cells) n ≡ has_length numbered n
  unfolding has_length
  same_length n = ap (λ (m : ℕ). eqb m n) (length-clipped ∙ sym length-numbered)

  pub same-refusal : (rows cols count : ℕ) → refusal (sample_checks (clipped ns cells) rows cols count) ≡ refusal (sample_checks numbered rows cols count)
  unfolding refusal
  same-refusal rows cols count =
      by-test (colour_count count)
      (λ t. rw (same_length (rows * cols), same-cells count (count_most count t)))
      (λ t. rw (same_length (rows * cols), t))

  pub same-sample : (rows cols count : ℕ) → refusal (sample_checks numbered rows cols count) ≡ 0 → clipped ns cells ≡ numbered
  same-sample rows cols count e =
      let h = all_pass (sample_checks numbered rows cols count) refl e in
      let few : colour_count count ≡ true = search in
      let below : none_above numbered count ≡ true = search in
      ext_get_or 0 (clipped ns cells) numbered (length-clipped ∙ sym length-numbered)
      (λ k l.
      let h : k < cells = omega (arith, length-clipped) in
      let most : get_or numbered k 0 ≤ count = none_above-entry numbered count below k (omega (arith, length-numbered)) in
      clipped-at k h ∙ omega (arith, count_most count few))

-- ---- what extraction answers, for a store of 14,112 bytes
module _ (ns : List ℕ) (rows cols count : ℕ) (rotations reflections : Bool) (d : List ℕ)
    (tall : rows ≤ 16) (broad : cols ≤ 16) (long : 5 + rows * cols ≤ length ns) (room : length d ≡ 14112) where
  abbrev bytes : List ℕ
  bytes = clipped ns (rows * cols)

  abbrev cells : List ℕ
  cells = take (rows * cols) (drop 5 ns)

  abbrev made : List ℕ
  made = extracted bytes rows cols rotations reflections

  made-few : length made ≤ 14112
  made-few = let w = tiles-counted bytes rows cols rotations reflections tall broad in omega (arith, w.0, w.2)

  has_room : refusal (room_check made d) ≡ 0
  has_room =
      let w = tiles-counted bytes rows cols rotations reflections tall broad in
      none-fails (room_check made d) (le-leb (tiles_in made) (tiles_in d) (omega (arith, w.2, room)))

  pub extraction-is : extraction bytes rows cols count rotations reflections d ≡ answered (refusal (sample_checks cells rows cols count)) (tiles_in made)
  unfolding extraction
  extraction-is =
      ap (λ (n : ℕ). answered n (tiles_in made))
      (nothing-more (sample_checks bytes rows cols count) (room_check made d) has_room ∙ same-refusal ns (rows * cols) long rows cols count)

  module _ (a : Answer ℕ) (x : List ℕ) (g : Extracts bytes rows cols count rotations reflections d a x) where
    pub told-refused : (r : Refusal) → a ≡ Err r → (refusal (sample_checks cells rows cols count) ≡ number r) × (refusal (sample_checks cells rows cols count) ≡ 0 → ⊥)
    told-refused r e =
        told-refusal (refusal (sample_checks cells rows cols count)) (tiles_in made) (up-to-ten (sample_checks cells rows cols count) refl) (sym extraction-is ∙ sym g.answered ∙ e)

    module _ (n : ℕ) (e : a ≡ Ok n) where
      pub told-accepted : refusal (sample_checks cells rows cols count) ≡ 0
      told-accepted = (told-value (refusal (sample_checks cells rows cols count)) (tiles_in made) (sym extraction-is ∙ sym g.answered ∙ e)).0

      told-number : n * 9 ≡ length made
      told-number =
          let q = (told-value (refusal (sample_checks cells rows cols count)) (tiles_in made) (sym extraction-is ∙ sym g.answered ∙ e)).1 in
          omega (arith, q, (tiles-counted bytes rows cols rotations reflections tall broad).0)

      pub told-few : n * 9 ≤ 14112
      told-few = omega (arith, told-number, made-few)

      pub told-tiles : take (n * 9) x ≡ extracted cells rows cols rotations reflections
      unfolding store_after store_with
      told-tiles =
          let z : refusal (sample_checks bytes rows cols count) ≡ 0 = same-refusal ns (rows * cols) long rows cols count ∙ told-accepted in
          let k : take (tiles_in d * 9) made ≡ made = take_all (tiles_in d * 9) made (omega (arith, room, made-few)) in
          ap (take (n * 9))
          (g.leaves ∙ ap (λ (m : ℕ). unless_refused m (take (tiles_in d * 9) made ++ drop (length (take (tiles_in d * 9) made)) d) d) z
          ∙ ap (λ (l : List ℕ). l ++ drop (length l) d) k)
          ∙ take_at made (drop (length made) d) (n * 9) (sym told-number)
          ∙ ap (λ (s : List ℕ). extracted s rows cols rotations reflections) (same-sample ns (rows * cols) long rows cols count told-accepted)
