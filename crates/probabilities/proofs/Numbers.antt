-- No accepted call makes a NaN. Of the product step and its reverse: the checks let in finite floats alone, a product of two of them is
-- a number or an infinity, and the reverse divides by no zero. Of normalising: the largest, the total and the count are finite and
-- above zero where they divide.
-- Assumes nothing.
use Prim.Native.Nat.{ℕ, ◌+◌, ◌-◌, ◌*◌, ◌/◌, ◌^◌, ◌<◌, ◌≤◌}
use mathlib.Core.Path.{◌≡◌, refl, sym, subst}
use mathlib.Core.Bool.{Bool, true, ◌&&◌}
use mathlib.Core.List.{List, map}
use native.Mathlib.Nat.{mul-pos}
use native.Mathlib.Omega.{arith}
use lib.Dec.{T, ltb}
use lib.ListN.{length, get_or}
use lib.Ieee.{Float, nan, ne, lt, le, eq, of_bits}
use lib.Ieee.Scale.{finite}
use borrow.Author.Tests.{ltb-true}
use Rattle.std.specs.Prelude.{Ok}
use Rattle.base.specs.Counting.{pick}
use Rattle.base.specs.Tables.{tab}
use Rattle.base.proofs.Bools.{and_left, and_right, by-test}
use Rattle.base.proofs.Numbers.{cell-lt, row_lt}
use Rattle.base.proofs.Tabled.{length-tab, get_d-tab}
use Rattle.check_sizes.proofs.Sides.{board-rows, board-cols, count-least, count_most}
use Rattle.rules.specs.Floats.{zero64, one64, over, float_of, is_number, is_finite, no_nan, all_are}
use Rattle.rules.specs.Tests.{on_board}
use Rattle.rules.specs.Places.{cell_of}
use Rattle.rules.specs.Grid.{entry_of}
use Rattle.rules.specs.Probabilities.{Region, Block, region_of, in_region, in_block, influence, product_at, quotient_at, changed_by, multiplied, divided, influence_checks, largest_of, total_of, usable, normalised, probabilities_at, normalise_checks}
use Rattle.rules.specs.Promises.{Normalises, Multiplies, Divides}
use Rattle.rules.proofs.Answered.{was-written}
use Rattle.rules.specs.declared.World.{World}
use Rattle.rules.specs.declared.Offset.{Offset}
use Rattle.rules.proofs.Floats.{finite_number, times-finite, over-finite, over-positive, count-positive, is-finite, is-number, all-at, all-tab, one-finite}
use Rattle.probability_normal.proofs.Normal.{map-tab, shares, uniform}
use Rattle.places.proofs.Indices.{entry-below}
use Rattle.probabilities.proofs.Accept.{NormalPasses, normal-passes, StepPasses, step-passes}
use Rattle.probabilities.proofs.Total.{usable-positive, total-positive}

module _ (plane : List Float) (rows cols count : ℕ) (b : Block) (w : World) (o : Offset) (k : ℕ) where
  module _ (s : StepPasses plane rows cols count b w o k) where
    abbrev g : Region
    g = region_of rows cols w o k

    -- a factor of the block, and a probability
    factor-finite : (t r c : ℕ) → t < count → in_block g b r c ≡ true → T (finite (influence g b t r c))
    unfolding influence
    factor-finite t r c h e =
        let i = r - g.rows.0 in
        let j = c - g.cols.0 in
        let i< : i < b.rows = ltb-true i b.rows (and_left (ltb i b.rows) (ltb j b.cols) e) in
        let j< : j < b.cols = ltb-true j b.cols (and_right (ltb i b.rows) (ltb j b.cols) e) in
        let at = t * (b.rows * b.cols) + (i * b.cols + j) in
        is-finite (get_or b.entries at nan)
        (all-at is_finite b.entries s.block-finite at (subst (λ (n : ℕ). at < n) (sym s.block-long) (cell-lt h (cell-lt i< j<))))

    old-finite : (q : ℕ) → q < length plane → T (finite (get_or plane q nan))
    old-finite q h = is-finite (get_or plane q nan) (all-at is_finite plane s.finite q h)

    colour : (q : ℕ) → q < length plane → q / (rows * cols) < count
    colour q h =
        row_lt q count (rows * cols) (mul-pos (board-rows rows cols s.sides).0 (board-cols rows cols s.sides).0)
        (subst (λ (n : ℕ). q < n) s.long h)

    product-number : (p : Float) (t r c : ℕ) → T (finite p) → t < count → no_nan (product_at g b p t r c) ≡ true
    unfolding product_at
    product-number p t r c f h =
        by-test (in_region g r c)
        (λ e. rw e (by-test (in_block g b r c)
        (λ i. rw i (times-finite p (influence g b t r c) f (factor-finite t r c h i)))
        (λ i. rw i (times-finite p one64 f one-finite))))
        (λ e. rw e (finite_number p f))

    quotient-number : (p : Float) (t r c : ℕ) → T (finite p) → t < count → no_nan (quotient_at g b p t r c) ≡ true
    unfolding quotient_at
    quotient-number p t r c f h =
        let x = influence g b t r c in
        by-test (in_region g r c && in_block g b r c && ne x zero64)
        (λ e.
        let here = and_left (in_region g r c && in_block g b r c) (ne x zero64) e in
        rw e
        (over-finite p x f (factor-finite t r c h (and_right (in_region g r c) (in_block g b r c) here))
        (and_right (in_region g r c && in_block g b r c) (ne x zero64) e)))
        (λ e. rw e (finite_number p f))

    -- a plane whose every probability is changed so
    changed-numbers : (f : Float → ℕ → ℕ → ℕ → Float) → ((p : Float) (t r c : ℕ) → T (finite p) → t < count → no_nan (f p t r c) ≡ true)
        → all_are no_nan (changed_by rows cols f plane) ≡ true
    unfolding changed_by
    changed-numbers f h = all-tab no_nan (length plane) _ (λ q l. h (get_or plane q nan) _ _ _ (old-finite q l) (colour q l))

  -- a product step that was not refused leaves numbers and infinities
  pub product-numbers : {l : List Float} → Multiplies rows cols count b w o k plane (Ok tt) l → all_are no_nan l ≡ true
  unfolding multiplied
  product-numbers done =
      let d = was-written (influence_checks plane rows cols count b w o k) (multiplied rows cols b w o k plane) plane done in
      let s = step-passes plane rows cols count b w o k d.0 in
      subst (λ (l : List Float). all_are no_nan l ≡ true) (sym d.1) (changed-numbers s _ (product-number s))

  -- and so does its reverse
  pub quotient-numbers : {l : List Float} → Divides rows cols count b w o k plane (Ok tt) l → all_are no_nan l ≡ true
  unfolding divided
  quotient-numbers done =
      let d = was-written (influence_checks plane rows cols count b w o k) (divided rows cols b w o k plane) plane done in
      let s = step-passes plane rows cols count b w o k d.0 in
      subst (λ (l : List Float). all_are no_nan l ≡ true) (sym d.1) (changed-numbers s _ (quotient-number s))

-- ---- normalising

all_map : (test : Float → Bool) (f : Float → Float) (l : List Float)
    → ((k : ℕ) → k < length l → test (f (get_or l k nan)) ≡ true) → all_are test (map f l) ≡ true
all_map test f l h = subst (λ (x : List Float). all_are test x ≡ true) (map-tab f l nan nan) (all-tab test (length l) (λ k. f (get_or l k nan)) h)

-- of numbers, at least one and no more than a float counts
normal-numbers : (ps : List Float) → 0 < length ps → length ps ≤ 2 ^ 53
    → ((k : ℕ) → k < length ps → is_number (get_or ps k nan) ≡ true) → all_are no_nan (normalised ps) ≡ true
normal-numbers ps some few numbers =
    let x = largest_of ps in
    by-test (usable x)
    (λ u.
    subst (λ (l : List Float). all_are no_nan l ≡ true) (shares ps x refl u)
    (all_map no_nan (λ p. over (over p x) (total_of x ps)) ps
    (λ k h.
    over-positive (over (get_or ps k nan) x) (total_of x ps)
    (over-positive (get_or ps k nan) x (is-number (get_or ps k nan) (numbers k h)) (usable-positive x u))
    (total-positive ps numbers few u))))
    (λ u.
    subst (λ (l : List Float). all_are no_nan l ≡ true) (uniform ps x refl u)
    (all_map no_nan (λ p. over one64 (float_of (length ps))) ps
    (λ k h. over-positive one64 (float_of (length ps)) (finite_number one64 one-finite) (count-positive (length ps) some few))))

module _ (plane : List Float) (rows cols count : ℕ) (w : World) (o : Offset) (out : List Float) where
  zero_number : is_number zero64 ≡ true
  unfolding le lt eq of_bits
  zero_number = refl

  -- the probabilities of a place are numbers: entries of the plane, or zeros
  place-numbers : NormalPasses plane out rows cols count → (t : ℕ) → t < count
      → is_number (pick (on_board rows cols w o) (get_or plane (t * (rows * cols) + entry_of cols (cell_of w o)) nan) zero64) ≡ true
  place-numbers n t h =
      by-test (on_board rows cols w o)
      (λ e.
      let at = t * (rows * cols) + entry_of cols (cell_of w o) in
      rw e (all-at is_number plane n.numbers at (subst (λ (m : ℕ). at < m) (sym n.fits.long) (cell-lt h (entry-below rows cols w o e)))))
      (λ e. rw e zero_number)

  pub normalised-numbers : {l : List Float} → Normalises plane rows cols count w o out (Ok tt) l → all_are no_nan l ≡ true
  unfolding probabilities_at
  normalised-numbers done =
      let d = was-written (normalise_checks plane rows cols count w o out) (normalised (probabilities_at plane rows cols count w o)) out done in
      let n = normal-passes plane out rows cols count w o d.0 in
      let f : ℕ → Float = λ t. pick (on_board rows cols w o) (get_or plane (t * (rows * cols) + entry_of cols (cell_of w o)) nan) zero64 in
      let long = length-tab count f in
      let least = count-least count n.colours in
      let most = count_most count n.colours in
      subst (λ (l : List Float). all_are no_nan l ≡ true) (sym d.1)
      (normal-numbers (tab count f) (omega (arith, long)) (omega (arith, long))
      (λ t h.
      let t< : t < count = subst (λ (m : ℕ). t < m) long h in
      subst (λ (x : Float). is_number x ≡ true) (sym (get_d-tab count f t nan t<)) (place-numbers n t t<)))
