-- "Only the first of equal tiles is kept", read of the definition: extraction's list is whole tiles; every variant of the sample is one of
-- them, every one of them is a variant, no two of them are equal, and they stand in the order in which the variants first appear.
-- First over any run f of tiles of nine (run-whole, run-has, run_only, run-distinct, run-order), then over the variants of a sample.
-- Assumes nothing.
use Prim.Native.Nat.{ℕ, zero, suc, ◌+◌, ◌*◌, ◌≤◌, ◌<◌}
use mathlib.Core.Path.{◌≡◌, refl, sym, ◌∙◌, ap, subst}
use mathlib.Core.Bool.{Bool, true, false}
use mathlib.Core.Logic.{◌⊎◌, inl, inr, ⊎_elim}
use mathlib.Core.List.{List, ◌++◌}
use native.Mathlib.Nat.{not-suc-le-zero, le_of_suc-le-suc, eq-or-lt_of_le, le_antisymm}
use native.Mathlib.Omega.{arith}
use borrow.Author.Tests.{eqb-true, eq-eqb}
use lib.Dec.{eqb}
use lib.ListN.{length, get_or, length-append, get_or-append}
use lib.Seq.{get_or-append-add}
use Rattle.base.specs.Tables.{tab}
use Rattle.base.proofs.Bools.{never, by-test, pick_yes, pick_no}
use Rattle.base.proofs.Numbers.{lt-or-le}
use Rattle.base.proofs.Counted.{every-at, every-is, some_is, some_at}
use Rattle.base.proofs.Tabled.{get_d-tab, is-tab, tab-ext}
use Rattle.rules.specs.Tests.{tiles_in}
use Rattle.rules.specs.Tiles.{variant, variants, same_tile, has_tile, with_tile, distinct, extracted}
use Rattle.tile_forms.proofs.Variants.{variant-length}
use Rattle.tiles.proofs.Store.{with-length, distinct_more, distinct-grows}

-- tile n of a list
unfoldable pub tile_of : List ℕ → ℕ → List ℕ
tile_of l n = tab 9 (λ k. get_or l (n * 9 + k) 0)

-- the comparison of the definition is equality of tiles
pub same-is : (l t : List ℕ) (n : ℕ) → length t ≡ 9 → same_tile l t n ≡ true → tile_of l n ≡ t
unfolding tile_of same_tile
same-is l t n e h =
    sym (is-tab 0 t 9 (λ k. get_or l (n * 9 + k) 0) e
    (λ k b. sym (eqb-true (get_or l (n * 9 + k) 0) (get_or t k 0) (every-at (λ k. eqb (get_or l (n * 9 + k) 0) (get_or t k 0)) 9 h k b))))

pub is_same : (l t : List ℕ) (n : ℕ) → tile_of l n ≡ t → same_tile l t n ≡ true
unfolding tile_of same_tile
is_same l t n e =
    every-is (λ k. eqb (get_or l (n * 9 + k) 0) (get_or t k 0)) 9
    (λ k b. eq-eqb (get_or l (n * 9 + k) 0) (get_or t k 0) (sym (get_d-tab 9 (λ (i : ℕ). get_or l (n * 9 + i) 0) k 0 b) ∙ ap (λ (x : List ℕ). get_or x k 0) e))

pub has-is : (l t : List ℕ) → length t ≡ 9 → has_tile l t ≡ true → (n : ℕ) × (n < tiles_in l) × (tile_of l n ≡ t)
unfolding has_tile
has-is l t e h = let w = some_at (same_tile l t) (tiles_in l) h in (w.0, w.1, same-is l t w.0 e w.2)

pub is-has : (l t : List ℕ) (n : ℕ) → n < tiles_in l → tile_of l n ≡ t → has_tile l t ≡ true
unfolding has_tile
is-has l t n h e = some_is (same_tile l t) (tiles_in l) n h (is_same l t n e)

module _ (l t : List ℕ) (m : ℕ) (whole : length l ≡ m * 9) (nine : length t ≡ 9) where
  tile-before : (n : ℕ) → n < m → tile_of (l ++ t) n ≡ tile_of l n
  unfolding tile_of
  tile-before n h = tab-ext 9 _ _ (λ k b. get_or-append l t 0 (n * 9 + k) (omega arith))

  tile-last : tile_of (l ++ t) m ≡ t
  unfolding tile_of
  tile-last =
      sym (is-tab 0 t 9 (λ k. get_or (l ++ t) (m * 9 + k) 0) nine
      (λ k b. sym (ap (λ (i : ℕ). get_or (l ++ t) (i + k) 0) (sym whole) ∙ get_or-append-add l t k 0)))

  more-length : length (l ++ t) ≡ (m + 1) * 9
  more-length = length-append l t ∙ omega arith

-- what one tile more does: it was there and nothing changes, or it was not and comes last
with_cases : (l t : List ℕ) → ((has_tile l t ≡ true) × (with_tile l t ≡ l)) ⊎ ((has_tile l t ≡ false) × (with_tile l t ≡ l ++ t))
unfolding with_tile
with_cases l t =
    by-test (has_tile l t) (λ e. inl (e, pick_yes (has_tile l t) l (l ++ t) e)) (λ e. inr (e, pick_no (has_tile l t) l (l ++ t) e))

-- tile i of the distinct tiles of f 0 to f (n-1) is f v, and no tile of the run before v equals it: v is its first
-- appearance; it stands behind the distinct tiles of those before
pub record First (f : ℕ → List ℕ) (n i v : ℕ) : Type 0 where
  pub early : v < n
  pub tile : tile_of (distinct n f) i ≡ f v
  pub new : (u : ℕ) → u < v → f u ≡ f v → ⊥
  pub place : i ≡ tiles_in (distinct v f)

module _ (f : ℕ → List ℕ) (nine : (k : ℕ) → length (f k) ≡ 9) where
  pub run-whole : (n : ℕ) → (m : ℕ) × (length (distinct n f) ≡ m * 9)
  unfolding distinct
  run-whole zero = (0, refl)
  run-whole (suc n) = let w = run-whole n in let a = with-length (distinct n f) (f n) (nine n) w.0 w.1 in (a.0, a.1)

  -- every tile of the run is in the list
  pub run-has : (n v : ℕ) → v < n → (i : ℕ) × (i < tiles_in (distinct n f)) × (tile_of (distinct n f) i ≡ f v)
  unfolding distinct
  run-has zero v h = absurd (not-suc-le-zero h)
  run-has (suc n) v h = go (eq-or-lt_of_le (le_of_suc-le-suc h)) (run-has n v)
    where
      l : List ℕ
      l = distinct n f

      m : ℕ
      m = (run-whole n).0

      Goal : List ℕ → Type 0
      Goal x = (i : ℕ) × (i < tiles_in x) × (tile_of x i ≡ f v)

      go : (v ≡ n) ⊎ (v < n) → (v < n → Goal l) → Goal (with_tile l (f n))
      go (inl e) ih =
          ⊎_elim
          (λ w. subst Goal (sym w.1) (let x = has-is l (f n) (nine n) w.0 in (x.0, x.1, x.2 ∙ ap f (sym e))))
          (λ w. subst Goal (sym w.1) (m, omega (arith, more-length l (f n) m (run-whole n).1 (nine n)), tile-last l (f n) m (run-whole n).1 (nine n) ∙ ap f (sym e)))
          (with_cases l (f n))
      go (inr h) ih =
          ⊎_elim
          (λ w. subst Goal (sym w.1) (ih h))
          (λ w. subst Goal (sym w.1) (let x = ih h in (x.0, omega (arith, x.1, more-length l (f n) m (run-whole n).1 (nine n), (run-whole n).1), tile-before l (f n) m (run-whole n).1 (nine n) x.0 (omega (arith, x.1, (run-whole n).1)) ∙ x.2)))
          (with_cases l (f n))

  -- and each tile of the list is a tile of the run, from its first appearance
  pub run_only : (n i : ℕ) → i < tiles_in (distinct n f) → (v : ℕ) × First f n i v
  unfolding distinct
  run_only zero i h = absurd (omega arith)
  run_only (suc n) i h =
      ⊎_elim
      (λ w. let k : i < tiles_in (distinct n f) = rw w.1 at h in old w.1 (run_only n i k))
      (λ w.
      let k : i < tiles_in (distinct n f ++ f n) = rw w.1 at h in
      let s : i ≤ (run-whole n).0 = omega (arith, k, more-length (distinct n f) (f n) (run-whole n).0 (run-whole n).1 (nine n)) in
      new-one w.0 w.1 (eq-or-lt_of_le s) (run_only n i))
      (with_cases (distinct n f) (f n))
    where
      l : List ℕ
      l = distinct n f

      m : ℕ
      m = (run-whole n).0

      old : with_tile l (f n) ≡ l → (v : ℕ) × First f n i v → (v : ℕ) × First f (suc n) i v
      old e w = (w.0, record { early = omega (arith, w.1.early); tile = ap (λ (x : List ℕ). tile_of x i) e ∙ w.1.tile; new = w.1.new; place = w.1.place })

      new-one : has_tile l (f n) ≡ false → with_tile l (f n) ≡ l ++ f n → (i ≡ m) ⊎ (i < m) → (i < tiles_in l → (v : ℕ) × First f n i v) → (v : ℕ) × First f (suc n) i v
      new-one a e (inl q) ih = (
        n,
        record {
          early = omega arith;
          tile = ap (λ (x : List ℕ). tile_of x i) e ∙ ap (tile_of (l ++ f n)) q ∙ tile-last l (f n) m (run-whole n).1 (nine n);
          new = λ u b p. let w = run-has n u b in never (has_tile l (f n)) (is-has l (f n) w.0 w.1 (w.2 ∙ p)) a;
          place = omega (arith, (run-whole n).1);
        },
      )
      new-one a e (inr q) ih =
          let w = ih (omega (arith, (run-whole n).1)) in (
            w.0,
            record {
              early = omega (arith, w.1.early);
              tile = ap (λ (x : List ℕ). tile_of x i) e ∙ tile-before l (f n) m (run-whole n).1 (nine n) i q ∙ w.1.tile;
              new = w.1.new;
              place = w.1.place;
            },
          )

  -- no two tiles of the list are equal
  pub run-distinct : (n i j : ℕ) → i < tiles_in (distinct n f) → j < tiles_in (distinct n f) → tile_of (distinct n f) i ≡ tile_of (distinct n f) j → i ≡ j
  run-distinct n i j h g e =
      let a = run_only n i h in
      let b = run_only n j g in
      let p : f a.0 ≡ f b.0 = sym a.1.tile ∙ e ∙ b.1.tile in
      let q : a.0 ≡ b.0 =
      ⊎_elim (λ l. absurd (b.1.new a.0 l p)) (λ l. ⊎_elim (λ m. absurd (a.1.new b.0 m (sym p))) (λ m. le_antisymm m l) (lt-or-le b.0 a.0)) (lt-or-le a.0 b.0) in
      a.1.place ∙ ap (λ (v : ℕ). tiles_in (distinct v f)) q ∙ sym b.1.place

  -- a tile that appears first earlier stands earlier
  pub run-order : (n i j v w : ℕ) → First f n i v → First f n j w → v < w → i < j
  run-order n i j v w a b l =
      let m = run-whole v in
      let e : distinct (v + 1) f ≡ distinct v f ++ f v = distinct_more f v ∙ ⊎_elim (λ x. held x.0) (λ x. x.1) (with_cases (distinct v f) (f v)) in
      let g = distinct-grows f (v + 1) w (omega arith) in
      omega (arith, a.place, b.place, m.1, nine v, ap length g.1, length-append (distinct (v + 1) f) g.0, ap length e, length-append (distinct v f) (f v))
    where
      held : has_tile (distinct v f) (f v) ≡ true → with_tile (distinct v f) (f v) ≡ distinct v f ++ f v
      held h =
          let x = has-is (distinct v f) (f v) (nine v) h in
          let y = run_only v x.0 x.1 in absurd (a.new y.0 y.1.early (sym y.1.tile ∙ x.2))

-- ---- the list of a sample's tiles

module _ (sample : List ℕ) (rows cols : ℕ) (rotations reflections : Bool) where
  -- every variant is in it
  pub extracted-has : (v : ℕ) → v < variants rows cols rotations reflections
      → (i : ℕ) × (i < tiles_in (extracted sample rows cols rotations reflections))
      × (tile_of (extracted sample rows cols rotations reflections) i ≡ variant sample rows cols rotations reflections v)
  unfolding extracted
  extracted-has v h =
      run-has (variant sample rows cols rotations reflections) (variant-length sample rows cols rotations reflections)
      (variants rows cols rotations reflections) v h

  -- every tile of it is a variant, from its first appearance
  pub extracted-only : (i : ℕ) → i < tiles_in (extracted sample rows cols rotations reflections)
      → (v : ℕ) × First (variant sample rows cols rotations reflections) (variants rows cols rotations reflections) i v
  unfolding extracted
  extracted-only i h =
      run_only (variant sample rows cols rotations reflections) (variant-length sample rows cols rotations reflections)
      (variants rows cols rotations reflections) i h

  -- no two tiles of it are equal
  pub extracted-distinct : (i j : ℕ) → i < tiles_in (extracted sample rows cols rotations reflections) → j < tiles_in (extracted sample rows cols rotations reflections)
      → tile_of (extracted sample rows cols rotations reflections) i ≡ tile_of (extracted sample rows cols rotations reflections) j → i ≡ j
  unfolding extracted
  extracted-distinct i j h g e =
      run-distinct (variant sample rows cols rotations reflections) (variant-length sample rows cols rotations reflections)
      (variants rows cols rotations reflections) i j h g e

  -- a tile that appears first earlier stands earlier
  pub extracted-order : (i j v w : ℕ) → First (variant sample rows cols rotations reflections) (variants rows cols rotations reflections) i v
      → First (variant sample rows cols rotations reflections) (variants rows cols rotations reflections) j w → v < w → i < j
  extracted-order i j v w a b l =
      run-order (variant sample rows cols rotations reflections) (variant-length sample rows cols rotations reflections)
      (variants rows cols rotations reflections) i j v w a b l

  -- they are whole tiles
  pub extracted-whole : (m : ℕ) × (length (extracted sample rows cols rotations reflections) ≡ m * 9)
  unfolding extracted
  extracted-whole =
      run-whole (variant sample rows cols rotations reflections) (variant-length sample rows cols rotations reflections)
      (variants rows cols rotations reflections)
