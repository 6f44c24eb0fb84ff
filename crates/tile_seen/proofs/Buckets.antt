-- Laws of buckets and chains.
--     bucket-ext        tiles with the same cells have the same bucket
--     last-..           what `last_below` says
--     Searching         the walk along a chain: no tile from `last` on is equal. search-start, search-on, search-none
--     chained-none      no tile yet
--     chained_more      one tile more, as `note_tile` notes it
-- Assumes nothing.
use Prim.Native.Nat.{ℕ, zero, suc, ◌+◌, ◌-◌, ◌*◌, ◌%◌, ◌<◌, ◌≤◌}
use mathlib.Core.Path.{◌≡◌, refl, sym, ◌∙◌, ap, subst}
use mathlib.Core.Bool.{Bool, true, false}
use mathlib.Core.List.{List, [], ◌++◌}
use mathlib.Core.Logic.{⊎_elim}
use native.Mathlib.Nat.{not-suc-le-zero, le_of_suc-le-suc, eq-or-lt_of_le, lt-suc_self, le_step, le_refl, ne_of_lt}
use native.Mathlib.Numerals.{add-one}
use native.Mathlib.Omega.{arith}
use borrow.Author.Tests.{eqb-true, eq-eqb, ne_eqb}
use lib.Dec.{eqb}
use lib.ListN.{length, get_or, set, replicate, length-set, length-append, length-replicate, get_or-replicate, get_or-append}
use lib.Seq.{get_or-set_same, get_or-set_other, get_or-append-add}
use Rattle.base.specs.Counting.{some}
use Rattle.base.proofs.Bools.{never, by-test, pick_yes, pick_no}
use Rattle.base.proofs.Counted.{every-at, some_at}
use Rattle.base.proofs.Numbers.{lt-or-le}
use Rattle.rules.specs.Bounds.{max_tiles}
use Rattle.rules.specs.Tests.{tiles_in}
use Rattle.rules.specs.Tiles.{same_tile, has_tile}
use Rattle.tile_seen.specs.Chains.{buckets, spread, bucket_to, bucket_of, cells_of, in_bucket, last_below, Chained}

-- ---- buckets

pub bucket-none : (cell : ℕ → ℕ) → 0 ≡ bucket_to cell 0
unfolding bucket_to
bucket-none cell = refl

pub bucket-more : (cell : ℕ → ℕ) (k : ℕ) → (bucket_to cell k * spread + cell k) % buckets ≡ bucket_to cell (k + 1)
unfolding bucket_to
bucket-more cell k = rw add-one

pub bucket-done : (cell : ℕ → ℕ) (k : ℕ) → k ≡ 9 → bucket_to cell k ≡ bucket_of cell
unfolding bucket_of
bucket-done cell k e = ap (bucket_to cell) e

bucket-ext : (n : ℕ) (f g : ℕ → ℕ) → ((k : ℕ) → k < n → f k ≡ g k) → bucket_to f n ≡ bucket_to g n
unfolding bucket_to
bucket-ext zero f g h = refl
bucket-ext (suc n) f g h = rw (bucket-ext n f g (λ k l. h k (le_step l)), h n (lt-suc_self n))

bucket-same : (f g : ℕ → ℕ) → ((k : ℕ) → k < 9 → f k ≡ g k) → bucket_of f ≡ bucket_of g
unfolding bucket_of
bucket-same f g h = bucket-ext 9 f g h

-- an equal tile is in the same bucket, so one of another bucket differs
differs : (tiles tile : List ℕ) (j : ℕ) → in_bucket tiles (bucket_of (λ k. get_or tile k 0)) j ≡ false → same_tile tiles tile j ≡ false
unfolding in_bucket same_tile cells_of
differs tiles tile j h =
    by-test (same_tile tiles tile j)
    (λ e. never (in_bucket tiles (bucket_of (λ k. get_or tile k 0)) j)
    (eq-eqb (bucket_of (cells_of tiles j)) (bucket_of (λ k. get_or tile k 0))
    (bucket-same (cells_of tiles j) (λ k. get_or tile k 0)
    (λ k l. eqb-true (get_or tiles (j * 9 + k) 0) (get_or tile k 0) (every-at (λ k. eqb (get_or tiles (j * 9 + k) 0) (get_or tile k 0)) 9 e k l))))
    h)
    (λ e. e)

-- ---- the last number of which a test holds
module _ (f : ℕ → Bool) where
  pub last-le : (n : ℕ) → last_below n f ≤ n
  unfolding last_below
  last-le zero = omega arith
  last-le (suc n) = by-test (f n) (λ e. rw e (le_refl (suc n))) (λ e. rw e (le_step (last-le n)))

  last_none : (n j : ℕ) → last_below n f ≤ j → j < n → f j ≡ false
  unfolding last_below
  last_none zero j h l = absurd (not-suc-le-zero l)
  last_none (suc n) j h l =
      by-test (f n)
      (λ e. absurd (out (rw e at h) l))
      (λ e. ⊎_elim (λ q. ap f q ∙ e) (λ lt. last_none n j (rw e at h) lt) (eq-or-lt_of_le (le_of_suc-le-suc l)))
    where
      out : suc n ≤ j → j < suc n → ⊥
      out a b = omega arith

  last-holds : (n : ℕ) → 0 < last_below n f → f (last_below n f - 1) ≡ true
  unfolding last_below
  last-holds zero h = absurd (omega arith)
  last-holds (suc n) h =
      by-test (f n)
      (λ e. ap (λ (m : ℕ). f (m - 1)) (pick_yes (f n) (suc n) (last_below n f) e) ∙ ap f (omega arith) ∙ e)
      (λ e. ap (λ (m : ℕ). f (m - 1)) (pick_no (f n) (suc n) (last_below n f) e) ∙ last-holds n (rw (pick_no (f n) (suc n) (last_below n f) e) at h))

  last-here : (n : ℕ) → f n ≡ true → last_below (n + 1) f ≡ n + 1
  unfolding last_below
  last-here n e = rw (add-one, e)

  last-before : (n : ℕ) → f n ≡ false → last_below (n + 1) f ≡ last_below n f
  unfolding last_below
  last-before n e = rw (add-one, e)

last-ext : (n : ℕ) (f g : ℕ → Bool) → ((k : ℕ) → k < n → f k ≡ g k) → last_below n f ≡ last_below n g
unfolding last_below
last-ext zero f g h = refl
last-ext (suc n) f g h = rw (last-ext n f g (λ k l. h k (le_step l)), h n (lt-suc_self n))

-- ---- the walk along a chain: tile last-1 is the next to compare
pub record Searching (tiles tile : List ℕ) (last : ℕ) : Type 0 where
  pub low : last ≤ tiles_in tiles
  pub none : (j : ℕ) → last ≤ j → j < tiles_in tiles → same_tile tiles tile j ≡ false
  pub here : 0 < last → in_bucket tiles (bucket_of (λ k. get_or tile k 0)) (last - 1) ≡ true

module _ (tiles tile : List ℕ) where
  from : (m last : ℕ) → m ≤ tiles_in tiles → last ≡ last_below m (in_bucket tiles (bucket_of (λ k. get_or tile k 0)))
      → ((j : ℕ) → m ≤ j → j < tiles_in tiles → same_tile tiles tile j ≡ false) → Searching tiles tile last
  from m last l e h =
      let f : ℕ → Bool = in_bucket tiles (bucket_of (λ k. get_or tile k 0)) in
      record {
        low = omega (arith, e, last-le f m);
        none = λ j a b. ⊎_elim (λ lt. differs tiles tile j (last_none f m j (subst (λ (x : ℕ). x ≤ j) e a) lt)) (λ ge. h j ge b) (lt-or-le j m);
        here = λ p. ap (λ (x : ℕ). f (x - 1)) e ∙ last-holds f m (subst (λ (x : ℕ). 0 < x) e p);
      }

  module _ (heads nexts : List ℕ) (chained : Chained tiles heads nexts) where
    pub search-start : (bucket last : ℕ) → bucket ≡ bucket_of (λ k. get_or tile k 0) → bucket < buckets → last ≡ get_or heads bucket 0 → Searching tiles tile last
    search-start bucket last e l p =
        from (tiles_in tiles) last (le_refl (tiles_in tiles))
        (p ∙ chained.head bucket l ∙ ap (λ (h : ℕ). last_below (tiles_in tiles) (in_bucket tiles h)) e)
        (λ j a b. absurd (out a b))
      where
        out : {a b : ℕ} → a ≤ b → b < a → ⊥
        out p q = omega arith

    pub search-on : (last after : ℕ) → Searching tiles tile last → (last ≡ 0 → ⊥) → same_tile tiles tile (last - 1) ≡ false → after ≡ get_or nexts (last - 1) 0
        → Searching tiles tile after
    unfolding in_bucket
    search-on last after s p q e =
        let l : 0 < last = omega arith in
        let n : last - 1 < tiles_in tiles = omega (arith, s.low) in
        from (last - 1) after (omega arith)
        (e ∙ chained.next (last - 1) n
        ∙ ap (λ (h : ℕ). last_below (last - 1) (in_bucket tiles h)) (eqb-true (bucket_of (cells_of tiles (last - 1))) (bucket_of (λ k. get_or tile k 0)) (s.here l)))
        (λ j a b. ⊎_elim (λ r. ap (same_tile tiles tile) (sym r) ∙ q) (λ lt. s.none j (omega arith) b) (eq-or-lt_of_le a))

    -- a walk goes down
    pub search-less : (last after : ℕ) → Searching tiles tile last → (last ≡ 0 → ⊥) → after ≡ get_or nexts (last - 1) 0 → after < last
    search-less last after s p e =
        let n : last - 1 < tiles_in tiles = omega (arith, s.low) in
        omega (arith, e, chained.next (last - 1) n, last-le (in_bucket tiles (bucket_of (cells_of tiles (last - 1)))) (last - 1))

  pub search-none : (last : ℕ) → Searching tiles tile last → last ≡ 0 → false ≡ has_tile tiles tile
  unfolding has_tile
  search-none last s e =
      by-test (some (tiles_in tiles) (same_tile tiles tile))
      (λ t. let w = some_at (same_tile tiles tile) (tiles_in tiles) t in never (same_tile tiles tile w.0) w.2 (s.none w.0 (omega arith) w.1))
      (λ t. sym t)

-- ---- the chains as tiles are added

pub chained-none : Chained [] (replicate buckets 0) (replicate max_tiles 0)
unfolding last_below
chained-none =
    record {
      few = omega arith;
      wide = length-replicate {A = ℕ} buckets 0;
      long = length-replicate {A = ℕ} max_tiles 0;
      head = λ h l. get_or-replicate {A = ℕ} buckets h 0 0 l;
      next = λ n l. absurd (out l);
    }
  where
    out : {n : ℕ} → n < 0 → ⊥
    out l = omega arith

-- tile n is added, in bucket b
module _ (tiles tile heads nexts : List ℕ) (n b : ℕ) (chained : Chained tiles heads nexts) (whole : length tiles ≡ n * 9) (nine : length tile ≡ 9)
    (room : n < max_tiles) (l : b < buckets) (e : b ≡ bucket_of (λ k. get_or tile k 0)) where
  count : tiles_in tiles ≡ n
  count = omega arith

  more : tiles_in (tiles ++ tile) ≡ n + 1
  more = let a = length-append tiles tile in omega arith

  -- the buckets of the tiles before stay, and the new one's is b
  bucket-before : (j : ℕ) → j < n → bucket_of (cells_of (tiles ++ tile) j) ≡ bucket_of (cells_of tiles j)
  unfolding cells_of
  bucket-before j h =
      bucket-same (cells_of (tiles ++ tile) j) (cells_of tiles j) (λ k m. get_or-append tiles tile 0 (j * 9 + k) (omega arith))

  bucket-new : bucket_of (cells_of (tiles ++ tile) n) ≡ b
  unfolding cells_of
  bucket-new =
      bucket-same (cells_of (tiles ++ tile) n) (λ k. get_or tile k 0)
      (λ k m. ap (λ (i : ℕ). get_or (tiles ++ tile) (i + k) 0) (sym whole) ∙ get_or-append-add tiles tile k 0)
      ∙ sym e

  before : (h m : ℕ) → m ≤ n → last_below m (in_bucket (tiles ++ tile) h) ≡ last_below m (in_bucket tiles h)
  unfolding in_bucket
  before h m a = last-ext m (in_bucket (tiles ++ tile) h) (in_bucket tiles h) (λ k p. ap (λ (x : ℕ). eqb x h) (bucket-before k (omega arith)))

  heads-now : (h : ℕ) → h < buckets → get_or (set heads b (n + 1)) h 0 ≡ last_below (n + 1) (in_bucket (tiles ++ tile) h)
  unfolding in_bucket
  heads-now h a =
      by-test (eqb h b)
      (λ t. let q = eqb-true h b t in
      ap (λ (x : ℕ). get_or (set heads b (n + 1)) x 0) q ∙ get_or-set_same heads b (n + 1) 0 (omega (arith, chained.wide))
      ∙ sym (last-here (in_bucket (tiles ++ tile) h) n (eq-eqb (bucket_of (cells_of (tiles ++ tile) n)) h (bucket-new ∙ sym q))))
      (λ t.
      get_or-set_other heads b h (n + 1) 0 (λ q. never (eqb h b) (eq-eqb h b q) t) ∙ chained.head h a
      ∙ ap (λ (m : ℕ). last_below m (in_bucket tiles h)) count
      ∙ sym (before h n (le_refl n))
      ∙ sym (last-before (in_bucket (tiles ++ tile) h) n (ne_eqb (bucket_of (cells_of (tiles ++ tile) n)) h (λ q. never (eqb h b) (eq-eqb h b (sym q ∙ bucket-new)) t))))

  nexts-now : (i : ℕ) → i < n + 1 → get_or (set nexts n (get_or heads b 0)) i 0 ≡ last_below i (in_bucket (tiles ++ tile) (bucket_of (cells_of (tiles ++ tile) i)))
  nexts-now i h =
      ⊎_elim
      (λ lt.
      get_or-set_other nexts n i (get_or heads b 0) 0 (ne_of_lt lt) ∙ chained.next i (omega (arith, count))
      ∙ ap (λ (x : ℕ). last_below i (in_bucket tiles x)) (sym (bucket-before i lt))
      ∙ sym (before (bucket_of (cells_of (tiles ++ tile) i)) i (omega arith)))
      (λ ge. let q : i ≡ n = omega arith in
      ap (λ (x : ℕ). get_or (set nexts n (get_or heads b 0)) x 0) q ∙ get_or-set_same nexts n (get_or heads b 0) 0 (omega (arith, chained.long))
      ∙ chained.head b l
      ∙ ap (λ (m : ℕ). last_below m (in_bucket tiles b)) count
      ∙ sym (before b n (le_refl n))
      ∙ ap (λ (x : ℕ). last_below n (in_bucket (tiles ++ tile) x)) (sym bucket-new)
      ∙ ap (λ (x : ℕ). last_below x (in_bucket (tiles ++ tile) (bucket_of (cells_of (tiles ++ tile) x)))) (sym q))
      (lt-or-le i n)

  pub chained_more : Chained (tiles ++ tile) (set heads b (n + 1)) (set nexts n (get_or heads b 0))
  chained_more =
      record {
        few = omega (arith, more);
        wide = length-set heads b (n + 1) ∙ chained.wide;
        long = length-set nexts n (get_or heads b 0) ∙ chained.long;
        head = λ h a. heads-now h a ∙ ap (λ (m : ℕ). last_below m (in_bucket (tiles ++ tile) h)) (sym more);
        next = λ i a. nexts-now i (subst (λ (m : ℕ). i < m) more a);
      }
