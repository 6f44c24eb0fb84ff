-- Laws of tile lists and of the store that they are written to, as the code meets them.
--     held, no_room, put      what adding one tile answers and leaves
--     Kept, kept_none, kept_on   the loop over a run of tiles: how many are kept of those so far, and what the store holds
--     full-end, done_end      the two ways out of it
-- Assumes nothing.
use Prim.Native.Nat.{ℕ, zero, suc, ◌+◌, ◌-◌, ◌*◌, ◌/◌, ◌≤◌, ◌<◌}
use mathlib.Core.Path.{◌≡◌, refl, sym, ◌∙◌, ap}
use mathlib.Core.Bool.{Bool, true, false}
use mathlib.Core.List.{List, [], ◌++◌, append_assoc, append-nil}
use mathlib.Core.Logic.{⊎_elim}
use native.Mathlib.Nat.{le_of_suc-le-suc, eq-or-lt_of_le}
use native.Mathlib.Numerals.{add-one}
use native.Mathlib.Omega.{arith}
use borrow.Author.Tests.{leb-true, leb-false}
use lib.Dec.{leb}
use lib.ListN.{length, get_or, take, drop, replicate, length-take, length-drop, length-append, take-append-drop}
use lib.Seq.{paste, take_all, take-append-le, length-take-le, drop-drop, drop-append-add, take_at}
use Rattle.std.specs.Prelude.{Ok, Err}
use Rattle.base.specs.Counting.{pick}
use Rattle.base.specs.Refusal.{refusal}
use Rattle.base.proofs.Bools.{by-test, pick_yes, pick_no}
use Rattle.base.proofs.Chain.{chain, all_pass}
use Rattle.rules.proofs.Answered.{answers, passed, told-by}
use Rattle.rules.specs.Bounds.{max_tiles}
use Rattle.rules.specs.Tests.{tiles_in}
use Rattle.rules.specs.Answers.{Answer, answered}
use Rattle.rules.specs.declared.Refusal.{Refusal}
use Rattle.rules.specs.declared.Refusal.TheVariants as Refusal·
use Rattle.rules.specs.Tiles.{has_tile, with_tile, distinct, store_with, room_check}
use Rattle.tile_seen.specs.Chains.{buckets, bucket_of, Chained, Notes}
use Rattle.tile_seen.proofs.Buckets.{chained-none, chained_more}
use Rattle.tiles.specs.Adding.{Adds, Gathers}

-- ---- the store

-- what fits is written as it stands
store-all : (l d : List ℕ) → length l ≤ tiles_in d * 9 → store_with l d ≡ l ++ drop (length l) d
unfolding store_with
store-all l d h = rw (take_all (tiles_in d * 9) l h)

-- whether they fit says what is answered
room-answer : (l d : List ℕ) → tiles_in d < tiles_in l → Err Refusal·.Room ≡ answered (refusal (room_check l d)) (tiles_in l)
room-answer l d h = search (chain, answers)

tiles-answer : (l d : List ℕ) (n : ℕ) → length l ≡ n * 9 → n ≤ tiles_in d → Ok n ≡ answered (refusal (room_check l d)) (tiles_in l)
tiles-answer l d n e h =
    let few : tiles_in l ≤ tiles_in d = omega arith in
    let count : n ≡ tiles_in l = omega arith in
    search (chain, answers)

-- and the answer says whether they fit
fits-answered : (l d : List ℕ) {x : Answer ℕ} {n : ℕ} → x ≡ answered (refusal (room_check l d)) (tiles_in l) → x ≡ Ok n → (tiles_in l ≤ tiles_in d) × (n ≡ tiles_in l)
fits-answered l d e was =
    let h = all_pass (room_check l d) refl (sym (passed (room_check l d) (tiles_in l) e was)) in
    (leb-true (tiles_in l) (tiles_in d) h, told-by (room_check l d) (tiles_in l) e was)

room-answered : (l d : List ℕ) {x : Answer ℕ} {r : Refusal} → x ≡ answered (refusal (room_check l d)) (tiles_in l) → x ≡ Err r → (◌≡◌ {A = Answer ℕ} (Err r) (Err Refusal·.Room)) × (tiles_in d < tiles_in l)
unfolding refusal
room-answered l d {r = r} e was =
    by-test (leb (tiles_in l) (tiles_in d)) (λ t. absurd (no-refusal (sym was ∙ (rw t at e)))) (λ t. (sym was ∙ (rw t at e), leb-false (tiles_in l) (tiles_in d) t))
  where
    no-refusal : {n : ℕ} → Err r ≡ Ok n → ⊥
    no-refusal q = cc

-- ---- one tile more: it is there, there is no room for it, or it is put behind the others
module _ (d t heads nexts : List ℕ) (n : ℕ) (fine : n ≤ tiles_in d) (few : n < max_tiles) (nine : length t ≡ 9) (c : Chained (take (n * 9) d) heads nexts) where
  own : length (take (n * 9) d) ≡ n * 9
  own = length-take-le (n * 9) d (omega arith)

  more : length (take (n * 9) d ++ t) ≡ n * 9 + 9
  more = simp (length-append, own, nine)

  pub held : has_tile (take (n * 9) d) t ≡ true → Adds d n t (Ok n) d heads nexts
  unfolding with_tile
  held e =
      let w : with_tile (take (n * 9) d) t ≡ take (n * 9) d = pick_yes (has_tile (take (n * 9) d) t) (take (n * 9) d) (take (n * 9) d ++ t) e in
      record {
        gathered =
            record {
              answered = rw w (tiles-answer (take (n * 9) d) d n own fine);
              leaves = rw w (sym (store-all (take (n * 9) d) d (omega (arith, own)) ∙ ap (λ (m : ℕ). take (n * 9) d ++ drop m d) own ∙ take-append-drop (n * 9) d));
            };
        chained = λ l. rw w c;
      }

  module _ (e : has_tile (take (n * 9) d) t ≡ false) where
    grown : with_tile (take (n * 9) d) t ≡ take (n * 9) d ++ t
    unfolding with_tile
    grown = pick_no (has_tile (take (n * 9) d) t) (take (n * 9) d) (take (n * 9) d ++ t) e

    pub no_room : length d - n * 9 < 9 → Adds d n t (Err Refusal·.Room) d heads nexts
    unfolding store_with
    no_room h =
        let q : n ≡ tiles_in d = omega arith in
        let f : take (tiles_in d * 9) (take (n * 9) d ++ t) ≡ take (n * 9) d =
        ap (λ (m : ℕ). take (m * 9) (take (n * 9) d ++ t)) (sym q) ∙ take_at (take (n * 9) d) t (n * 9) own in
        record {
          gathered =
              record {
                answered = rw grown (room-answer (take (n * 9) d ++ t) d (omega (arith, more)));
                leaves = rw (grown, f, own) (sym (take-append-drop (n * 9) d));
              };
          chained = λ l. absurd (out q (ap tiles_in grown) l);
        }
      where
        out : {m : ℕ} → n ≡ tiles_in d → m ≡ tiles_in (take (n * 9) d ++ t) → m ≤ tiles_in d → ⊥
        out q e l = omega (arith, more)

    pub put : (b : ℕ) (x heads' nexts' : List ℕ) → 9 ≤ length d - n * 9 → (b ≡ bucket_of (λ k. get_or t k 0)) × (b < buckets) → x ≡ paste d (n * 9) t 9
        → Notes n b heads nexts heads' nexts' → Adds d n t (Ok (n + 1)) x heads' nexts'
    put b x heads' nexts' h k p w =
        record {
          gathered =
              record {
                answered = rw grown (tiles-answer (take (n * 9) d ++ t) d (n + 1) (more ∙ omega arith) (omega arith));
                leaves =
                    rw grown
                    (p
                    ∙ sym (store-all (take (n * 9) d ++ t) d (omega (arith, more))
                    ∙ ap (λ (j : ℕ). (take (n * 9) d ++ t) ++ drop j d) more
                    ∙ ap (λ (y : List ℕ). (take (n * 9) d ++ y) ++ drop (n * 9 + 9) d) (sym (take_all 9 t (omega arith)))));
              };
          chained = λ l. rw (grown, w.heading, w.linking) (chained_more (take (n * 9) d) t heads nexts n b c own nine few k.1 k.0);
        }

-- ---- the distinct tiles of a run of tiles

with-grows : (l t : List ℕ) → (x : List ℕ) × (with_tile l t ≡ l ++ x)
unfolding with_tile
with-grows l t = go (has_tile l t)
  where
    go : (b : Bool) → (x : List ℕ) × (pick b l (l ++ t) ≡ l ++ x)
    go true = ([], sym (append-nil l))
    go false = (t, refl)

pub with-length : (l t : List ℕ) → length t ≡ 9 → (n : ℕ) → length l ≡ n * 9 → (m : ℕ) × (length (with_tile l t) ≡ m * 9) × (n ≤ m) × (m ≤ n + 1)
unfolding with_tile
with-length l t e n h = go (has_tile l t)
  where
    go : (b : Bool) → (m : ℕ) × (length (pick b l (l ++ t)) ≡ m * 9) × (n ≤ m) × (m ≤ n + 1)
    go true = (n, h, omega arith, omega arith)
    go false = (n + 1, simp length-append (omega arith), omega arith, omega arith)

module _ (f : ℕ → List ℕ) where
  pub distinct_more : (n : ℕ) → distinct (n + 1) f ≡ with_tile (distinct n f) (f n)
  unfolding distinct
  distinct_more n = rw add-one

  pub distinct-grows : (n m : ℕ) → n ≤ m → (x : List ℕ) × (distinct m f ≡ distinct n f ++ x)
  unfolding distinct
  distinct-grows n zero h = let z : n ≡ 0 = omega arith in ([], rw z)
  distinct-grows n (suc m) h = ⊎_elim (λ e. here e) (λ l. on (distinct-grows n m (le_of_suc-le-suc l))) (eq-or-lt_of_le h)
    where
      here : n ≡ suc m → (x : List ℕ) × (distinct (suc m) f ≡ distinct n f ++ x)
      here e = ([], ap (λ (k : ℕ). distinct k f) (sym e) ∙ sym (append-nil (distinct n f)))

      on : (x : List ℕ) × (distinct m f ≡ distinct n f ++ x) → (x : List ℕ) × (distinct (suc m) f ≡ distinct n f ++ x)
      on w =
          let a = with-grows (distinct m f) (f m) in
          (w.0 ++ a.0, a.1 ∙ ap (λ (y : List ℕ). y ++ a.0) w.1 ∙ append_assoc (distinct n f) w.0 a.0)

-- ---- the loop over the run: n tiles kept of the first v, in the store x that was d

-- what is written over what was written
store-over : (l x d : List ℕ) → length l ≤ tiles_in d * 9 → length l ≤ length x → store_with x (store_with l d) ≡ store_with x d
unfolding store_with
store-over l x d h g =
    let r : ℕ = tiles_in d * 9 in
    let e : store_with l d ≡ l ++ drop (length l) d = store-all l d h in
    let len : length (store_with l d) ≡ length d = ap length e ∙ length-append l (drop (length l) d) ∙ simp length-drop (omega arith) in
    let m : ℕ = length (take r x) in
    let q : length l ≤ m = rw (length-take r x) (omega arith) in
    ap (λ (k : ℕ). take (k / 9 * 9) x ++ drop (length (take (k / 9 * 9) x)) (store_with l d)) len
    ∙ ap (λ (y : List ℕ). take r x ++ drop m y) e
    ∙ ap (λ (y : List ℕ). take r x ++ y) (past m q)
  where
    past : (m : ℕ) → length l ≤ m → drop m (l ++ drop (length l) d) ≡ drop m d
    past m q =
        let s : m ≡ length l + (m - length l) = omega arith in
        ap (λ (k : ℕ). drop k (l ++ drop (length l) d)) s ∙ drop-append-add l (drop (length l) d) (m - length l)
        ∙ drop-drop (m - length l) (length l) d
        ∙ ap (λ (k : ℕ). drop k d) (sym s)

pub record Kept (f : ℕ → List ℕ) (d : List ℕ) (v n : ℕ) (x heads nexts : List ℕ) : Type 0 where
  pub whole : length (distinct v f) ≡ n * 9
  pub fitted : n ≤ tiles_in d
  pub few : n ≤ v
  pub same : length x ≡ length d
  pub stored : x ≡ store_with (distinct v f) d
  pub chained : Chained (distinct v f) heads nexts

pub kept_none : (f : ℕ → List ℕ) (d : List ℕ) → Kept f d 0 0 d (replicate buckets 0) (replicate max_tiles 0)
unfolding distinct
kept_none f d =
    record {
      whole = refl;
      fitted = omega arith;
      few = omega arith;
      same = refl;
      stored = sym (store-all [] d (omega arith));
      chained = chained-none;
    }

module _ (f : ℕ → List ℕ) (d : List ℕ) (v n : ℕ) (x heads nexts : List ℕ) (k : Kept f d v n x heads nexts) where
  -- the tiles kept so far are those at the store's head
  pub kept_back : take (n * 9) x ≡ distinct v f
  kept_back = ap (take (n * 9)) (k.stored ∙ store-all (distinct v f) d (omega (arith, k))) ∙ take_at (distinct v f) _ (n * 9) k.whole

  pub kept-chained : Chained (take (n * 9) x) heads nexts
  kept-chained = rw kept_back k.chained

  module _ (t : List ℕ) {x' : Answer ℕ} (y heads' nexts' : List ℕ) (here : t ≡ f v) (nine : length t ≡ 9) (told : Adds x n t x' y heads' nexts') where
    is-more : with_tile (take (n * 9) x) t ≡ distinct (v + 1) f
    is-more = rw (kept_back, here) (sym (distinct_more f v))

    kept-answer : x' ≡ answered (refusal (room_check (distinct (v + 1) f) x)) (tiles_in (distinct (v + 1) f))
    kept-answer = rw is-more at told.gathered.answered

    kept-size : (m : ℕ) × (length (distinct (v + 1) f) ≡ m * 9) × (n ≤ m) × (m ≤ n + 1)
    kept-size = rw (distinct_more f v) (with-length (distinct v f) (f v) (ap length (sym here) ∙ nine) n k.whole)

    kept_store : y ≡ store_with (distinct (v + 1) f) d
    kept_store =
        told.gathered.leaves ∙ ap (λ (l : List ℕ). store_with l x) is-more
        ∙ ap (λ (z : List ℕ). store_with (distinct (v + 1) f) z) k.stored
        ∙ store-over (distinct v f) (distinct (v + 1) f) d (omega (arith, k)) (omega (arith, k, kept-size))

    -- one tile more was kept, or was there
    pub kept_on : {r : ℕ} → x' ≡ Ok r → length y ≡ length d → Kept f d (v + 1) r y heads' nexts'
    kept_on was e =
        let told-fits = fits-answered (distinct (v + 1) f) x kept-answer was in
        record {
          whole = omega (arith, told-fits, kept-size);
          fitted = omega (arith, told-fits, k.same);
          few = omega (arith, told-fits, kept-size, k);
          same = e;
          stored = kept_store;
          chained = rw (sym is-more) (told.chained (rw is-more told-fits.0));
        }

    -- where they no longer fit, what the store holds is final
    pub full-end : {r : Refusal} (m : ℕ) → x' ≡ Err r → v < m → Gathers (distinct m f) d (Err r) y
    unfolding store_with
    full-end m was h =
        let g = room-answered (distinct (v + 1) f) x kept-answer was in
        let w = distinct-grows f (v + 1) m (omega arith) in
        let e : take (tiles_in d * 9) (distinct m f) ≡ take (tiles_in d * 9) (distinct (v + 1) f) =
        ap (take (tiles_in d * 9)) w.1 ∙ take-append-le (tiles_in d * 9) (distinct (v + 1) f) w.0 (omega (arith, g.1, k.same, kept-size)) in
        record {
          answered = g.0 ∙ room-answer (distinct m f) d (omega (arith, g.1, k.same, ap length w.1, length-append (distinct (v + 1) f) w.0));
          leaves = kept_store ∙ ap (λ (l : List ℕ). l ++ drop (length l) d) (sym e);
        }

  pub done_end : (m : ℕ) → v ≡ m → Gathers (distinct m f) d (Ok n) x
  done_end m e =
      let w : Kept f d m n x heads nexts = rw e at k in
      record { answered = tiles-answer (distinct m f) d n w.whole w.fitted; leaves = w.stored }
