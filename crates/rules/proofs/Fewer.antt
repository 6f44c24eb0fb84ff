-- Fewer tiles fit where more pieces lie, over any shape of grid. Of the shape nothing is asked, but for a cell's own list (`Seen`).
--     fits-fewer    the one fact: a tile that fits a pattern fits one that shows less
--     lists-under   what is listed at a cell is listed where each kept window shows less, on another grid too
--     fit-count-fewer, lists-fewer    where every piece of p stands in q too, what fits or is listed on q fits or is listed on p
--     under-lay, under-lift    a piece more, and a piece less; put-stored: all pieces are still bare or colours of the count
--     recount-less, recount-more    counts that are what the pieces say, after a recount
--     own-colour, own-stays    where a piece stands, no other colour than its own is listed; and its own is, if it was before
-- Assumes nothing.
use Prim.Native.Nat.{ℕ, ◌+◌, ◌-◌, ◌*◌, ◌<◌, ◌≤◌}
use mathlib.Core.Path.{◌≡◌, refl, sym, ◌∙◌, ap, subst}
use mathlib.Core.Bool.{Bool, true, false}
use mathlib.Core.Logic.{◌⊎◌, inl, inr, ⊎_elim}
use mathlib.Core.List.{List}
use native.Mathlib.Nat.{le_refl}
use native.Mathlib.Omega.{arith}
use lib.Dec.{leb, eqb}
use lib.ListN.{length, get_or, set, length-set, get_or-eq_default}
use lib.Seq.{get_or-set_same, get_or-set_other}
use borrow.Author.Tests.{ltb-true, ltb-false, eqb-true, eqb-false, eq-eqb}
use Rattle.base.specs.Counting.{pick}
use Rattle.base.specs.Tables.{tab}
use Rattle.base.proofs.Bools.{by-test, or_left, and_left, and_right, and_both, pick_yes, pick_no}
use Rattle.base.proofs.Counted.{every-at, every-is, some_at, some_is, tally-less}
use Rattle.base.proofs.Tabled.{length-tab, get_d-tab}
use Rattle.base.proofs.Numbers.{lt-or-le, within-is}
use Rattle.rules.specs.Bounds.{bare}
use Rattle.rules.specs.Tests.{tiles_in, pieces_stored, piece_stored}
use Rattle.rules.specs.Grid.{Shape, colour_on, laid_on}
use Rattle.rules.specs.Fit.{pattern, agrees, agrees_at, fits_tile, fit_count, serves, has_fitting, lists}
use Rattle.rules.specs.Board.{counts_of, is_recounted, recounted}
use Rattle.rules.proofs.Meaning.{windows-from, windows-to, Agrees, Listed, lists-from, lists-to}
use Rattle.rules.proofs.Said.{counts-long, count_at-said}

-- ---- the one fact

-- what one place shows, beside what another does: nothing, or the same
abbrev pub ShowsLess : ℕ → ℕ → Type 0
ShowsLess a b = (a ≡ 0) ⊎ (b ≡ a)

-- a place that shows a piece asks the same there, and one that shows none asks nothing
agrees-fewer : (a b c : ℕ) → ShowsLess a b → agrees b c ≡ true → agrees a c ≡ true
unfolding agrees
agrees-fewer a b c u e = ⊎_elim (λ z. or_left (eqb a 0) (eqb a c) (eq-eqb a 0 z)) (λ z. subst (λ (x : ℕ). agrees x c ≡ true) z e) u

-- two patterns: the first shows at each place nothing, or what the second shows
module _ (tiles : List ℕ) (less more : ℕ → ℕ) (under : (i : ℕ) → i < 9 → ShowsLess (less i) (more i)) where
  pub fits-fewer : (n : ℕ) → fits_tile tiles more n ≡ true → fits_tile tiles less n ≡ true
  unfolding fits_tile
  fits-fewer n e =
      every-is (agrees_at tiles less n) 9 (λ i l. agrees-fewer _ _ _ (under i l) (every-at (agrees_at tiles more n) 9 e i l))

  count-fewer : fit_count tiles more ≤ fit_count tiles less
  unfolding fit_count
  count-fewer = tally-less (fits_tile tiles more) (fits_tile tiles less) (tiles_in tiles) (λ n l. fits-fewer n)

  has-fewer : (q t : ℕ) → has_fitting tiles more q t ≡ true → has_fitting tiles less q t ≡ true
  unfolding has_fitting
  has-fewer q t e =
      let w = some_at (serves tiles more q t) (tiles_in tiles) e in
      let there : Bool = eqb t (get_or tiles (w.0 * 9 + q) 0) in
      some_is (serves tiles less q t) (tiles_in tiles) w.0 w.1
      (and_both (fits_tile tiles less w.0) there
      (fits-fewer w.0 (and_left (fits_tile tiles more w.0) there w.2))
      (and_right (fits_tile tiles more w.0) there w.2))

-- cell k of grid g with the pieces p, and cell l of grid h with the pieces q: each window of the first that is kept is kept for the second,
-- and shows at each place nothing, or what it shows for the second
abbrev pub WindowsShowLess : Shape → List ℕ → ℕ → Shape → List ℕ → ℕ → Type 0
WindowsShowLess g p k h q l =
    (r : ℕ) → r < 9 → g.kept k r ≡ true
    → (h.kept l r ≡ true) × ((i : ℕ) → i < 9 → ShowsLess (pattern g p (g.start k r) i) (pattern h q (h.start l r) i))

pub lists-under : (tiles : List ℕ) (g : Shape) (p : List ℕ) (k : ℕ) (h : Shape) (q : List ℕ) (l : ℕ) → WindowsShowLess g p k h q l → (t : ℕ)
    → lists h tiles q l t ≡ true → lists g tiles p k t ≡ true
lists-under tiles g p k h q l less t e =
    windows-to g tiles p k t
    (λ r r< kept.
    let w = less r r< kept in
    has-fewer tiles (pattern g p (g.start k r)) (pattern h q (h.start l r)) w.1 r t (windows-from h tiles q l t e r r< w.0))

-- every piece of p stands in q too; past the edge neither has one
pub record Under (p q : List ℕ) : Type 0 where
  pub at : (k : ℕ) → ShowsLess (colour_on p k) (colour_on q k)

module _ (g : Shape) (tiles : List ℕ) {p q : List ℕ} (under : Under p q) where
  pub fit-count-fewer : (s : ℕ) → fit_count tiles (pattern g q s) ≤ fit_count tiles (pattern g p s)
  fit-count-fewer s = count-fewer tiles (pattern g p s) (pattern g q s) (λ i l. under.at (g.cell s i))

  pub lists-fewer : (k t : ℕ) → lists g tiles q k t ≡ true → lists g tiles p k t ≡ true
  lists-fewer k = lists-under tiles g p k g q k (λ r l kept. (kept, (λ i m. under.at (g.cell (g.start k r) i))))

-- ---- a piece more, a piece less

pub under_same : (p : List ℕ) → Under p p
under_same p = record { at = λ k. inr refl }

-- a cell without a piece shows none
pub shows-none : (p : List ℕ) (k : ℕ) → laid_on p k ≡ false → colour_on p k ≡ 0
shows-none p k off = omega (arith, ltb-false 1 (get_or p k 0) off)

pub under-lay : (p : List ℕ) (k v : ℕ) → laid_on p k ≡ false → Under p (set p k v)
under-lay p k v off =
    record {
      at =
          λ i.
          by-test (eqb i k)
          (λ e. inl (ap (colour_on p) (eqb-true i k e) ∙ shows-none p k off))
          (λ e. inr (ap (λ (x : ℕ). x - bare) (get_or-set_other p k i v 0 (eqb-false i k e))));
    }

pub under-lift : (p : List ℕ) (k : ℕ) → Under (set p k bare) p
under-lift p k =
    record {
      at =
          λ i.
          by-test (eqb i k)
          (λ e. inl (ap (colour_on (set p k bare)) (eqb-true i k e) ∙ none))
          (λ e. inr (sym (ap (λ (x : ℕ). x - bare) (get_or-set_other p k i bare 0 (eqb-false i k e)))));
    }
  where
    none : colour_on (set p k bare) k ≡ 0
    none =
        ⊎_elim
        (λ (k< : k < length p). ap (λ (x : ℕ). x - bare) (get_or-set_same p k bare 0 k<))
        (λ (past : length p ≤ k). ap (λ (x : ℕ). x - bare) (get_or-eq_default (set p k bare) 0 (omega (arith, length-set p k bare))))
        (lt-or-le k (length p))

-- pieces that have colours of the count, and one more of them
pub put-stored : (p : List ℕ) (count k v : ℕ) → pieces_stored p count ≡ true → 1 ≤ v → v ≤ count + 1 → pieces_stored (set p k v) count ≡ true
unfolding pieces_stored
put-stored p count k v s low high =
    every-is (piece_stored (set p k v) count) (length (set p k v))
    (λ i i<.
    let in_p : i < length p = omega (arith, length-set p k v) in
    by-test (eqb i k)
    (λ e.
    let same : i ≡ k = eqb-true i k e in
    let k< : k < length p = omega (arith, same, in_p) in
    rw (same, get_or-set_same p k v 0 k<) (within-is 1 (count + 1) v low high))
    (λ e. rw (get_or-set_other p k i v 0 (eqb-false i k e)) (every-at (piece_stored p count) (length p) s i in_p)))

-- ---- counts: a start is recounted, or its count stays

module _ (g : Shape) (tiles p q : List ℕ) (k s : ℕ) where
  abbrev again : ℕ
  again = get_or (recounted g tiles q k (counts_of g tiles p)) s 0

  abbrev had : ℕ
  had = get_or (counts_of g tiles p) s 0

  recount-at : (again ≡ had) ⊎ ((again ≡ fit_count tiles (pattern g q s)) × (had ≡ fit_count tiles (pattern g p s)))
  unfolding recounted
  recount-at =
      ⊎_elim
      (λ (s< : s < length (counts_of g tiles p)).
      let new = get_d-tab (length (counts_of g tiles p)) after s 0 s< in
      by-test (is_recounted g k s)
      (λ e.
      inr (
        new ∙ pick_yes (is_recounted g k s) (fit_count tiles (pattern g q s)) had e,
        count_at-said g tiles p s refl (omega (arith, counts-long g tiles p)) ∙ pick_yes (g.whole s) _ _ (and_right (leb (g.apart k s) 2) (g.whole s) e),
      ))
      (λ e. inl (new ∙ pick_no (is_recounted g k s) (fit_count tiles (pattern g q s)) had e)))
      (λ (past : length (counts_of g tiles p) ≤ s).
      inl
      (get_or-eq_default (tab (length (counts_of g tiles p)) after) 0 (omega (arith, length-tab (length (counts_of g tiles p)) after))
      ∙ sym (get_or-eq_default (counts_of g tiles p) 0 past)))
      (lt-or-le s (length (counts_of g tiles p)))
    where
      after : ℕ → ℕ
      after i = pick (is_recounted g k i) (fit_count tiles (pattern g q i)) (get_or (counts_of g tiles p) i 0)

  -- what holds of a count and itself, and of the numbers of tiles that fit, holds of the counts after and before
  recount-by : (P : ℕ → ℕ → Type 0) → ((n : ℕ) → P n n) → P (fit_count tiles (pattern g q s)) (fit_count tiles (pattern g p s)) → P again had
  recount-by P same there =
      ⊎_elim
      (λ e. subst (λ (x : ℕ). P x had) (sym e) (same had))
      (λ w. subst (λ (x : ℕ). P x had) (sym w.0) (subst (P (fit_count tiles (pattern g q s))) (sym w.1) there))
      recount-at

  pub recount-less : Under p q → again ≤ had
  recount-less u = recount-by (λ m n. m ≤ n) le_refl (fit-count-fewer g tiles u s)

  pub recount-more : Under q p → had ≤ again
  recount-more u = recount-by (λ m n. n ≤ m) le_refl (fit-count-fewer g tiles u s)

-- ---- a cell's own list

-- a window of cell k is kept, and each one that is kept shows the cell at the place by which it is named, and nowhere else
pub record Seen (g : Shape) (k : ℕ) : Type 0 where
  pub some : (q : ℕ) × (q < 9) × (g.kept k q ≡ true)
  pub here : (q : ℕ) → q < 9 → g.kept k q ≡ true → g.cell (g.start k q) q ≡ k
  pub once : (q i : ℕ) → q < 9 → i < 9 → g.kept k q ≡ true → g.cell (g.start k q) i ≡ k → i ≡ q

module _ (g : Shape) (tiles p : List ℕ) (k : ℕ) (seen : Seen g k) where
  -- where a piece stands, no other colour than its own is listed
  pub own-colour : (t : ℕ) → laid_on p k ≡ true → lists g tiles p k t ≡ true → t ≡ colour_on p k
  unfolding Listed Agrees
  own-colour t on e =
      let q = seen.some in
      let w = lists-from g tiles p k t e q.0 q.1 q.2 in
      let at : pattern g p (g.start k q.0) q.0 ≡ colour_on p k = ap (colour_on p) (seen.here q.0 q.1 q.2) in
      sym w.3 ∙ w.2 q.0 q.1 (λ z. shown (ltb-true 1 (get_or p k 0) on) (sym at ∙ z)) ∙ at
    where
      shown : {x : ℕ} → 1 < x → x - 1 ≡ 0 → ⊥
      shown h z = omega arith

  -- a colour that was listed is listed still when a piece of it stands there
  pub own-stays : (colour : ℕ) → k < length p → lists g tiles p k colour ≡ true → lists g tiles (set p k (colour + 1)) k colour ≡ true
  unfolding Listed Agrees
  own-stays colour k< e =
      lists-to g tiles (set p k (colour + 1)) k colour
      (λ q l kept.
      let w = lists-from g tiles p k colour e q l kept in (
        w.0,
        w.1,
        (λ i m laid.
            by-test (eqb (g.cell (g.start k q) i) k)
            (λ h.
            let at : g.cell (g.start k q) i ≡ k = eqb-true _ k h in
            ap (λ (x : ℕ). get_or tiles (w.0 * 9 + x) 0) (seen.once q i l m kept at) ∙ w.3 ∙ sym (ap (colour_on (set p k (colour + 1))) at ∙ put))
            (λ h.
            let same : pattern g (set p k (colour + 1)) (g.start k q) i ≡ pattern g p (g.start k q) i =
            ap (λ (x : ℕ). x - bare) (get_or-set_other p k (g.cell (g.start k q) i) (colour + 1) 0 (eqb-false _ k h)) in
            w.2 i m (λ z. laid (same ∙ z)) ∙ sym same)),
        w.3,
      ))
    where
      put : colour_on (set p k (colour + 1)) k ≡ colour
      put = let a : get_or (set p k (colour + 1)) k 0 ≡ colour + 1 = get_or-set_same p k (colour + 1) 0 k< in omega arith
