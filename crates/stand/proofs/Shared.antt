-- What the pieces alone say stays true under lay and lift, on any shape of grid that is `Sound`.
--     laid-is, lifted-is   on a board that is what its pieces say, lay and lift leave one that is what its pieces say
--     fresh-is             a fresh board is what bare pieces say
--     weight-low, count_low   bounds of what the pieces say
-- Weights: one term of a sum changes; a lift undoes the lay that would put its piece back, so that stopping at 0 never matters. Counts: a
-- region that does not show the cell keeps its count. Assumes nothing.
use Prim.Native.Nat.{ℕ, ◌+◌, ◌-◌, ◌*◌, ◌<◌, ◌≤◌}
use mathlib.Core.Path.{◌≡◌, refl, sym, ◌∙◌, ap}
use mathlib.Core.Bool.{Bool, true, false, ◌&&◌}
use mathlib.Core.Logic.{◌≢◌, ⊎_elim}
use mathlib.Core.List.{List}
use native.Mathlib.Nat.{le_refl, zero-add}
use native.Mathlib.Omega.{arith}
use lib.Dec.{leb, ltb, eqb}
use lib.ListN.{length, get_or, set, length-set, get_or-eq_default}
use lib.Seq.{get_or-set_same, get_or-set_other, set-set, set-get_or}
use borrow.Author.Tests.{leb-false, ltb-true, lt-ltb, le-ltb, eq-eqb}
use Rattle.base.specs.Counting.{pick, sum}
use Rattle.base.specs.Tables.{tab}
use Rattle.base.proofs.Bools.{never, by-test, pick_yes, pick_no, and_right}
use Rattle.base.proofs.Counted.{sum_one, every-is}
use Rattle.base.proofs.Sums.{sum-none, sum_low}
use Rattle.base.proofs.Numbers.{lt-or-le}
use Rattle.base.proofs.Tabled.{length-tab, get_d-tab, tab-ext, is-tab}
use Rattle.rules.specs.Bounds.{bare}
use Rattle.rules.specs.Tests.{tiles_in}
use Rattle.rules.specs.Grid.{Shape, Kind, laid_on}
use Rattle.rules.specs.Fit.{pattern, fit_count}
use Rattle.rules.proofs.Shares.{share-le}
use Rattle.rules.proofs.Fitting.{count-ext, bare-fits, fit_low}
use Rattle.rules.specs.Board.{Board, share, reach, weights_of, counts_of, board_of, raised, lowered, is_recounted, recounted, laid, lifted, fresh_board}

-- all that is asked of a shape: a region that lies inside and starts further than two cells from cell k does not show cell k
pub record Sound (g : Shape) : Type 0 where
  pub unseen : (k s i : ℕ) → i < 9 → g.whole s ≡ true → 2 < g.apart k s → g.cell s i ≢ k

abbrev pub SoundKind : Kind → Type 0
SoundKind kind = (rows cols : ℕ) → Sound (kind rows cols)

-- equal planes make equal boards
abbrev planes : List ℕ → List ℕ → List ℕ → Board
planes p w c = record { pieces = p; weights = w; counts = c }

pub both : {p w x c d : List ℕ} → w ≡ x → c ≡ d → planes p w c ≡ planes p x d
both e f = rw (e, f)

-- a table whose entries are small; past its end stands 0
tab-low : (n m : ℕ) (f : ℕ → ℕ) → ((k : ℕ) → k < n → f k ≤ m) → (k : ℕ) → get_or (tab n f) k 0 ≤ m
tab-low n m f h k =
    ⊎_elim
    (λ lt. rw (get_d-tab n f k 0 lt) (h k lt))
    (λ ge. let a : get_or (tab n f) k 0 ≡ 0 = get_or-eq_default (tab n f) 0 (omega (arith, length-tab n f)) in omega arith)
    (lt-or-le k n)

-- no piece stands on bare pieces
bare-off : (n k : ℕ) → get_or (tab n (λ i. bare)) k 0 ≤ 1
bare-off n = tab-low n 1 (λ i. bare) (λ i i<. le_refl 1)

-- of two tests that do not both hold, the first does not hold where the second does
not_first : (a b : Bool) → b ≡ true → (a && b) ≡ false → a ≡ false
not_first true b p e = never b p e
not_first false b p e = refl

-- ---- fits

-- every tile fits where nothing is laid
fit_all : (tiles : List ℕ) (shown : ℕ → ℕ) → ((i : ℕ) → i < 9 → shown i ≡ 0) → fit_count tiles shown ≡ tiles_in tiles
fit_all tiles shown none = sym (bare-fits tiles shown (every-is (λ i. eqb (shown i) 0) 9 (λ i i<. eq-eqb (shown i) 0 (none i i<))))

-- ---- weights

module _ (g : Shape) where
  -- what a piece on cell j adds to cell k, where one stands there
  abbrev term : List ℕ → ℕ → ℕ → ℕ
  term p k j = pick (laid_on p j) (reach g j k) 0

  -- the weight of cell i on a board of n cells
  abbrev weight_at : ℕ → List ℕ → ℕ → ℕ
  weight_at n p i = 1 + sum n (term p i)

  pub lay-weights : (p : List ℕ) (k v : ℕ) → k < length p → laid_on p k ≡ false → 1 < v → raised g k (weights_of g p) ≡ weights_of g (set p k v)
  unfolding raised weights_of
  lay-weights p k v k< off on =
      ap (λ (n : ℕ). tab n (λ i. get_or (tab (length p) was) i 0 + reach g k i)) (length-tab (length p) was)
      ∙ tab-ext (length p) (λ i. get_or (tab (length p) was) i 0 + reach g k i) (weight_at (length p) (set p k v)) at
      ∙ ap (λ (n : ℕ). tab n (weight_at n (set p k v))) (sym (length-set p k v))
    where
      was : ℕ → ℕ
      was = weight_at (length p) p

      here : (i : ℕ) → term (set p k v) i k ≡ term p i k + reach g k i
      here i =
          pick_yes (laid_on (set p k v) k) (reach g k i) 0 (ap (λ (x : ℕ). ltb 1 x) (get_or-set_same p k v 0 k<) ∙ lt-ltb 1 v on)
          ∙ sym (ap (λ (x : ℕ). x + reach g k i) (pick_no (laid_on p k) (reach g k i) 0 off) ∙ zero-add (reach g k i))

      there : (i j : ℕ) → j < length p → j ≢ k → term (set p k v) i j ≡ term p i j
      there i j j< ne = ap (λ (x : ℕ). pick (ltb 1 x) (reach g j i) 0) (get_or-set_other p k j v 0 ne)

      at : (i : ℕ) → i < length p → get_or (tab (length p) was) i 0 + reach g k i ≡ weight_at (length p) (set p k v) i
      at i i< =
          let a : get_or (tab (length p) was) i 0 ≡ was i = get_d-tab (length p) was i 0 i< in
          let b : sum (length p) (term (set p k v) i) ≡ sum (length p) (term p i) + reach g k i =
          sum_one (length p) k (reach g k i) (term p i) (term (set p k v) i) k< (here i) (there i) in
          omega arith

  lowered-raised : (k : ℕ) (w : List ℕ) → lowered g k (raised g k w) ≡ w
  unfolding raised lowered
  lowered-raised k w =
      ap (λ (n : ℕ). tab n (λ i. get_or (tab (length w) up) i 0 - reach g k i)) (length-tab (length w) up)
      ∙ sym (is-tab 0 w (length w) (λ i. get_or (tab (length w) up) i 0 - reach g k i) refl at)
    where
      up : ℕ → ℕ
      up i = get_or w i 0 + reach g k i

      at : (i : ℕ) → i < length w → get_or w i 0 ≡ get_or (tab (length w) up) i 0 - reach g k i
      at i i< = let a : get_or (tab (length w) up) i 0 ≡ up i = get_d-tab (length w) up i 0 i< in omega arith

  -- the weights before the lift are those that laying the lifted piece again would leave
  pub lift-weights : (p : List ℕ) (k : ℕ) → k < length p → laid_on p k ≡ true → lowered g k (weights_of g p) ≡ weights_of g (set p k bare)
  lift-weights p k k< on = ap (lowered g k) before ∙ lowered-raised k (weights_of g (set p k bare))
    where
      back : set (set p k bare) k (get_or p k 0) ≡ p
      back = set-set p k bare (get_or p k 0) ∙ set-get_or p k 0

      before : weights_of g p ≡ raised g k (weights_of g (set p k bare))
      before =
          sym
          (lay-weights (set p k bare) k (get_or p k 0) (omega (arith, length-set p k bare))
          (ap (λ (x : ℕ). ltb 1 x) (get_or-set_same p k bare 0 k<))
          (ltb-true 1 (get_or p k 0) on)
          ∙ ap (weights_of g) back)

  -- ---- counts

  -- a region that does not show the cell that changes is fitted by the same tiles
  pub count_kept : (tiles p : List ℕ) (k v s : ℕ) → ((i : ℕ) → i < 9 → g.cell s i ≢ k)
      → fit_count tiles (pattern g p s) ≡ fit_count tiles (pattern g (set p k v) s)
  count_kept tiles p k v s hidden =
      count-ext tiles (pattern g p s) (pattern g (set p k v) s) (λ i i<. ap (λ (x : ℕ). x - 1) (sym (get_or-set_other p k (g.cell s i) v 0 (hidden i i<))))

  module _ (sound : Sound g) (tiles : List ℕ) where
    -- recounting the near starts suffices
    pub recount : (p : List ℕ) (k v : ℕ) → recounted g tiles (set p k v) k (counts_of g tiles p) ≡ counts_of g tiles (set p k v)
    unfolding recounted counts_of
    recount p k v =
        ap (λ (n : ℕ). tab n again) (length-tab (length p) (counted p))
        ∙ tab-ext (length p) again (counted (set p k v)) at
        ∙ ap (λ (n : ℕ). tab n (counted (set p k v))) (sym (length-set p k v))
      where
        fits : List ℕ → ℕ → ℕ
        fits q s = fit_count tiles (pattern g q s)

        counted : List ℕ → ℕ → ℕ
        counted q s = pick (g.whole s) (fits q s) (tiles_in tiles)

        again : ℕ → ℕ
        again s = pick (is_recounted g k s) (fits (set p k v) s) (get_or (tab (length p) (counted p)) s 0)

        -- a region that is not recounted lies inside and shows the same, or passes the edge
        kept : (s : ℕ) → is_recounted g k s ≡ false → counted p s ≡ counted (set p k v) s
        kept s far =
            by-test (g.whole s)
            (λ inside.
            ap (λ (n : ℕ). pick (g.whole s) n (tiles_in tiles))
            (count_kept tiles p k v s
            (λ i i<. sound.unseen k s i i< inside (leb-false (g.apart k s) 2 (not_first (leb (g.apart k s) 2) (g.whole s) inside far)))))
            (λ past. pick_no (g.whole s) (fits p s) (tiles_in tiles) past ∙ sym (pick_no (g.whole s) (fits (set p k v) s) (tiles_in tiles) past))

        at : (s : ℕ) → s < length p → again s ≡ counted (set p k v) s
        at s s< =
            by-test (is_recounted g k s)
            (λ near.
            pick_yes (is_recounted g k s) (fits (set p k v) s) _ near
            ∙ sym (pick_yes (g.whole s) (fits (set p k v) s) (tiles_in tiles) (and_right (leb (g.apart k s) 2) (g.whole s) near)))
            (λ far.
            pick_no (is_recounted g k s) (fits (set p k v) s) _ far
            ∙ get_d-tab (length p) (counted p) s 0 s<
            ∙ kept s far)

    -- ---- boards

    pub laid-is : (p : List ℕ) (k colour : ℕ) → k < length p → laid_on p k ≡ false → 0 < colour
        → laid g tiles (board_of g tiles p) k colour ≡ board_of g tiles (set p k (colour + 1))
    unfolding laid board_of
    laid-is p k colour k< off some = both (lay-weights p k (colour + 1) k< off (omega arith)) (recount p k (colour + 1))

    pub lifted-is : (p : List ℕ) (k : ℕ) → k < length p → laid_on p k ≡ true
        → lifted g tiles (board_of g tiles p) k ≡ board_of g tiles (set p k bare)
    unfolding lifted board_of
    lifted-is p k k< on = both (lift-weights p k k< on) (recount p k bare)

  -- ---- a board with nothing on it

  pub fresh-is : (tiles : List ℕ) (n : ℕ) → fresh_board n (tiles_in tiles) ≡ board_of g tiles (tab n (λ k. bare))
  unfolding fresh_board board_of weights_of counts_of
  fresh-is tiles n =
      both
      (tab-ext n (λ k. 1) (weight_at n none)
      (λ k k<. sym (ap (λ (m : ℕ). 1 + m) (sum-none n (term none k) (λ j j<. pick_no (laid_on none j) (reach g j k) 0 (le-ltb 1 (get_or none j 0) (bare-off n j))))))
      ∙ ap (λ (m : ℕ). tab m (weight_at m none)) (sym long))
      (tab-ext n (λ s. tiles_in tiles) counted
      (λ s s<. sym (same (g.whole s) (fit_all tiles (pattern g none s) (λ i i<. omega (arith, bare-off n (g.cell s i))))))
      ∙ ap (λ (m : ℕ). tab m counted) (sym long))
    where
      none : List ℕ
      none = tab n (λ k. bare)

      long : length none ≡ n
      long = length-tab n (λ k. bare)

      counted : ℕ → ℕ
      counted s = pick (g.whole s) (fit_count tiles (pattern g none s)) (tiles_in tiles)

      same : (t : Bool) {n m : ℕ} → n ≡ m → pick t n m ≡ m
      same true e = e
      same false e = refl

  -- ---- bounds

  pub weight-low : (p : List ℕ) (k : ℕ) → get_or (weights_of g p) k 0 ≤ 1 + length p * 3
  unfolding weights_of
  weight-low p =
      tab-low (length p) (1 + length p * 3) (weight_at (length p) p)
      (λ k k<. let a : sum (length p) (term p k) ≤ length p * 3 = sum_low (length p) 3 (term p k) (λ j j<. at (laid_on p j) (g.apart j k)) in omega arith)
    where
      at : (t : Bool) (d : ℕ) → pick t (share d) 0 ≤ 3
      at true d = share-le d
      at false d = omega arith

  pub count_low : (tiles p : List ℕ) (s : ℕ) → get_or (counts_of g tiles p) s 0 ≤ tiles_in tiles
  unfolding counts_of
  count_low tiles p =
      tab-low (length p) (tiles_in tiles) (λ s. pick (g.whole s) (fit_count tiles (pattern g p s)) (tiles_in tiles))
      (λ s s<. at (g.whole s) (fit_low tiles (pattern g p s)))
    where
      at : (t : Bool) {n m : ℕ} → n ≤ m → pick t n m ≤ m
      at true h = h
      at false {m} h = le_refl m
