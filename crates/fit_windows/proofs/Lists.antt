-- Which colours are left, as the loops find them.
--     without-this    a set less what it has in common with one colour
--     past-misfit, past-fitting    one tile tried
--     missing-first, missing-turn, missing-end, missing-none    a walk of the tiles until no colour is missing
--     skip-above, skip-beside, kept-left    a window that is skipped, and one that is kept
--     in-patch    the window says of a colour in the patch what it says on the board
--     left-first, left-turn, left-none    the nine windows; once no colour is left, none is listed
-- Assumes nothing.
use Prim.Native.Nat.{ℕ, zero, suc, ◌+◌, ◌-◌, ◌*◌, ◌/◌, ◌%◌, ◌^◌, ◌<◌, ◌≤◌}
use mathlib.Core.Path.{◌≡◌, refl, sym, ◌∙◌, ap}
use mathlib.Core.Bool.{Bool, true, false, not, ◌&&◌, ◌||◌}
use mathlib.Core.List.{List}
use native.Mathlib.Nat.{zero-div, lt_of_lt_of_le}
use native.Mathlib.Omega.{arith}
use borrow.Author.Tests.{not-false, le-leb, lt-leb, leb-true}
use lib.Dec.{eqb, leb}
use lib.ListN.{get_or}
use lib.Pow.{pow_mono}
use Rattle.base.specs.Counting.{some}
use Rattle.base.specs.Tables.{tab}
use Rattle.base.proofs.Bools.{never, not-is-true, by-test, and_left, and_right, and-no-left, and-no-right}
use Rattle.base.proofs.Counted.{every_more, every-at, every-is, every-none, some-none, some_more, some_at, some_is}
use Rattle.rules.specs.Bounds.{max_colours}
use Rattle.rules.specs.Tests.{tiles_in}
use Rattle.rules.specs.Sets.{has, bits_of}
use Rattle.rules.specs.Grid.{Shape, cell_at, entry_of, flat}
use Rattle.rules.specs.Fit.{fits_tile, serves, has_fitting, allows, window_order, left_after, lists}
use Rattle.bitset_colours.proofs.Digits.{bits-lt, bits-ext, bits-has, none_is}
use Rattle.fit_pattern.specs.Patch.{patch_round, window_of}
use Rattle.fit_pattern.proofs.Flat.{kept-is}
use Rattle.fit_pattern.proofs.Patch.{window-shown}
use Rattle.fit_windows.specs.Kept.{Keeps, allows_in}
use Rattle.fit_windows.proofs.Kept.{none_has, keeps-all, keeps-ext, keeps-both, keeps-rest, keeps-none}
use Rattle.rules.proofs.Fitting.{has-ext}

pub few-lt : (n x : ℕ) (f : ℕ → Bool) → n ≤ max_colours → x ≡ bits_of n f → x < 2 ^ max_colours
few-lt n x f few e = rw e (lt_of_lt_of_le (bits-lt n f) (pow_mono {i = n} {j = max_colours} few))

no-colour : (u : ℕ) → has 0 u ≡ false
unfolding has
no-colour zero = refl
no-colour (suc k) = rw (zero-div (2 ^ k))

-- the set `one` has the colour t alone
pub without-this : {bits one there : ℕ} (t : ℕ) → one ≡ bits_of max_colours (λ u. has 0 u || eqb u t) → Keeps bits (has one) there
    → Keeps bits (λ u. not (eqb u t)) (bits - there)
without-this {bits} {one} t e k = keeps-ext (keeps-rest k) (λ u a b. ap not (alone u a b))
  where
    alone : (u : ℕ) → 1 ≤ u → u ≤ max_colours → has one u ≡ eqb u t
    alone u a b =
        ap (λ (y : ℕ). has y u) e ∙ bits-has max_colours (λ v. has 0 v || eqb v t) u a b ∙ ap (λ (h : Bool). h || eqb u t) (no-colour u)

-- ---- the tiles

-- no tile below n serves colour t
abbrev pub unserved : List ℕ → (ℕ → ℕ) → ℕ → ℕ → ℕ → Bool
unserved tiles shown q n t = not (some n (serves tiles shown q t))

module _ (tiles : List ℕ) (shown : ℕ → ℕ) (q : ℕ) where
  -- one tile: it serves no colour where it does not fit, else the one that it has at place q
  pub past-misfit : {missing : ℕ} (n : ℕ) → fits_tile tiles shown n ≡ false → Keeps missing (λ t. not (serves tiles shown q t n)) missing
  past-misfit n e = keeps-all (λ t. rw e)

  pub past-fitting : {missing x : ℕ} (n : ℕ) → fits_tile tiles shown n ≡ true → Keeps missing (λ t. not (eqb t (get_or tiles (n * 9 + q) 0))) x
      → Keeps missing (λ t. not (serves tiles shown q t n)) x
  past-fitting n e k = keeps-ext k (λ t a b. sym (ap (λ (f : Bool). not (f && eqb t (get_or tiles (n * 9 + q) 0))) e))

  -- the walk of them: what is missing of the colours left
  module _ {left : ℕ} where
    pub missing-first : Keeps left (unserved tiles shown q 0) left
    missing-first = keeps-all (λ t. not-is-true _ (some-none (serves tiles shown q t)))

    pub missing-turn : {x y : ℕ} (n : ℕ) → Keeps left (unserved tiles shown q n) x → Keeps x (λ t. not (serves tiles shown q t n)) y
        → Keeps left (unserved tiles shown q (n + 1)) y
    missing-turn n k h =
        keeps-ext (keeps-both k h) (λ t a b.
        neither (some n (serves tiles shown q t)) (serves tiles shown q t n) ∙ ap not (sym (some_more (serves tiles shown q t) n)))
      where
        neither : (a b : Bool) → (not a && not b) ≡ not (a || b)
        neither true b = refl
        neither false b = refl

    pub missing-end : {n x : ℕ} → n ≤ tiles_in tiles → tiles_in tiles ≤ n → Keeps left (unserved tiles shown q n) x
        → Keeps left (has_fitting tiles shown q) (left - x)
    unfolding has_fitting
    missing-end {n} p r k =
        let same : n ≡ tiles_in tiles = omega arith in
        keeps-ext (keeps-rest k) (λ t a b. not-not _ ∙ ap (λ (m : ℕ). some m (serves tiles shown q t)) same)
      where
        not-not : (b : Bool) → not (not b) ≡ b
        not-not true = refl
        not-not false = refl

    pub missing-none : {n x : ℕ} → n ≤ tiles_in tiles → Keeps left (unserved tiles shown q n) x → x ≡ 0 → Keeps left (has_fitting tiles shown q) left
    unfolding has_fitting
    missing-none {n} p k z = keeps-none k z (λ t e. later t (not-false (some n (serves tiles shown q t)) e))
      where
        later : (t : ℕ) → some n (serves tiles shown q t) ≡ true → some (tiles_in tiles) (serves tiles shown q t) ≡ true
        later t s =
            let w = some_at (serves tiles shown q t) n s in
            some_is (serves tiles shown q t) (tiles_in tiles) w.0 (omega (arith, w.1)) w.2

-- ---- the windows of a cell, in the patch round it

module _ (tiles patch : List ℕ) (row col : ℕ) where
  -- a window that starts above or left of the grid is skipped, and allows every colour
  pub skip-above : {left : ℕ} (q : ℕ) → row < q / 3 → Keeps left (λ t. allows_in tiles patch row col t q) left
  skip-above q p = keeps-all (λ t. rw (and-no-left (leb (q / 3) row) (leb (q % 3) col) (lt-leb (q / 3) row p)))

  pub skip-beside : {left : ℕ} (q : ℕ) → col < q % 3 → Keeps left (λ t. allows_in tiles patch row col t q) left
  skip-beside q p = keeps-all (λ t. rw (and-no-right (leb (q / 3) row) (leb (q % 3) col) (lt-leb (q % 3) col p)))

  -- any other allows what it has a fitting tile for
  pub kept-left : {left x : ℕ} (q : ℕ) → q / 3 ≤ row → q % 3 ≤ col → Keeps left (has_fitting tiles (window_of patch q) q) x
      → Keeps left (λ t. allows_in tiles patch row col t q) x
  kept-left q p r h = keeps-ext h (λ t a b. sym (rw (le-leb (q / 3) row p, le-leb (q % 3) col r)))

-- what the patch that was read says of a window is what the board says
module _ (rows cols : ℕ) (tiles pieces patch : List ℕ) (row col : ℕ) (colwise : col < cols) (read : patch ≡ tab 25 (patch_round rows cols pieces (cell_at row col)))
  where
    pub in-patch : (t q : ℕ) → q < 9 → allows_in tiles patch row col t q ≡ allows (flat rows cols) tiles pieces (entry_of cols (cell_at row col)) t q
    unfolding allows
    in-patch t q l =
        ap (λ (b : Bool). not b || has_fitting tiles (window_of patch q) q t) (sym (kept-is rows cols (cell_at row col) q colwise))
        ∙ same_kept ((flat rows cols).kept (entry_of cols (cell_at row col)) q) (λ e.
        let both = sym (kept-is rows cols (cell_at row col) q colwise) ∙ e in
        has-ext tiles (window_of patch q) _
        (window-shown rows cols pieces (cell_at row col) q l (leb-true (q / 3) row (and_left _ _ both)) (leb-true (q % 3) col (and_right (leb (q / 3) row) _ both)) colwise
        patch read)
        q t)
      where
        same_kept : (b : Bool) {x y : Bool} → (b ≡ true → x ≡ y) → (not b || x) ≡ (not b || y)
        same_kept true h = h refl
        same_kept false h = refl

-- the nine windows
module _ (g : Shape) (tiles pieces : List ℕ) (k count : ℕ) where
  pub left-first : bits_of count (λ t. true) ≡ bits_of count (left_after g tiles pieces k 0)
  unfolding left_after
  left-first = bits-ext count _ _ (λ t a b. sym (every-none (λ i. allows g tiles pieces k t (get_or window_order i 0))))

  pub left-turn : {left q x : ℕ} (i : ℕ) → count ≤ max_colours → left ≡ bits_of count (left_after g tiles pieces k i) → q ≡ get_or window_order i 0
      → Keeps left (λ t. allows g tiles pieces k t q) x → x ≡ bits_of count (left_after g tiles pieces k (i + 1))
  unfolding left_after
  left-turn {left} {q} i few e p h =
      h.is count few (rw e (bits-lt count _))
      ∙ bits-ext count _ _ (λ t a b.
      ap (λ (o : Bool). o && allows g tiles pieces k t q) (ap (λ (x : ℕ). has x t) e ∙ bits-has count (left_after g tiles pieces k i) t a b)
      ∙ ap (λ (j : ℕ). left_after g tiles pieces k i t && allows g tiles pieces k t j) p
      ∙ sym (every_more (λ j. allows g tiles pieces k t (get_or window_order j 0)) i))

  -- once no colour is left, none is listed
  pub left-none : {i left : ℕ} → i ≤ 9 → left ≡ bits_of count (left_after g tiles pieces k i) → left ≡ 0 → 0 ≡ bits_of count (lists g tiles pieces k)
  unfolding left_after
  left-none {i} {left} p e z =
      none_is count ∙ bits-ext count (λ t. false) (lists g tiles pieces k) (λ t a b.
      gone (none_has count (left_after g tiles pieces k i) (sym e ∙ z) t a b) (λ h. every-is _ i (λ j l. every-at _ 9 h j (omega arith))))
    where
      gone : {now later : Bool} → now ≡ false → (later ≡ true → now ≡ true) → false ≡ later
      gone {now} {later} n h = by-test later (λ e. never now (h e) n) (λ e. sym e)
