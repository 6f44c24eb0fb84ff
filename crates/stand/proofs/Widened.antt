-- A board is widened: what its pieces say is what they say in the wider panel.
--     widened_is    a board that is what its pieces say, widened, is what the moved pieces say
--     old-spread, new-spread, old-or-new    the cells of a wider plane: each is one of the old ones, or new
--     spread-is     a plane of the wider panel is known by its old and by its new cells
-- What is asked of a kind of grid: that the smaller one stands in the wider one, cell by cell (`GridsEmbed`); for lists, that the windows of
-- its cells stay (`GridsKeepWindows`). Assumes nothing.
use Prim.Native.Nat.{ℕ, ◌+◌, ◌-◌, ◌*◌, ◌/◌, ◌%◌, ◌<◌}
use mathlib.Core.Path.{◌≡◌, refl, sym, ◌∙◌, ap, subst}
use mathlib.Core.Bool.{Bool, true}
use mathlib.Core.Logic.{◌⊎◌, inl, inr, ⊎_elim}
use mathlib.Core.List.{List}
use native.Mathlib.Omega.{arith}
use lib.Dec.{ltb}
use lib.ListN.{length, get_or}
use Rattle.base.specs.Regions.{inside}
use Rattle.base.specs.Tables.{tab}
use Rattle.base.proofs.Bools.{never, by-test, and_both}
use Rattle.base.proofs.Numbers.{cell-lt, row_of, col-of, cell-is, row_in, col-in}
use Rattle.base.proofs.Regions.{is-between}
use Rattle.base.proofs.Tabled.{length-tab, get_d-tab, tab-ext, is-tab}
use Rattle.rules.specs.Bounds.{bare}
use Rattle.rules.specs.Grid.{Kind, cell_at, entry_of}
use Rattle.rules.specs.Places.{new_rows, new_cols, copied_cell, copied}
use Rattle.rules.specs.Board.{Panel, shape_of, weights_of, board_of}
use Rattle.rules.specs.Widening.{wider, widened_pieces, widened_weights, widened}
use Rattle.rules.specs.declared.Pads.{Pads}
use Rattle.rules.proofs.Copying.{old-at, old-cell, new-cell}
use Rattle.rules.proofs.Said.{weights-long, weight-at}
use Rattle.stand.proofs.Shared.{both}
use Rattle.stand.proofs.Moved.{New, Embeds, WindowsStay, Carried, weight-carried}

-- where cell k of a panel of so many columns stands in the wider one
abbrev pub embedded : ℕ → Pads → ℕ → ℕ
embedded cols p k = entry_of (new_cols cols p) (cell_at (p.left + k / cols) (p.top + k % cols))

-- what a widening asks of a kind of grid
abbrev pub GridsEmbed : Kind → Type 0
GridsEmbed kind =
    (rows cols : ℕ) (p : Pads)
    → Embeds (kind rows cols) (kind (new_rows rows p) (new_cols cols p)) (rows * cols) (new_rows rows p * new_cols cols p) (embedded cols p)

-- and what it asks for the lists of the cells
abbrev pub GridsKeepWindows : Kind → Type 0
GridsKeepWindows kind =
    (rows cols : ℕ) (p : Pads) → WindowsStay (kind rows cols) (kind (new_rows rows p) (new_cols cols p)) (rows * cols) (embedded cols p)

module _ (rows cols : ℕ) (p : Pads) where
  abbrev wide : ℕ
  wide = new_cols cols p

  abbrev cells : ℕ
  cells = rows * cols

  abbrev wider_cells : ℕ
  wider_cells = new_rows rows p * wide

  module _ (k : ℕ) (k< : k < cells) where
    -- the row and the column where an old cell stands
    wide-col : p.top + k % cols < wide
    wide-col = omega (arith, col-in k rows cols k<)

    pub embedded-row : embedded cols p k / wide ≡ p.left + k / cols
    embedded-row = row_of (p.left + k / cols) wide-col

    pub embedded-col : embedded cols p k % wide ≡ p.top + k % cols
    embedded-col = col-of (p.left + k / cols) wide-col

    pub embedded-in : embedded cols p k < wider_cells
    embedded-in = cell-lt {r = p.left + k / cols} {c = p.top + k % cols} (omega (arith, row_in k rows cols k<)) wide-col

  -- the test of an old cell by its row and its column, and which one it is
  abbrev is_old : ℕ → ℕ → Bool
  is_old r c = inside p.left (p.left + rows) p.top (p.top + cols) r c

  abbrev old_at : ℕ → ℕ → ℕ
  old_at r c = entry_of cols (cell_at (r - p.left) (c - p.top))

  embedded-old : (k : ℕ) → k < cells → is_old (embedded cols p k / wide) (embedded cols p k % wide) ≡ true
  embedded-old k k< =
      rw (embedded-row k k<, embedded-col k k<)
      (and_both _ _
      (is-between p.left (p.left + rows) (p.left + k / cols) (omega arith) (omega (arith, row_in k rows cols k<)))
      (is-between p.top (p.top + cols) (p.top + k % cols) (omega arith) (omega (arith, col-in k rows cols k<))))

  is-old : (k : ℕ) → is_old (k / wide) (k % wide) ≡ true → (old_at (k / wide) (k % wide) < cells) × (embedded cols p (old_at (k / wide) (k % wide)) ≡ k)
  is-old k e =
      let r : ℕ = k / wide in
      let c : ℕ = k % wide in
      let o = old-at rows cols p r c e in
      let er : p.left + old_at r c / cols ≡ r = omega (arith, o.below, row_of (r - p.left) o.colwise) in
      let ec : p.top + old_at r c % cols ≡ c = omega (arith, o.after, col-of (r - p.left) o.colwise) in
      (o.entry, rw (er, ec) (cell-is k wide))

  -- what a cell of the wider plane holds, with x in new cells
  abbrev spread_at : List ℕ → ℕ → ℕ → ℕ
  spread_at plane x k = copied_cell 0 x plane rows cols p (k / wide) (k % wide)

  pub old-spread : (plane : List ℕ) (x k : ℕ) → k < cells → spread_at plane x (embedded cols p k) ≡ get_or plane k 0
  old-spread plane x k k< =
      rw (embedded-row k k<, embedded-col k k<) (old-cell 0 x plane rows cols p (k / cols) (k % cols) (row_in k rows cols k<) (col-in k rows cols k<))
      ∙ ap (λ (i : ℕ). get_or plane i 0) (cell-is k cols)

  pub new-spread : (plane : List ℕ) (x k : ℕ) → New cells (embedded cols p) k → spread_at plane x k ≡ x
  new-spread plane x k new =
      by-test (is_old (k / wide) (k % wide))
      (λ e. let o = is-old k e in absurd (new _ o.0 o.1))
      (λ e. new-cell 0 x plane rows cols p (k / wide) (k % wide) e)

  -- each cell is one of the old ones, or new
  record Old (k : ℕ) : Type 0 where
    from : ℕ
    below : from < cells
    here : embedded cols p from ≡ k

  old-or-new : (k : ℕ) → Old k ⊎ New cells (embedded cols p) k
  old-or-new k =
      by-test (is_old (k / wide) (k % wide))
      (λ e. let o = is-old k e in inl (record { from = old_at (k / wide) (k % wide); below = o.0; here = o.1 }))
      (λ e. inr (λ j j< h. never _ (subst (λ (n : ℕ). is_old (n / wide) (n % wide) ≡ true) h (embedded-old j j<)) e))

  pub spread-is : (plane : List ℕ) (fill f : ℕ → ℕ) → ((k : ℕ) → k < cells → f (embedded cols p k) ≡ get_or plane k 0)
      → ((k : ℕ) → k < wider_cells → New cells (embedded cols p) k → f k ≡ fill k)
      → tab wider_cells f ≡ tab wider_cells (λ k. spread_at plane (fill k) k)
  spread-is plane fill f old new =
      tab-ext wider_cells f (λ k. spread_at plane (fill k) k)
      (λ k k<.
      ⊎_elim
      (λ o.
      ap f (sym o.here)
      ∙ old o.from o.below
      ∙ sym (old-spread plane (fill k) o.from o.below)
      ∙ ap (spread_at plane (fill k)) o.here)
      (λ n. new k k< n ∙ sym (new-spread plane (fill k) k n))
      (old-or-new k))

  -- the pieces go along with their cells, and the new cells are bare
  pub pieces-long : (pieces : List ℕ) → length (widened_pieces rows cols p pieces) ≡ wider_cells
  unfolding widened_pieces copied
  pieces-long pieces = length-tab wider_cells _

  pub pieces-carried : (pieces : List ℕ) → Carried cells wider_cells (embedded cols p) pieces (widened_pieces rows cols p pieces)
  unfolding widened_pieces copied
  pieces-carried pieces =
      record {
        at = λ k k<. get_d-tab wider_cells _ (embedded cols p k) 0 (embedded-in k k<) ∙ old-spread pieces bare k k<;
        off =
            λ k k< new.
            ap (λ (x : ℕ). ltb 1 x) (get_d-tab wider_cells _ k 0 k< ∙ new-spread pieces bare k new);
      }

  -- the weights that the pieces say
  weights-spread : (kind : Kind) → GridsEmbed kind → (pieces : List ℕ) → length pieces ≡ cells
      → widened_weights kind rows cols p pieces (weights_of (kind rows cols) pieces) ≡ weights_of (kind (new_rows rows p) wide) (widened_pieces rows cols p pieces)
  unfolding widened_weights
  weights-spread kind widens pieces long =
      sym
      (is-tab 0 anew wider_cells (λ k. get_or anew k 0) weighed (λ k k<. refl)
      ∙ spread-is (weights_of (kind rows cols) pieces) (λ k. get_or anew k 0) (λ k. get_or anew k 0) old (λ k k< new. refl))
    where
      moved : List ℕ
      moved = widened_pieces rows cols p pieces

      anew : List ℕ
      anew = weights_of (kind (new_rows rows p) wide) moved

      weighed : length anew ≡ wider_cells
      weighed = weights-long (kind (new_rows rows p) wide) moved ∙ pieces-long pieces

      old : (k : ℕ) → k < cells → get_or anew (embedded cols p k) 0 ≡ get_or (weights_of (kind rows cols) pieces) k 0
      old k k< =
          weight-at (kind (new_rows rows p) wide) moved (embedded cols p k) (pieces-long pieces) (embedded-in k k<)
          ∙ ap (λ (n : ℕ). 1 + n) (weight-carried (widens rows cols p) (pieces-carried pieces) k k<)
          ∙ sym (weight-at (kind rows cols) pieces k long k<)

pub widened_is : (j : Panel) (p : Pads) (pieces : List ℕ) → GridsEmbed j.kind → length pieces ≡ j.rows * j.cols
    → widened j p (board_of (shape_of j) j.tiles pieces) ≡ board_of (shape_of (wider j p)) j.tiles (widened_pieces j.rows j.cols p pieces)
unfolding widened board_of
widened_is j p pieces widens long = both (weights-spread j.rows j.cols p j.kind widens pieces long) refl
