-- What the listing means on the flat board, in rows and columns, both ways: a colour is listed at a cell exactly if each kept window has a
-- tile that agrees with the laid pieces and holds that colour there. By the same over any shape of grid, which stands with the rules.
-- Assumes nothing.
use Prim.Native.Nat.{ℕ, ◌+◌, ◌-◌, ◌*◌, ◌/◌, ◌%◌, ◌<◌, ◌≤◌}
use mathlib.Core.Path.{◌≡◌, sym, ◌∙◌, ap, subst}
use mathlib.Core.Bool.{true}
use mathlib.Core.List.{List}
use mathlib.Core.Logic.{⊎_elim}
use native.Mathlib.Omega.{arith}
use borrow.Author.Tests.{leb-true}
use lib.Dec.{leb}
use lib.ListN.{get_or}
use Rattle.base.proofs.Bools.{and_left, and_right}
use Rattle.base.proofs.Numbers.{lt-or-le}
use Rattle.rules.specs.Tests.{tiles_in}
use Rattle.rules.specs.Grid.{entry_of, entry_or_past, flat, colour_on}
use Rattle.rules.specs.Fit.{pattern, lists}
use Rattle.rules.specs.declared.Cell.{Cell}
use Rattle.rules.proofs.Meaning.{Agrees, Listed, lists-from, lists-to}
use Rattle.fit_pattern.specs.Ready.{Readable}
use Rattle.fit_pattern.proofs.Flat.{place_from, start_for, on-grid, off-rows, off-cols, pattern-is, start_is, kept-is, is-kept}
use Rattle.fit_pattern.proofs.Windows.{bare-past}

-- tile n agrees with the window that starts at a cell: wherever a piece is laid on the board there, the tile has its colour. A laid piece
-- of colour t stores t + 1, a bare cell 1; a place past the bottom or the right asks nothing
pub AgreesFlat : ℕ → ℕ → List ℕ → List ℕ → Cell → ℕ → Type 0
AgreesFlat rows cols tiles pieces s n =
    (i : ℕ) → i < 9 → (place_from s i).0 < rows → (place_from s i).1 < cols → 1 < get_or pieces (entry_of cols (place_from s i)) 0
    → get_or tiles (n * 9 + i) 0 + 1 ≡ get_or pieces (entry_of cols (place_from s i)) 0

-- the window that has the cell at place q starts q / 3 rows above it and q % 3 columns left of it; it is kept unless that is above or left
-- of the grid
pub ListedFlat : ℕ → ℕ → List ℕ → List ℕ → Cell → ℕ → Type 0
ListedFlat rows cols tiles pieces k t =
    (q : ℕ) → q < 9 → q / 3 ≤ k.0 → q % 3 ≤ k.1
    → (n : ℕ) × (n < tiles_in tiles) × AgreesFlat rows cols tiles pieces (start_for k q) n × (get_or tiles (n * 9 + q) 0 ≡ t)

module _ (rows cols : ℕ) (tiles pieces : List ℕ) (board : Readable pieces rows cols) (s : Cell) (n : ℕ) (colwise : s.1 < cols) where
  -- what the board shows at place i, where that is on the grid
  shown-is : (i : ℕ) → (place_from s i).0 < rows → (place_from s i).1 < cols
      → colour_on pieces (entry_of cols (place_from s i)) ≡ pattern (flat rows cols) pieces (entry_of cols s) i
  shown-is i p q = ap (colour_on pieces) (sym (on-grid rows cols (place_from s i) p q)) ∙ pattern-is rows cols s i colwise pieces

  pub agrees_from : Agrees (flat rows cols) tiles pieces (entry_of cols s) n → AgreesFlat rows cols tiles pieces s n
  unfolding Agrees AgreesFlat
  agrees_from h i l p q laid = let e = shown-is i p q in omega (arith, h i l (λ z. omega arith))

  pub agrees-to : AgreesFlat rows cols tiles pieces s n → Agrees (flat rows cols) tiles pieces (entry_of cols s) n
  unfolding Agrees AgreesFlat
  agrees-to h i l laid =
      ⊎_elim (λ p. ⊎_elim (λ q. on p q) (λ q. off (off-cols rows cols (place_from s i) q)) (lt-or-le (place_from s i).1 cols))
      (λ p. off (off-rows rows cols (place_from s i) p))
      (lt-or-le (place_from s i).0 rows)
    where
      off : entry_or_past rows cols (place_from s i) ≡ rows * cols → get_or tiles (n * 9 + i) 0 ≡ pattern (flat rows cols) pieces (entry_of cols s) i
      off k = absurd (laid (sym (pattern-is rows cols s i colwise pieces) ∙ sym (bare-past pieces (rows * cols) _ board.plane k)))

      above : {x : ℕ} → x - 1 ≡ pattern (flat rows cols) pieces (entry_of cols s) i → 1 < x
      above {x} e = ⊎_elim (λ b. b) (λ b. absurd (laid (let z : x - 1 ≡ 0 = omega arith in sym e ∙ z))) (lt-or-le 1 x)

      on : (place_from s i).0 < rows → (place_from s i).1 < cols → get_or tiles (n * 9 + i) 0 ≡ pattern (flat rows cols) pieces (entry_of cols s) i
      on p q = let e = shown-is i p q in omega (arith, h i l p q (above e))

-- document 01's sentence, both ways: A colour is listed exactly if every kept window has a fitting tile with that colour at the cell's
-- place
module _ (rows cols : ℕ) (tiles pieces : List ℕ) (board : Readable pieces rows cols) (k : Cell) (t : ℕ) (colwise : k.1 < cols) where
  pub listed-from : lists (flat rows cols) tiles pieces (entry_of cols k) t ≡ true → ListedFlat rows cols tiles pieces k t
  unfolding Listed ListedFlat
  listed-from e q l above left =
      let w = lists-from (flat rows cols) tiles pieces (entry_of cols k) t e q l (is-kept rows cols k q colwise above left) in (
        w.0,
        w.1,
        agrees_from rows cols tiles pieces board (start_for k q) w.0 (omega arith)
            (subst (λ (s : ℕ). Agrees (flat rows cols) tiles pieces s w.0) (start_is rows cols k q colwise) w.2),
        w.3,
      )

  pub listed-to : ListedFlat rows cols tiles pieces k t → lists (flat rows cols) tiles pieces (entry_of cols k) t ≡ true
  unfolding Listed ListedFlat
  listed-to h =
      lists-to (flat rows cols) tiles pieces (entry_of cols k) t
      (λ q l kept.
      let both = sym (kept-is rows cols k q colwise) ∙ kept in
      let w = h q l (leb-true (q / 3) k.0 (and_left _ _ both)) (leb-true (q % 3) k.1 (and_right (leb (q / 3) k.0) _ both)) in (
        w.0,
        w.1,
        subst (λ (s : ℕ). Agrees (flat rows cols) tiles pieces s w.0) (sym (start_is rows cols k q colwise))
            (agrees-to rows cols tiles pieces board (start_for k q) w.0 (omega arith) w.2),
        w.3,
      ))
