-- The list of a cell, as a list of colours, on any shape of grid.
--     listed-less, one-less     with more pieces it is no longer; and where it was one colour or none, it is that one or none
--     still-off, still_one, is-still    an entry is still forced exactly if its cell is bare and lists the entry's colour and no other
--     still-in, still-listed    that colour is one of the count, and listed
-- Assumes nothing.
use Prim.Native.Nat.{ℕ, ◌+◌, ◌≤◌}
use mathlib.Core.Path.{◌≡◌, refl, sym, ◌∙◌, ap, subst}
use mathlib.Core.Bool.{Bool, true, false, not, ◌&&◌}
use mathlib.Core.Logic.{◌⊎◌, inl, inr, ⊎_elim}
use mathlib.Core.List.{List, [], ◌∷◌}
use native.Mathlib.Omega.{arith}
use borrow.Author.Tests.{eqb-true, eq-eqb, not-true}
use lib.Dec.{eqb}
use lib.ListN.{length}
use Rattle.base.specs.Counting.{within}
use Rattle.base.proofs.Bools.{and_left, and_right, and_both, not-is-true}
use Rattle.base.proofs.Counted.{tally-less}
use Rattle.base.proofs.Each.{Each, each-those, each-passes}
use Rattle.base.proofs.Numbers.{within-is}
use Rattle.base.proofs.Tabled.{length-those}
use Rattle.rules.specs.Sets.{colours_of}
use Rattle.rules.specs.Grid.{Shape, laid_on}
use Rattle.rules.specs.Fit.{lists}
use Rattle.rules.specs.Forced.{listed_at, only, forces_one}
use Rattle.rules.specs.Board.{Panel, Board, shape_of, entry_in}
use Rattle.rules.specs.ForcedRun.{still_forced}
use Rattle.rules.specs.declared.ForcedPosition.{ForcedPosition}
use Rattle.rules.proofs.Fewer.{Under, lists-fewer}

-- ---- lists of at most one

pub not_none : {A : Type 0} {x : A} {l : List A} → x ∷ l ≡ [] → ⊥
not_none e = let z : ◌≡◌ {A = ℕ} 0 1 = cc in omega arith

-- this one entry, or none
abbrev pub OneOr : {A : Type 0} → A → List A → Type 0
OneOr c l = (l ≡ c ∷ []) ⊎ (l ≡ [])

module _ {A : Type 0} (c : A) where
  one-or : (l : List A) → length l ≤ 1 → Each (λ x. x ≡ c) l → OneOr c l
  one-or [] few same = inr refl
  one-or (x ∷ []) few (p, same) = inl (ap (λ (y : A). y ∷ []) p)
  one-or (x ∷ y ∷ l) few same = absurd (omega arith)

  or-one : (l : List A) → OneOr c l → (length l ≤ 1) × Each (λ x. x ≡ c) l
  or-one l =
      ⊎_elim
      (λ e. subst (λ (m : List A). (length m ≤ 1) × Each (λ x. x ≡ c) m) (sym e) (omega arith, (refl, tt)))
      (λ e. subst (λ (m : List A). (length m ≤ 1) × Each (λ x. x ≡ c) m) (sym e) (omega arith, tt))

-- ---- the colours of a cell

module _ (g : Shape) (tiles : List ℕ) (count k : ℕ) where
  abbrev listed : List ℕ → List ℕ
  listed p = listed_at g tiles p count k

  listed_in : (p : List ℕ) → Each (λ t. within 1 count t ≡ true) (listed p)
  unfolding colours_of
  listed_in p = each-those (λ t. within 1 count t ≡ true) count _ _ (λ i l e. within-is 1 count (i + 1) (omega arith) (omega arith))

  listed-each : (p : List ℕ) → Each (λ t. lists g tiles p k t ≡ true) (listed p)
  unfolding colours_of
  listed-each p = each-those (λ t. lists g tiles p k t ≡ true) count _ _ (λ i l e. e)

  module _ {p q : List ℕ} (under : Under p q) where
    pub listed-less : length (listed q) ≤ length (listed p)
    unfolding colours_of
    listed-less =
        let more = length-those count (λ i. lists g tiles p k (i + 1)) (λ i. i + 1) in
        let few = length-those count (λ i. lists g tiles q k (i + 1)) (λ i. i + 1) in
        omega
        (arith, tally-less (λ i. lists g tiles q k (i + 1)) (λ i. lists g tiles p k (i + 1)) count (λ i l. lists-fewer g tiles under k (i + 1)))

    pub one_less : (c : ℕ) → OneOr c (listed p) → OneOr c (listed q)
    unfolding colours_of
    one_less c one =
        let was = or-one c (listed p) one in
        one-or c (listed q) (omega (arith, listed-less))
        (each-those (λ t. t ≡ c) count _ _
        (λ i l e. each-passes (λ t. t ≡ c) count (λ i. lists g tiles p k (i + 1)) (λ i. i + 1) was.1 i l (lists-fewer g tiles under k (i + 1) e)))

-- ---- an entry that is still forced

pub only_one : (l : List ℕ) → length l ≡ 1 → l ≡ only l ∷ []
only_one [] e = absurd (omega arith)
only_one (t ∷ []) e = refl
only_one (t ∷ u ∷ l) e = absurd (omega arith)

module _ (j : Panel) (count : ℕ) (b : Board) (e : ForcedPosition) where
  abbrev cell : ℕ
  cell = entry_in j e.coordinates

  -- what the cell of the entry lists
  abbrev pub there : List ℕ
  there = listed_at (shape_of j) j.tiles b.pieces count cell

  abbrev bare_here : Bool
  bare_here = not (laid_on b.pieces cell)

  module _ (still : still_forced j count b e ≡ true) where
    parts : (bare_here ≡ true) × (length there ≡ 1) × (only there ≡ e.colour)
    unfolding still_forced forces_one
    parts =
        let forces = and_left (bare_here && eqb (length there) 1) _ still in
        (and_left bare_here _ forces, eqb-true _ 1 (and_right bare_here _ forces), eqb-true _ _ (and_right (bare_here && eqb (length there) 1) _ still))

    pub still-off : laid_on b.pieces cell ≡ false
    still-off = not-true _ parts.0

    pub still_one : there ≡ e.colour ∷ []
    still_one = only_one there parts.1 ∙ ap (λ (c : ℕ). c ∷ []) parts.2

    -- its colour is one of the count, and listed
    pub still-in : within 1 count e.colour ≡ true
    still-in = (subst (Each (λ t. within 1 count t ≡ true)) still_one (listed_in (shape_of j) j.tiles count cell b.pieces)).0

    pub still-listed : lists (shape_of j) j.tiles b.pieces cell e.colour ≡ true
    still-listed =
        (subst (Each (λ t. lists (shape_of j) j.tiles b.pieces cell t ≡ true)) still_one (listed-each (shape_of j) j.tiles count cell b.pieces)).0

  pub is-still : laid_on b.pieces cell ≡ false → there ≡ e.colour ∷ [] → still_forced j count b e ≡ true
  unfolding still_forced forces_one
  is-still off one =
      and_both _ _
      (and_both _ _ (not-is-true _ off) (eq-eqb _ 1 (ap (λ (l : List ℕ). length l) one)))
      (eq-eqb _ _ (ap only one))
