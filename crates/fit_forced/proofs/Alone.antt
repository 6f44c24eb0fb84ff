-- One place beside another, on any kind of grid: which colour is forced there, as the tests find it.
--     not-admitted, off-board, on-board    what each test leaves of `forced_colour`
--     beside    the position with that colour, none where it is 0, is the one that the definition finds
-- Assumes nothing.
use Rattle.std.specs.Prelude.{Option}
use Prim.Native.Nat.{ℕ}
use mathlib.Core.Path.{◌≡◌, refl, sym, ◌∙◌}
use mathlib.Core.Bool.{Bool, true, false, not, ◌&&◌}
use mathlib.Core.List.{List, [], ◌∷◌}
use borrow.Author.Tests.{eqb-true, not-true, not-false}
use lib.Dec.{eqb}
use lib.ListN.{length}
use Rattle.base.specs.Counting.{pick}
use Rattle.base.proofs.Bools.{by-test, and_right, and-no-left, and-no-right, pick_no}
use Rattle.rules.specs.Tests.{on_board}
use Rattle.rules.specs.Places.{cell_of}
use Rattle.rules.specs.Grid.{entry_of, Kind, laid_on}
use Rattle.rules.specs.Fit.{lists}
use Rattle.rules.specs.Forced.{admits, listed_at, only, forces_one, is_forced, forced_there}
use Rattle.rules.specs.declared.World.{World}
use Rattle.rules.specs.declared.Offset.{Offset}
use Rattle.rules.specs.declared.Cell.{Cell}
use Rattle.bitset_colours.proofs.Colours.{one_only}
use Rattle.fit_forced.specs.Round.{only_at, forced_colour}
use Rattle.rules.specs.declared.BoundingBox.{BoundingBox}

module _ (kind : Kind) (pieces : List ℕ) (rows cols : ℕ) (tiles : List ℕ) (count : ℕ) (w : World) (o : Offset) (b : Option BoundingBox) where
  abbrev forced : Bool
  forced = is_forced kind pieces rows cols tiles count w o b

  abbrev colour : ℕ
  colour = forced_colour kind pieces rows cols tiles count w o b

  -- the cell of the place, and the colours listed there
  abbrev at : ℕ
  at = entry_of cols (cell_of w o)

  abbrev here : List ℕ
  here = listed_at (kind rows cols) tiles pieces count at

  -- a test that fails
  outside : forced ≡ false → 0 ≡ colour
  unfolding forced_colour
  outside e = sym (pick_no forced _ 0 e)

  pub not-admitted : admits b w ≡ false → 0 ≡ colour
  unfolding is_forced
  not-admitted e = outside (and-no-left (admits b w && on_board rows cols w o) _ (and-no-left (admits b w) _ e))

  pub off-board : on_board rows cols w o ≡ false → 0 ≡ colour
  unfolding is_forced
  off-board e = outside (and-no-left (admits b w && on_board rows cols w o) _ (and-no-right (admits b w) _ e))

  -- where those hold, the rest is asked of the cell
  is_one : admits b w ≡ true → on_board rows cols w o ≡ true → forced ≡ (not (laid_on pieces at) && eqb (length here) 1)
  unfolding is_forced forces_one
  is_one p q = rw (p, q)

  lone : (laid one : Bool) (only_one : ℕ) → one ≡ not (eqb only_one 0) → pick laid 0 only_one ≡ pick (not laid && one) only_one 0
  lone true one t e = refl
  lone false true t e = refl
  lone false false t e = eqb-true t 0 (not-false (eqb t 0) (sym e))

  pub on-board : (cell : Cell) → admits b w ≡ true → on_board rows cols w o ≡ true → cell ≡ cell_of w o
      → only_at (kind rows cols) tiles pieces count (entry_of cols cell) ≡ colour
  unfolding forced_colour
  on-board cell p q e = rw (e, is_one p q) (lone (laid_on pieces at) _ _ (one_only count (lists (kind rows cols) tiles pieces at)))

  -- where a place is forced, there is a colour; where it is not, the colour is 0
  one-colour : forced ≡ true → eqb (only here) 0 ≡ false
  unfolding is_forced forces_one
  one-colour e =
      not-true (eqb (only here) 0)
      (sym (one_only count (lists (kind rows cols) tiles pieces at))
      ∙ and_right (not (laid_on pieces at)) _ (and_right (admits b w && on_board rows cols w o) _ e))

  -- so the position that the colour gives is the definition's
  pub beside : pick (eqb colour 0) [] (record { coordinates = w; colour = colour } ∷ [])
      ≡ pick forced (forced_there kind pieces rows cols tiles count w o ∷ []) []
  unfolding forced_colour forced_there
  beside = by-test forced (λ e. rw (e, one-colour e)) (λ e. rw e)
