-- The eight neighbours in the loop's order, on any kind of grid: those found before a turn, at most one for each turn passed, and after it.
-- Assumes nothing.
use Rattle.std.specs.Prelude.{Option}
use Prim.Native.Nat.{ℕ, ◌+◌, ◌<◌, ◌≤◌}
use mathlib.Core.Path.{◌≡◌, refl, sym, ◌∙◌, ap}
use mathlib.Core.Bool.{Bool, true, not, ◌&&◌}
use mathlib.Core.List.{List, [], ◌∷◌, ◌++◌, append-nil}
use native.Mathlib.Omega.{arith}
use borrow.Author.Tests.{ltb-true}
use lib.Dec.{ltb, eqb}
use lib.ListN.{get_or}
use Rattle.base.specs.Counting.{pick, every}
use Rattle.base.specs.Tables.{those}
use Rattle.base.proofs.Counted.{every-at, tally-le}
use Rattle.base.proofs.Tabled.{those-none, those-more, length-those}
use Rattle.rules.specs.Bounds.{added_room}
use Rattle.rules.specs.Grid.{Kind}
use Rattle.rules.specs.Forced.{neighbour, is_forced, forced_there, forced_round, positions_of}
use Rattle.rules.specs.declared.World.{World}
use Rattle.rules.specs.declared.Offset.{Offset}
use Rattle.rules.specs.declared.ForcedPosition.{ForcedPosition}
use Rattle.rules.specs.declared.ForcedPositions.{ForcedPositions}
use Rattle.fit_forced.specs.Round.{round_order, forced_colour, with_forced}
use Rattle.fit_forced.proofs.Alone.{beside}
use Rattle.fit_forced.proofs.Entries.{length_found}
use Rattle.rules.specs.declared.BoundingBox.{BoundingBox}

order-test : every 8 (λ i. ltb (get_or round_order i 0) 9) ≡ true
unfolding every
order-test = refl

pub order_lt : (i : ℕ) → i < added_room → get_or round_order i 0 < 9
order_lt i l = ltb-true (get_or round_order i 0) 9 (every-at (λ i. ltb (get_or round_order i 0) 9) 8 order-test i l)

-- those of the nine places without place 4 are those of the eight in this order
skip-centre : {A : Type 0} (test : ℕ → Bool) (f : ℕ → A)
    → those 8 (λ i. test (get_or round_order i 0)) (λ i. f (get_or round_order i 0)) ≡ those 9 (λ d. not (eqb d 4) && test d) f
unfolding those
skip-centre {A} test f =
    let at : ℕ → List A = λ d. pick (test d) (f d ∷ []) [] in
    ap (λ (l : List A). (((l ++ at 5) ++ at 6) ++ at 7) ++ at 8) (sym (append-nil (those 4 test f)))

module _ (kind : Kind) (pieces : List ℕ) (rows cols : ℕ) (tiles : List ℕ) (count : ℕ) (w : World) (o : Offset) (b : Option BoundingBox) where
  abbrev pub test_at : ℕ → Bool
  test_at i = is_forced kind pieces rows cols tiles count (neighbour w (get_or round_order i 0)) o b

  abbrev pub found_at : ℕ → ForcedPosition
  found_at i = forced_there kind pieces rows cols tiles count (neighbour w (get_or round_order i 0)) o

  -- those found in the first i turns
  unfoldable pub found_before : ℕ → List ForcedPosition
  found_before i = those i test_at found_at

  pub before-none : [] ≡ found_before 0
  unfolding found_before
  before-none = sym (those-none test_at found_at)

  pub before-few : (i : ℕ) (found : ForcedPositions) → found ≡ positions_of (found_before i) → found.len ≤ i
  unfolding found_before
  before-few i found e = omega (arith, length_found found (those i test_at found_at) e, length-those i test_at found_at, tally-le test_at i)

  pub before_more : (i d : ℕ) (there : World) (colour : ℕ) → d ≡ get_or round_order i 0 → there ≡ neighbour w d
      → colour ≡ forced_colour kind pieces rows cols tiles count there o b → with_forced (found_before i) there colour ≡ found_before (i + 1)
  unfolding found_before with_forced
  before_more i d there colour p q r =
      rw (r, q, p)
      (ap (λ (l : List ForcedPosition). those i test_at found_at ++ l) (beside kind pieces rows cols tiles count (neighbour w (get_or round_order i 0)) o b)
      ∙ sym (those-more i test_at found_at))

  pub before-all : (i : ℕ) → i ≤ added_room → added_room ≤ i → found_before i ≡ forced_round kind pieces rows cols tiles count w o b
  unfolding found_before forced_round
  before-all i p q =
      let e : i ≡ 8 = omega arith in
      rw e
      (skip-centre (λ d. is_forced kind pieces rows cols tiles count (neighbour w d) o b) (λ d. forced_there kind pieces rows cols tiles count (neighbour w d) o))
