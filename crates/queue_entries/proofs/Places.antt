-- Laws of places: that `==` on two coordinates is that of the definitions, and what one turn of a loop over a list of entries leaves to be
-- asked: the entry at its index and then the list from the next on.
-- Assumes nothing.
use Prim.Native.Nat.{ℕ, ◌+◌, ◌<◌, ◌≤◌}
use mathlib.Core.Path.{◌≡◌, refl, sym, ◌∙◌, ap, subst}
use mathlib.Core.Bool.{Bool, true, false, ◌||◌, ◌&&◌}
use mathlib.Core.List.{List, [], ◌∷◌}
use native.Mathlib.Numerals.{add-one}
use lib.IntN.{ℤ, pos, negsuc}
use lib.ListN.{length, get_or, drop, drop_of_length-le}
use lib.Seq.{drop-cons}
use borrow.Author.Tests.{eq-eqb}
use Rattle.std.specs.Ordering.{int_eq}
use Rattle.std.proofs.lemmas.Bool.Decides.{Decides-int_eq}
use Rattle.base.specs.Whole.{eq_z}
use Rattle.base.proofs.Bools.{same_test}
use Rattle.base.proofs.Signs.{eq_z-true}
use Rattle.rules.specs.Places.{same_place}
use Rattle.rules.specs.Forced.{is_queued}
use Rattle.rules.specs.declared.World.{World}
use Rattle.rules.specs.declared.ForcedPosition.{ForcedPosition}

eq_z-is : (a b : ℤ) → a ≡ b → eq_z a b ≡ true
eq_z-is (pos a) b e = subst (λ (z : ℤ). eq_z (pos a) z ≡ true) e (eq-eqb a a refl)
eq_z-is (negsuc a) b e = subst (λ (z : ℤ). eq_z (negsuc a) z ≡ true) e (eq-eqb a a refl)

int_eq-is : (a b : ℤ) → int_eq a b ≡ eq_z a b
int_eq-is a b =
    same_test (int_eq a b) (eq_z a b) (λ t. eq_z-is a b ((Decides-int_eq a b).0 t)) (λ e. (Decides-int_eq a b).1 (eq_z-true a b e))

pub same-is : (v w : World) → (int_eq v.0 w.0 && int_eq v.1 w.1) ≡ same_place v w
unfolding same_place
same-is v w = rw (int_eq-is v.0 w.0, int_eq-is v.1 w.1)

-- what a loop over a list of entries has before it at turn i
module _ (es : List ForcedPosition) (i : ℕ) where
  pub still : (d : ForcedPosition) → i < length es → drop i es ≡ get_or es i d ∷ drop (i + 1) es
  still d h = rw add-one (drop-cons es i d h)

  pub none_left : length es ≤ i → drop i es ≡ []
  none_left h = drop_of_length-le es {i = i} h

-- the search: whether the place is among the entries from i on decides whether it is queued
module _ (w : World) (es : List ForcedPosition) (i : ℕ) (inv : is_queued w (drop i es) ≡ is_queued w es) where
  module _ (d : ForcedPosition) (h : i < length es) {here : Bool} (e : here ≡ same_place (get_or es i d).coordinates w) where
    asks-entry : is_queued w es ≡ (here || is_queued w (drop (i + 1) es))
    unfolding is_queued
    asks-entry = sym inv ∙ rw (still es i d h, e)

    pub search-found : here ≡ true → true ≡ is_queued w es
    search-found t = sym (asks-entry ∙ rw t)

    pub search-on : here ≡ false → is_queued w (drop (i + 1) es) ≡ is_queued w es
    search-on t = sym (asks-entry ∙ rw t)

  pub search-end : length es ≤ i → false ≡ is_queued w es
  unfolding is_queued
  search-end h = ap (is_queued w) (sym (none_left es i h)) ∙ inv
