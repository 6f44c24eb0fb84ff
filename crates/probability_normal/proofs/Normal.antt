-- `map` as a table, and `normalised` by the two cases of its largest.
-- Assumes nothing.
use Prim.Native.Nat.{ℕ, zero, suc, ◌<◌}
use mathlib.Core.Path.{◌≡◌, refl, sym, ◌∙◌, ap}
use mathlib.Core.Bool.{true, false}
use mathlib.Core.List.{List, [], ◌∷◌, map}
use native.Mathlib.Nat.{not-suc-le-zero, le_of_suc-le-suc}
use lib.ListN.{length, get_or, length-map}
use lib.Ieee.{Float}
use Rattle.base.specs.Tables.{tab}
use Rattle.base.specs.Counting.{pick}
use Rattle.base.proofs.Tabled.{is-tab}
use Rattle.base.proofs.Bools.{pick_yes, pick_no}
use Rattle.rules.specs.Floats.{one64, over, float_of}
use Rattle.rules.specs.Probabilities.{largest_of, total_of, usable, normalised}

module _ {A B : Type 0} (f : A → B) where
  get_d_map : (l : List A) (k : ℕ) (d : A) (e : B) → k < length l → get_or (map f l) k e ≡ f (get_or l k d)
  get_d_map [] k d e h = absurd (not-suc-le-zero h)
  get_d_map (x ∷ xs) zero d e h = refl
  get_d_map (x ∷ xs) (suc k) d e h = get_d_map xs k d e (le_of_suc-le-suc h)

  pub map-tab : (l : List A) (d : A) (e : B) → tab (length l) (λ k. f (get_or l k d)) ≡ map f l
  map-tab l d e = sym (is-tab e (map f l) (length l) (λ k. f (get_or l k d)) (length-map l f) (λ k h. get_d_map l k d e h))

pub shares : (ps : List Float) (most : Float) → most ≡ largest_of ps → usable most ≡ true
    → map (λ (p : Float). over (over p most) (total_of most ps)) ps ≡ normalised ps
unfolding normalised
shares ps most e u =
    sym
    (ap (λ (m : Float). pick (usable m) (map (λ (p : Float). over (over p m) (total_of m ps)) ps) (map (λ (_ : Float). over one64 (float_of (length ps))) ps)) (sym e)
    ∙ pick_yes (usable most) _ _ u)

pub uniform : (ps : List Float) (most : Float) → most ≡ largest_of ps → usable most ≡ false
    → map (λ (_ : Float). over one64 (float_of (length ps))) ps ≡ normalised ps
unfolding normalised
uniform ps most e u =
    sym
    (ap (λ (m : Float). pick (usable m) (map (λ (p : Float). over (over p m) (total_of m ps)) ps) (map (λ (_ : Float). over one64 (float_of (length ps))) ps)) (sym e)
    ∙ pick_no (usable most) _ _ u)
