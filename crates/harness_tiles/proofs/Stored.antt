-- The laws of what is lent here: values stored one after another, a box whose numbers are handed on.
-- Assumes nothing.
use Prim.Native.Nat.{ℕ, ◌+◌, ◌<◌, ◌≤◌}
use mathlib.Core.Path.{◌≡◌, sym, ◌∙◌, ap}
use mathlib.Core.List.{List}
use native.Mathlib.Numerals.{add-one}
use lib.ListN.{length, get_or, drop, drop_of_length-le}
use lib.Seq.{drop-cons}
use lib.IntN.{ℤ}
use mir.Syntax.{w32}
use mir.Val.{SFits, to_z, of_z}
use mir.Facts.{to_z-of_z}
use Rattle.boundary_slots.specs.Slots.{put}
use Rattle.harness_tiles.specs.Lent.{box_of, put_from}

-- one value stored, and what is left to store
pub put-turn : {A : Type 0} (d : A) (l out after whole : List A) (k : ℕ) → k < length l → after ≡ put out k (get_or l k d) → put_from k (drop k l) out ≡ whole → put_from (k + 1) (drop (k + 1) l) after ≡ whole
unfolding put_from
put-turn {A = A} d l out after whole k h e p =
    ap (λ (o : List A). put_from (k + 1) (drop (k + 1) l) o) e
    ∙ ap (λ (i : ℕ). put_from (k + 1) (drop i l) (put out k (get_or l k d))) (add-one k)
    ∙ sym (ap (λ (r : List A). put_from k r out) (drop-cons l k d h))
    ∙ p

-- nothing left to store
pub put-done : {A : Type 0} (l out whole : List A) (k : ℕ) → length l ≤ k → put_from k (drop k l) out ≡ whole → out ≡ whole
unfolding put_from
put-done {A = A} l out whole k h p = sym (ap (λ (r : List A). put_from k r out) (drop_of_length-le l h)) ∙ p

-- a box whose numbers are handed on
pub box-is : {a b c d : ℤ} → SFits w32 a → SFits w32 b → SFits w32 c → SFits w32 d → box_of (to_z w32 (of_z w32 a)) (to_z w32 (of_z w32 b)) (to_z w32 (of_z w32 c)) (to_z w32 (of_z w32 d)) ≡ box_of a b c d
box-is fa fb fc fd = rw (to_z-of_z fa, to_z-of_z fb, to_z-of_z fc, to_z-of_z fd)
