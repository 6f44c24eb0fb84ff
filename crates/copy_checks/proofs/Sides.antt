-- Laws of the sides that pads make: a side compared with its bounds, a length compared with a number of cells, and what the checks give.
-- Assumes nothing.
use Prim.Native.Nat.{ℕ, ◌*◌, ◌≤◌}
use mathlib.Core.Path.{◌≡◌, refl, sym, ◌∙◌}
use mathlib.Core.Bool.{true, false}
use lib.Dec.{leb, eqb}
use borrow.Author.Tests.{le-leb, leb-true, eqb-true, eq-eqb, ne_eqb}
use Rattle.base.specs.Counting.{within}
use Rattle.base.specs.Refusal.{refusal}
use Rattle.base.proofs.Bools.{and_left, and_right, and_both, same_test}
use Rattle.base.proofs.Chain.{all_pass}
use Rattle.rules.specs.Places.{new_rows, new_cols}
use Rattle.rules.specs.declared.Pads.{Pads}
use Rattle.copy_checks.specs.Laid.{size_checks, Sized}

-- two numbers of which the one lies in a range where the other does
pub same-within : (lo hi a b : ℕ) → ((lo ≤ a) × (a ≤ hi) → (lo ≤ b) × (b ≤ hi)) → ((lo ≤ b) × (b ≤ hi) → (lo ≤ a) × (a ≤ hi))
    → within lo hi a ≡ within lo hi b
unfolding within
same-within lo hi a b f g = same_test (within lo hi a) (within lo hi b) (λ t. into (f (out t))) (λ t. into (g (out t)))
  where
    out : {n : ℕ} → within lo hi n ≡ true → (lo ≤ n) × (n ≤ hi)
    out {n} t = (leb-true lo n (and_left (leb lo n) (leb n hi) t), leb-true n hi (and_right (leb lo n) (leb n hi) t))

    into : {n : ℕ} → (lo ≤ n) × (n ≤ hi) → within lo hi n ≡ true
    into {n} h = and_both (leb lo n) (leb n hi) (le-leb lo n h.0) (le-leb n hi h.1)

-- what the comparison of a length with a number of cells leaves, which a function worked out
pub other_length : {held m : ℕ} (n : ℕ) → (held ≡ m → ⊥) → m ≡ n → eqb held n ≡ false
other_length {held} {m} n h e = ne_eqb held n (λ q. h (q ∙ sym e))

pub this-length : {held m : ℕ} (n : ℕ) → held ≡ m → m ≡ n → eqb held n ≡ true
this-length {held} {m} n h e = eq-eqb held n (h ∙ e)

pub ruleset lengths = (other_length, this-length)

-- no check that fails: the planes have their lengths
pub sized : (rows cols : ℕ) (p : Pads) (held room : ℕ) → refusal (size_checks rows cols p held room) ≡ 0 → Sized rows cols p held room
sized rows cols p held room e =
    let h = all_pass (size_checks rows cols p held room) refl e in
    record {
      old-sides = search;
      new-sides = search;
      held-is = eqb-true held (rows * cols) (search);
      room-is = eqb-true room (new_rows rows p * new_cols cols p) (search);
    }
