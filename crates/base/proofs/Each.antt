-- A fact that holds of each entry of a list: `Each P l`. Of two lists one after the other, and of those that pass a test, both ways.
-- Assumes nothing.
use Prim.Native.Nat.{ℕ, zero, suc, ◌<◌}
use mathlib.Core.Path.{◌≡◌, sym, subst}
use mathlib.Core.Bool.{Bool, true}
use mathlib.Core.Logic.{⊎_elim}
use mathlib.Core.List.{List, [], ◌∷◌, ◌++◌}
use native.Mathlib.Nat.{eq-or-lt_of_le, le_of_suc-le-suc, not-suc-le-zero, le_step, lt-suc_self}
use Rattle.base.specs.Counting.{pick}
use Rattle.base.specs.Tables.{those}
pub use Rattle.base.specs.Tables.{Each}
use Rattle.base.proofs.Bools.{by-test}

module _ {A : Type 0} where
  pub each_more : (P : A → Type 0) (l m : List A) → Each P l → Each P m → Each P (l ++ m)
  each_more P [] m h k = k
  each_more P (x ∷ l) m (p, h) k = (p, each_more P l m h k)

  pub each-those : (P : A → Type 0) (n : ℕ) (test : ℕ → Bool) (f : ℕ → A) → ((k : ℕ) → k < n → test k ≡ true → P (f k)) → Each P (those n test f)
  unfolding those
  each-those P zero test f h = tt
  each-those P (suc n) test f h =
      each_more P (those n test f) _ (each-those P n test f (λ k l e. h k (le_step l) e))
      (by-test (test n) (λ e. rw e (h n (lt-suc_self n) e, tt)) (λ e. rw e tt))

  -- what follows from it entry by entry
  pub each-so : (P Q : A → Type 0) → ((x : A) → P x → Q x) → (l : List A) → Each P l → Each Q l
  each-so P Q f [] h = tt
  each-so P Q f (x ∷ l) (p, h) = (f x p, each-so P Q f l h)

  each-parts : (P : A → Type 0) (l m : List A) → Each P (l ++ m) → Each P l × Each P m
  each-parts P [] m h = (tt, h)
  each-parts P (x ∷ l) m (p, h) = let r = each-parts P l m h in ((p, r.0), r.1)

  -- what holds of each of them holds of what passes
  pub each-passes : (P : A → Type 0) (n : ℕ) (test : ℕ → Bool) (f : ℕ → A) → Each P (those n test f) → (k : ℕ) → k < n → test k ≡ true → P (f k)
  unfolding those
  each-passes P zero test f h k l e = absurd (not-suc-le-zero l)
  each-passes P (suc n) test f h k l e =
      let r = each-parts P (those n test f) (pick (test n) (f n ∷ []) []) h in
      ⊎_elim
      (λ q. subst (λ (i : ℕ). P (f i)) (sym q) (here (subst (λ (i : ℕ). test i ≡ true) q e) r.1))
      (λ below. each-passes P n test f r.0 k below e)
      (eq-or-lt_of_le (le_of_suc-le-suc l))
    where
      here : test n ≡ true → Each P (pick (test n) (f n ∷ []) []) → P (f n)
      here t w = (rw t at w).0
