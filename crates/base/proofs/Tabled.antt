-- Laws of `tab`, `those` and `fold`: lengths, contents at an index, lists equal when equal at every entry.
-- Assumes nothing.
use Prim.Native.Nat.{ℕ, zero, suc, ◌+◌, ◌<◌, ◌≤◌}
use mathlib.Core.Path.{◌≡◌, refl, sym, ◌∙◌, ap}
use mathlib.Core.Bool.{Bool, true, false}
use mathlib.Core.List.{List, [], ◌∷◌, ◌++◌, append-nil}
use native.Mathlib.Nat.{not-suc-le-zero, le_of_suc-le-suc, le_step, lt-suc_self}
use native.Mathlib.Numerals.{add-one}
use native.Mathlib.Omega.{arith}
use lib.ListN.{length, get_or, drop, length-append, drop_of_length-le}
use lib.Seq.{drop-cons, ext_get_or}
use Rattle.base.specs.Counting.{pick, tally}
use Rattle.base.specs.Tables.{tab, those, fold}
use Rattle.base.proofs.Bools.{by-test}

module _ {A : Type 0} where
  pub length-tab : (n : ℕ) (f : ℕ → A) → length (tab n f) ≡ n
  unfolding tab
  length-tab zero f = refl
  length-tab (suc n) f = ap suc (length-tab n (λ k. f (suc k)))

  pub get_d-tab : (n : ℕ) (f : ℕ → A) (k : ℕ) (d : A) → k < n → get_or (tab n f) k d ≡ f k
  unfolding tab
  get_d-tab zero f k d h = absurd (not-suc-le-zero h)
  get_d-tab (suc n) f zero d h = refl
  get_d-tab (suc n) f (suc k) d h = get_d-tab n (λ j. f (suc j)) k d (le_of_suc-le-suc h)

  pub tab-ext : (n : ℕ) (f g : ℕ → A) → ((k : ℕ) → k < n → f k ≡ g k) → tab n f ≡ tab n g
  unfolding tab
  tab-ext zero f g h = refl
  tab-ext (suc n) f g h = rw (h 0 (omega arith), tab-ext n (λ k. f (suc k)) (λ k. g (suc k)) (λ k l. h (suc k) (omega arith)))

  -- a list whose entry k is f k, for each k, is the table of f
  pub is-tab : (d : A) (l : List A) (n : ℕ) (f : ℕ → A) → length l ≡ n → ((k : ℕ) → k < n → get_or l k d ≡ f k) → l ≡ tab n f
  is-tab d l n f e h =
      ext_get_or d l (tab n f) (e ∙ sym (length-tab n f))
      (λ k b. let k< : k < n = omega arith in h k k< ∙ sym (get_d-tab n f k d k<))

  -- one entry more at the end
  pub tab-last : (n : ℕ) (f : ℕ → A) → tab (suc n) f ≡ tab n f ++ (f n ∷ [])
  unfolding tab
  tab-last zero f = refl
  tab-last (suc n) f = ap (λ (l : List A). f 0 ∷ l) (tab-last n (λ k. f (suc k)))

  -- one entry more of those that pass a test
  pub those-none : (test : ℕ → Bool) (f : ℕ → A) → those 0 test f ≡ []
  unfolding those
  those-none test f = refl

  pub those-more : (n : ℕ) (test : ℕ → Bool) (f : ℕ → A) → those (n + 1) test f ≡ those n test f ++ pick (test n) (f n ∷ []) []
  unfolding those
  those-more n test f = rw add-one

  pub those-next : (n : ℕ) (test : ℕ → Bool) (f : ℕ → A) → test n ≡ true → those (n + 1) test f ≡ those n test f ++ (f n ∷ [])
  those-next n test f e = those-more n test f ∙ rw e

  pub those-skip : (n : ℕ) (test : ℕ → Bool) (f : ℕ → A) → test n ≡ false → those (n + 1) test f ≡ those n test f
  those-skip n test f e = those-more n test f ∙ rw e (append-nil (those n test f))

  pub those-ext : (n : ℕ) (t u : ℕ → Bool) (f g : ℕ → A) → ((k : ℕ) → k < n → t k ≡ u k) → ((k : ℕ) → k < n → f k ≡ g k) → those n t f ≡ those n u g
  unfolding those
  those-ext zero t u f g h e = refl
  those-ext (suc n) t u f g h e =
      rw (those-ext n t u f g (λ k l. h k (le_step l)) (λ k l. e k (le_step l)), h n (lt-suc_self n), e n (lt-suc_self n))

  pub length-those : (n : ℕ) (test : ℕ → Bool) (f : ℕ → A) → length (those n test f) ≡ tally n test
  unfolding those tally
  length-those zero test f = refl
  length-those (suc n) test f =
      length-append (those n test f) (pick (test n) (f n ∷ []) [])
      ∙ by-test (test n) (λ e. rw e (omega (arith, length-those n test f))) (λ e. rw e (omega (arith, length-those n test f)))

module _ {A B : Type 0} (f : A → B → A) where
  -- one turn of a loop that folds: what is left to fold before it and after it
  pub fold_step : (l : List B) (i : ℕ) (d : B) (a : A) → i < length l → fold f a (drop i l) ≡ fold f (f a (get_or l i d)) (drop (i + 1) l)
  unfolding fold
  fold_step l i d a h = rw (add-one, drop-cons l i d)

  pub fold_done : (l : List B) (i : ℕ) (a : A) → length l ≤ i → fold f a (drop i l) ≡ a
  unfolding fold
  fold_done l i a h = ap (λ (r : List B). fold f a r) (drop_of_length-le l h)

  pub fold-append : (a : A) (l m : List B) → fold f a (l ++ m) ≡ fold f (fold f a l) m
  unfolding fold
  fold-append a [] m = refl
  fold-append a (x ∷ l) m = fold-append (f a x) l m

  -- one entry more at the end
  pub fold-last : (a : A) (l : List B) (x : B) → fold f a (l ++ (x ∷ [])) ≡ f (fold f a l) x
  unfolding fold
  fold-last a l x = fold-append a l (x ∷ [])
