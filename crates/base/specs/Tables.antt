-- Lists given by a rule for each place, folds along a list, and what holds of each entry of one.
use Rattle.std.specs.Prelude.{ℕ, zero, suc, Bool, List, [], ◌∷◌, ◌++◌}
use Rattle.base.specs.Counting.{pick}

-- the list of n entries whose entry k is f k: a plane, whose cells are counted row by row
unfoldable pub tab : {A : Type 0} → ℕ → (ℕ → A) → List A
tab zero f = []
tab (suc n) f = f zero ∷ tab n (λ k. f (suc k))

-- f k for each k below n of which the test holds, in order
unfoldable pub those : {A : Type 0} → ℕ → (ℕ → Bool) → (ℕ → A) → List A
those zero test f = []
those (suc n) test f = those n test f ++ pick (test n) (f n ∷ []) []

-- f (.. (f (f a x₀) x₁) ..): one step for each entry, from the first on
unfoldable pub fold : {A B : Type 0} → (A → B → A) → A → List B → A
fold f a [] = a
fold f a (x ∷ xs) = fold f (f a x) xs

-- a fact of each entry
abbrev pub Each : {A : Type 0} → (A → Type 0) → List A → Type 0
Each P [] = Unit
Each P (x ∷ l) = P x × Each P l
