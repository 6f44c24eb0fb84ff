-- What the definitions say: numbers are whole steps exactly if they are the numbers of a list of steps, one after the other.
-- Assumes nothing.
use Prim.Native.Nat.{ℕ, zero, suc}
use mathlib.Core.Path.{◌≡◌, refl, ap}
use mathlib.Core.List.{List, [], ◌∷◌}
use native.Mathlib.Omega.{arith}
use Rattle.listing_job.specs.Form.{Step, lay, lift, Steps, misformed, steps, and_then, steps_in}

-- the numbers of a list of steps
unfoldable pub spelled : List Step → List ℕ
spelled [] = []
spelled (lay row col colour ∷ l) = 1 ∷ row ∷ col ∷ colour ∷ spelled l
spelled (lift row col ∷ l) = 2 ∷ row ∷ col ∷ spelled l

pub steps-read : (l : List Step) → steps_in (spelled l) ≡ steps l
unfolding spelled steps_in
steps-read [] = refl
steps-read (lay row col colour ∷ l) = ap (and_then (lay row col colour)) (steps-read l)
steps-read (lift row col ∷ l) = ap (and_then (lift row col)) (steps-read l)

-- what stands before the last step of all that follow
first_of : (s : Step) (x : Steps) (l : List Step) → and_then s x ≡ steps l → (m : List Step) × (x ≡ steps m) × (l ≡ s ∷ m)
first_of s misformed l e = absurd (let z : ◌≡◌ {A = ℕ} 0 1 = cc in omega arith)
first_of s (steps m) l e = (m, refl, cc)

none : {A : Type 0} (l : List Step) → misformed ≡ steps l → A
none l e = absurd (let z : ◌≡◌ {A = ℕ} 0 1 = cc in omega arith)

pub steps-are : (ns : List ℕ) (l : List Step) → steps_in ns ≡ steps l → spelled l ≡ ns
unfolding spelled steps_in
steps-are [] l e = let q : [] ≡ l = cc in rw (← q)
steps-are (suc zero ∷ row ∷ col ∷ colour ∷ ns) l e =
    let w = first_of (lay row col colour) (steps_in ns) l e in
    rw w.2 (ap (λ (q : List ℕ). 1 ∷ row ∷ col ∷ colour ∷ q) (steps-are ns w.0 w.1))
steps-are (suc (suc zero) ∷ row ∷ col ∷ ns) l e =
    let w = first_of (lift row col) (steps_in ns) l e in
    rw w.2 (ap (λ (q : List ℕ). 2 ∷ row ∷ col ∷ q) (steps-are ns w.0 w.1))
steps-are (suc zero ∷ []) l e = none l e
steps-are (suc zero ∷ row ∷ []) l e = none l e
steps-are (suc zero ∷ row ∷ col ∷ []) l e = none l e
steps-are (suc (suc zero) ∷ []) l e = none l e
steps-are (suc (suc zero) ∷ row ∷ []) l e = none l e
steps-are (zero ∷ ns) l e = none l e
steps-are (suc (suc (suc n)) ∷ ns) l e = none l e
