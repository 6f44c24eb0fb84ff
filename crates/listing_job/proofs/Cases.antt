-- The form on small lists of numbers: one statement on one table, shown by evaluating the definitions. Each case is a list of numbers and
-- whether it is of the form: a sample of 1x2 with colours 1 and 1, a board of 1x1.
-- Assumes nothing.
use Prim.Native.Nat.{ℕ}
use mathlib.Core.Path.{◌≡◌, refl}
use mathlib.Core.Bool.{Bool, true, false}
use mathlib.Core.List.{List, [], ◌∷◌, map}
use Rattle.base.specs.Counting.{within}
use Rattle.listing_job.specs.Form.{steps_in, sides_up_to, head_fits, tail_fits, is_formed}

pub record Formed : Type 0 where
  pub numbers : List ℕ
  pub is : Bool

abbrev forms : List Formed
forms =
    record { numbers = 1 ∷ 2 ∷ 1 ∷ 0 ∷ 1 ∷ 1 ∷ 1 ∷ 1 ∷ 1 ∷ []; is = true }
    ∷ record { numbers = 1 ∷ 2 ∷ 31 ∷ 0 ∷ 1 ∷ 999 ∷ 1 ∷ 1 ∷ 1 ∷ []; is = true }
    ∷ record { numbers = 1 ∷ 2 ∷ 1 ∷ 0 ∷ 1 ∷ 1 ∷ 1 ∷ 1 ∷ 1 ∷ 1 ∷ 0 ∷ 0 ∷ 1 ∷ 2 ∷ 0 ∷ 0 ∷ []; is = true }
    -- nothing; a number short; an option 2; sides 0 and 17; board sides 0 and 33
    ∷ record { numbers = []; is = false }
    ∷ record { numbers = 1 ∷ 2 ∷ 1 ∷ 0 ∷ 1 ∷ 1 ∷ 1 ∷ 1 ∷ []; is = false }
    ∷ record { numbers = 1 ∷ 2 ∷ 1 ∷ 2 ∷ 1 ∷ 1 ∷ 1 ∷ 1 ∷ 1 ∷ []; is = false }
    ∷ record { numbers = 1 ∷ 2 ∷ 1 ∷ 0 ∷ 2 ∷ 1 ∷ 1 ∷ 1 ∷ 1 ∷ []; is = false }
    ∷ record { numbers = 0 ∷ 2 ∷ 1 ∷ 0 ∷ 1 ∷ 1 ∷ 1 ∷ []; is = false }
    ∷ record { numbers = 1 ∷ 17 ∷ 1 ∷ 0 ∷ 1 ∷ 1 ∷ 1 ∷ 1 ∷ 1 ∷ 1 ∷ 1 ∷ 1 ∷ 1 ∷ 1 ∷ 1 ∷ 1 ∷ 1 ∷ 1 ∷ 1 ∷ 1 ∷ 1 ∷ 1 ∷ 1 ∷ 1 ∷ []; is = false }
    ∷ record { numbers = 1 ∷ 2 ∷ 1 ∷ 0 ∷ 1 ∷ 1 ∷ 1 ∷ 0 ∷ 1 ∷ []; is = false }
    ∷ record { numbers = 1 ∷ 2 ∷ 1 ∷ 0 ∷ 1 ∷ 1 ∷ 1 ∷ 1 ∷ 33 ∷ []; is = false }
    -- a step that starts with 3 or 0, a lay cut off, a lift cut off, a number over
    ∷ record { numbers = 1 ∷ 2 ∷ 1 ∷ 0 ∷ 1 ∷ 1 ∷ 1 ∷ 1 ∷ 1 ∷ 3 ∷ 0 ∷ 0 ∷ 1 ∷ []; is = false }
    ∷ record { numbers = 1 ∷ 2 ∷ 1 ∷ 0 ∷ 1 ∷ 1 ∷ 1 ∷ 1 ∷ 1 ∷ 0 ∷ []; is = false }
    ∷ record { numbers = 1 ∷ 2 ∷ 1 ∷ 0 ∷ 1 ∷ 1 ∷ 1 ∷ 1 ∷ 1 ∷ 1 ∷ 0 ∷ 0 ∷ []; is = false }
    ∷ record { numbers = 1 ∷ 2 ∷ 1 ∷ 0 ∷ 1 ∷ 1 ∷ 1 ∷ 1 ∷ 1 ∷ 2 ∷ 0 ∷ []; is = false }
    ∷ record { numbers = 1 ∷ 2 ∷ 1 ∷ 0 ∷ 1 ∷ 1 ∷ 1 ∷ 1 ∷ 1 ∷ 1 ∷ 0 ∷ 0 ∷ 1 ∷ 2 ∷ []; is = false }
    ∷ []

pub forms-are : map (λ (c : Formed). is_formed c.numbers) forms ≡ map (λ (c : Formed). c.is) forms
unfolding within steps_in sides_up_to head_fits tail_fits is_formed
forms-are = refl
