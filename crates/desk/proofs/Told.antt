-- A forced run and a widening told at the desk: the number of the answer, the values that it tells, and the planes as the call left them.
-- Assumes nothing.
use Prim.Native.Nat.{ℕ}
use mathlib.Core.Path.{◌≡◌, ◌∙◌, ap, ap₂, subst}
use mathlib.Core.List.{List}
use lib.IntN.{ℤ}
use Rattle.std.specs.Prelude.{Option}
use Rattle.base.specs.Refusal.{Gives}
use Rattle.rules.specs.Answers.{Answer, number_of}
use Rattle.rules.specs.Board.{Board}
use Rattle.rules.specs.Promises.{panel, RunsOut, Widens}
use Rattle.rules.specs.declared.World.{World}
use Rattle.rules.specs.declared.Offset.{Offset}
use Rattle.rules.specs.declared.Pads.{Pads}
use Rattle.rules.specs.declared.BoundingBox.{BoundingBox}
use Rattle.rules.specs.declared.RanOut.{RanOut}
use Rattle.boundary_slots.specs.Slots.{world, offset_by, offset_stored}
use Rattle.boundary.specs.Boundary.{run_stored, told_left, Tells}
use Rattle.desk.specs.Desk.{beside, DeskRuns, DeskWidens}

-- f is `told_left` of what is stored
told-beside : {A B : Type 0} (f : Answer A → List B → List B) {answer a : Answer A} {planes left : Board} {out after : List B} {r : ℕ}
    → Gives answer planes a left → Gives (number_of a) (f a out) r after → Gives (number_of answer) (beside planes (f answer out)) r (beside left after)
told-beside f {out = out} g t =
    record { answered = t.answered ∙ ap number_of g.answered; leaves = ap₂ beside g.leaves (t.leaves ∙ ap (λ x. f x out) g.answered) }

module _ (rows cols : ℕ) (tiles : List ℕ) (count budget : ℕ) (old : Board) (out : List ℕ) where
  pub run-told : {row col down across : ℤ} {bounds b : Option BoundingBox} {w : World} {o : Offset} {a : Answer RanOut} {left : Board} {after : List ℕ} {r : ℕ}
      → w ≡ world row col → o ≡ offset_by down across → b ≡ bounds
      → RunsOut (panel rows cols tiles o) count w b budget old a left → Tells run_stored a out r after
      → DeskRuns rows cols tiles count row col down across bounds budget old out r (beside left after)
  run-told {row} {col} {down} {across} {bounds} {b} {w} {o} {a} {left} {after} {r} p q e g t = told-beside (told_left run_stored) here t
    where
      here : RunsOut (panel rows cols tiles (offset_by down across)) count (world row col) bounds budget old a left
      here =
          subst (λ (x : Option BoundingBox). RunsOut (panel rows cols tiles (offset_by down across)) count (world row col) x budget old a left) e
          (subst (λ (x : Offset). RunsOut (panel rows cols tiles x) count (world row col) b budget old a left) q
          (subst (λ (x : World). RunsOut (panel rows cols tiles o) count x b budget old a left) p g))

pub widen-told : (rows cols : ℕ) (p : Pads) (tiles : List ℕ) (count : ℕ) (old lent : Board) (out : List ℤ)
    {down across : ℤ} {offset : Offset} {a : Answer Offset} {left : Board} {after : List ℤ} {r : ℕ}
    → offset ≡ offset_by down across → Widens (panel rows cols tiles offset) count p old lent a left → Tells offset_stored a out r after
    → DeskWidens rows cols p tiles count down across old lent out r (beside left after)
widen-told rows cols p tiles count old lent out {down} {across} {offset} {a} {left} {after} {r} e w t = told-beside (told_left offset_stored) here t
  where
    here : Widens (panel rows cols tiles (offset_by down across)) count p old lent a left
    here = subst (λ (o : Offset). Widens (panel rows cols tiles o) count p old lent a left) e w
