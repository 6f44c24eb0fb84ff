-- `boundary_slots::bounds_from` meets its contract: a box where one is given, else none. Assumes nothing.
use mathlib.Core.Path.{◌≡◌, refl, ◌∙◌}
use mathlib.Core.Bool.{Bool, true, false}
use Rattle.std.specs.Bool.{then_some}
use Rattle.rules.specs.Answers.{if_there}
use Rattle.boundary_slots.specs.Slots.{bounds_from}
use Rattle.boundary_slots.proofs.bounds_from.Goals as goal

there : {A : Type 0} (b : Bool) (a : A) → then_some b a ≡ if_there b a
there true a = refl
there false a = refl

pub returns : goal.returns
unfolding bounds_from
returns c = c.then_some.ensures ∙ there _ _
