-- The step that two of the calls share: which it is, it says by what it makes of the probability of a cell.
use Rattle.std.specs.Prelude.{ℕ, List, Float}
use Rattle.rules.specs.Promises.{Writes}
use Rattle.rules.specs.Probabilities.{Block, region_of, changed_by, influence_checks}
use Rattle.rules.specs.declared.World.{World}
use Rattle.rules.specs.declared.Offset.{Offset}
use Rattle.rules.specs.Answers.{Answer}
use Rattle.probability_influence.specs.Step.{CellStep}

-- the call's new plane: the rules' `multiplied` by `product_at`, and `divided` by `quotient_at`
unfoldable pub stepped : CellStep → ℕ → ℕ → Block → World → Offset → ℕ → List Float → List Float
stepped cell rows cols b place offset k plane = changed_by rows cols (cell (region_of rows cols place offset k) b) plane

abbrev pub Changes : CellStep → ℕ → ℕ → ℕ → Block → World → Offset → ℕ → List Float → Answer Unit → List Float → Type 0
Changes cell rows cols count b place offset k old =
    Writes (influence_checks old rows cols count b place offset k) (stepped cell rows cols b place offset k old) old
