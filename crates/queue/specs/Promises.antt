-- The promises of the two calls on a queue that is lent for change: the answer, and the queue that is left.
use Rattle.std.specs.Prelude.{Option}
use Rattle.base.specs.Refusal.{Gives}
use Rattle.rules.specs.Forced.{grown_by, taken_from}
use Rattle.rules.specs.declared.ForcedPositions.{ForcedPositions}
use Rattle.rules.specs.declared.ForcedPipeline.{ForcedPipeline}
use Rattle.rules.specs.Answers.{Answer}
use Rattle.rules.specs.declared.ForcedPosition.{ForcedPosition}

abbrev pub TakesFrom : ForcedPipeline → Answer (Option ForcedPosition) → ForcedPipeline → Type 0
TakesFrom old = Gives (taken_from old).next (taken_from old).queue

abbrev pub AddsTo : ForcedPositions → ForcedPipeline → Answer Unit → ForcedPipeline → Type 0
AddsTo positions old = Gives (grown_by old positions).answer (grown_by old positions).queue
