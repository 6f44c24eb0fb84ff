-- Runs of calls on one queue, for the statement that it is first in, first out: what goes in, what comes out, what is left.
use Rattle.std.specs.Prelude.{Option, Some, None, Ok, Err, Bool, true, not, ◌&&◌, List, [], ◌∷◌, ◌++◌}
use Rattle.base.specs.Counting.{pick}
use Rattle.base.specs.Refusal.{refusal, unless_refused}
use Rattle.rules.specs.Forced.{queued, offered, is_queued, add_checks, grown_by, taken_from}
use Rattle.rules.specs.declared.ForcedPosition.{ForcedPosition}
use Rattle.rules.specs.declared.ForcedPositions.{ForcedPositions}
use Rattle.rules.specs.declared.ForcedPipeline.{ForcedPipeline}
use Rattle.rules.specs.Answers.{Answer}

-- of the positions offered those whose place is not queued by then, in order
unfoldable pub new_ones : List ForcedPosition → List ForcedPosition → List ForcedPosition
new_ones l [] = []
new_ones l (e ∷ more) = pick (is_queued e.coordinates l) (new_ones l more) (e ∷ new_ones (l ++ (e ∷ [])) more)

-- no place stands in l twice, nor in l and among those before it
unfoldable pub none_twice : List ForcedPosition → List ForcedPosition → Bool
none_twice before [] = true
none_twice before (e ∷ l) = not (is_queued e.coordinates before) && none_twice (before ++ (e ∷ [])) l

pub data QueueCall : Type 0 where
  adding : ForcedPositions → QueueCall
  taking : QueueCall

unfoldable pub queue_left : ForcedPipeline → QueueCall → ForcedPipeline
queue_left q (adding p) = (grown_by q p).queue
queue_left q taking = (taken_from q).queue

unfoldable pub comes_in : ForcedPipeline → QueueCall → List ForcedPosition
comes_in q (adding p) = unless_refused (refusal (add_checks q p)) (new_ones (queued q) (offered p)) []
comes_in q taking = []

abbrev pub position_in : Answer (Option ForcedPosition) → List ForcedPosition
position_in (Ok (Some e)) = e ∷ []
position_in (Ok None) = []
position_in (Err r) = []

unfoldable pub goes_out : ForcedPipeline → QueueCall → List ForcedPosition
goes_out q (adding p) = []
goes_out q taking = position_in (taken_from q).next

-- the same of a run, from its first call on
unfoldable pub queue_after : ForcedPipeline → List QueueCall → ForcedPipeline
queue_after q [] = q
queue_after q (c ∷ cs) = queue_after (queue_left q c) cs

unfoldable pub all_in : ForcedPipeline → List QueueCall → List ForcedPosition
all_in q [] = []
all_in q (c ∷ cs) = comes_in q c ++ all_in (queue_left q c) cs

unfoldable pub all_out : ForcedPipeline → List QueueCall → List ForcedPosition
all_out q [] = []
all_out q (c ∷ cs) = goes_out q c ++ all_out (queue_left q c) cs
