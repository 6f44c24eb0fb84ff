-- What the functions beneath the public calls of crate queue need and do, once the checks are made.
use Rattle.std.specs.Prelude.{ℕ, ◌≤◌, ◌≡◌, List, drop, Ok}
use Rattle.base.specs.Refusal.{Gives, refusal, unless_refused}
use Rattle.rules.specs.Bounds.{queue_room, added_room}
use Rattle.rules.specs.Answers.{Answer, answered, next_of}
use Rattle.rules.specs.Forced.{queued, queue_of, room_checks}
use Rattle.rules.specs.declared.ForcedPosition.{ForcedPosition}
use Rattle.rules.specs.declared.ForcedPositions.{ForcedPositions}
use Rattle.rules.specs.declared.ForcedPipeline.{ForcedPipeline}
use Rattle.rules.specs.declared.Taken.{Taken}
use Rattle.rules.specs.declared.Grown.{Grown}

-- entry start of a queue, or the first behind its entries
pub record Part (q : ForcedPipeline) (start : ℕ) : Type 0 where
  pub in-room : q.len ≤ queue_room
  pub in-queue : start ≤ q.len

-- a queue as an accepted call leaves it
pub record Tidy (q : ForcedPipeline) : Type 0 where
  pub in-room : q.len ≤ queue_room
  pub as-list : q ≡ queue_of (queued q)

pub record Adding (q : ForcedPipeline) (p : ForcedPositions) : Type 0 where
  pub in-room : q.len ≤ queue_room
  pub few : p.len ≤ added_room

-- the queue of l if there is room for all of it, else q as it was
unfoldable pub grown_to : ForcedPipeline → List ForcedPosition → Grown
grown_to q l =
    let n : ℕ = refusal (room_checks l) in
    record { answer = answered n tt; queue = unless_refused n (queue_of l) q }

-- the same of a queue that is lent for change
abbrev pub Adds : ForcedPipeline → List ForcedPosition → Answer Unit → ForcedPipeline → Type 0
Adds q l = Gives (grown_to q l).answer (grown_to q l).queue

-- the first of l, and the queue of the others
unfoldable pub next_out : List ForcedPosition → Taken
next_out l = record { next = Ok (next_of l); queue = queue_of (drop 1 l) }
