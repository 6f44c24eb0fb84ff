-- Two results that meet the contract of a public call coincide; of a call on a queue that is lent for change, the answers and what the
-- queue holds then.
-- Assumes nothing.
use Prim.Native.Nat.{ℕ}
use mathlib.Core.Path.{◌≡◌}
use mathlib.Core.Bool.{Bool}
use Rattle.std.specs.Prelude.{Option}
use mathlib.Core.List.{[]}
use Rattle.base.proofs.Chain.{coincide, gives-coincide}
use Rattle.rules.specs.Forced.{queue_of, grown_by, taken_from, queue_empty, queue_length}
use Rattle.rules.specs.declared.ForcedPositions.{ForcedPositions}
use Rattle.rules.specs.declared.ForcedPipeline.{ForcedPipeline}
use Rattle.rules.specs.declared.Grown.{Grown}
use Rattle.rules.specs.declared.Taken.{Taken}
use Rattle.queue.specs.Promises.{TakesFrom, AddsTo}
use Rattle.rules.specs.Answers.{Answer}
use Rattle.rules.specs.declared.ForcedPosition.{ForcedPosition}

pub new : {r s : ForcedPipeline} → r ≡ queue_of [] → s ≡ queue_of [] → r ≡ s
new p q = coincide p q

pub add-positions : (queue : ForcedPipeline) (positions : ForcedPositions) {r s : Grown} → r ≡ grown_by queue positions
    → s ≡ grown_by queue positions → r ≡ s
add-positions queue positions p q = coincide p q

pub take_next : (queue : ForcedPipeline) {r s : Taken} → r ≡ taken_from queue → s ≡ taken_from queue → r ≡ s
take_next queue p q = coincide p q

pub is-empty : (queue : ForcedPipeline) {r s : Answer Bool} → r ≡ queue_empty queue → s ≡ queue_empty queue → r ≡ s
is-empty queue p q = coincide p q

pub len : (queue : ForcedPipeline) {r s : Answer ℕ} → r ≡ queue_length queue → s ≡ queue_length queue → r ≡ s
len queue p q = coincide p q

pub take-next-from : (old : ForcedPipeline) {r s : Answer (Option ForcedPosition)} {m n : ForcedPipeline} → TakesFrom old r m → TakesFrom old s n → (r ≡ s) × (m ≡ n)
take-next-from old p q = gives-coincide p q

pub add-positions-to : (positions : ForcedPositions) (old : ForcedPipeline) {r s : Answer Unit} {m n : ForcedPipeline} → AddsTo positions old r m
    → AddsTo positions old s n → (r ≡ s) × (m ≡ n)
add-positions-to positions old p q = gives-coincide p q
