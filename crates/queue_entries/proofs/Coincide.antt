-- Two results that meet the contract of a function coincide.
-- Assumes nothing.
use mathlib.Core.Path.{◌≡◌}
use mathlib.Core.List.{[]}
use Rattle.base.proofs.Chain.{coincide}
use Rattle.rules.specs.Forced.{queued, offered, queue_of, with_positions}
use Rattle.rules.specs.declared.ForcedPositions.{ForcedPositions}
use Rattle.rules.specs.declared.ForcedPipeline.{ForcedPipeline}
use Rattle.rules.specs.declared.Grown.{Grown}
use Rattle.rules.specs.declared.Taken.{Taken}
use Rattle.queue_entries.specs.Unchecked.{grown_to, next_out}

pub new : {r s : ForcedPipeline} → r ≡ queue_of [] → s ≡ queue_of [] → r ≡ s
new p q = coincide p q

pub unchecked-add-positions : (queue : ForcedPipeline) (positions : ForcedPositions) {r s : Grown}
    → r ≡ grown_to queue (with_positions (queued queue) (offered positions))
    → s ≡ grown_to queue (with_positions (queued queue) (offered positions)) → r ≡ s
unchecked-add-positions queue positions p q = coincide p q

pub unchecked-take-next : (queue : ForcedPipeline) {r s : Taken} → r ≡ next_out (queued queue) → s ≡ next_out (queued queue) → r ≡ s
unchecked-take-next queue p q = coincide p q
