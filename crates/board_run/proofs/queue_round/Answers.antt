-- `board_run::queue_round` meets its contract: what is offered is what was found, and there are at most eight. Assumes nothing.
use mathlib.Core.List.{List}
use mathlib.Core.Path.{◌∙◌, ap, subst}
use Rattle.rules.specs.Forced.{offered, with_positions}
use Rattle.rules.specs.declared.ForcedPosition.{ForcedPosition}
use Rattle.queue_ring.specs.Waiting.{Adds}
use Rattle.board_run.proofs.Leaning.{found-few}
use Rattle.board_run.proofs.Showing.{offered-of}
use Rattle.board_run.proofs.queue_round.Goals as goal

pub add_positions-requires : goal.add_positions-requires
add_positions-requires c = found-few _ _ _ _ _ _ _ _ _ _ c.forced_round-found.ensures

pub returns : goal.returns
returns c =
    let q = c.args.queue.now in
    subst (λ (l : List ForcedPosition). Adds (with_positions q l) q c.add_positions.result c.add_positions.new.self)
    (ap offered c.forced_round-found.ensures ∙ offered-of _) c.add_positions.ensures
