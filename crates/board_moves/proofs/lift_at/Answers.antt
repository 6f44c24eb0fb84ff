-- `board_moves::lift_at` meets its contract: its three steps, joined. Assumes nothing.
use mathlib.Core.Path.{◌∙◌}
use native.Mathlib.Omega.{arith}
use Rattle.rules.specs.Board.{lifted}
use Rattle.fit_windows.proofs.Accepted.{set-countable}
use Rattle.board_near.proofs.Leaning.{in-plane}
use Rattle.board_recount.proofs.Recounts.{in-spans, recounted-is}
use Rattle.board_moves.proofs.lift_at.Goals as goal

pub overflow_mul-k : goal.overflow_mul-k
overflow_mul-k c = record { fits = omega (arith, in-plane _ _ _ _ c.requires.pieces) }

pub overflow_add-k : goal.overflow_add-k
overflow_add-k c = record { fits = omega (arith, in-plane _ _ _ _ c.requires.pieces) }

pub offset_bounds-pieces-k : goal.offset_bounds-pieces-k
offset_bounds-pieces-k c = record { fits = omega (arith, in-plane _ _ _ _ c.requires.pieces) }

pub bounds-pieces-k : goal.bounds-pieces-k
bounds-pieces-k c = omega (arith, in-plane _ _ _ _ c.requires.pieces)

pub recount_near-requires : goal.recount_near-requires
recount_near-requires c =
    let p = c.requires in
    (in-spans _ _ _ _ _ p.counts p.near, set-countable _ _ _ _ _ (omega arith) (omega (arith, c.requires)) _ p.ready)

pub returns : goal.returns
unfolding lifted
returns c =
    let p = c.requires in
    rw (c.lower_near.ensures, c.recount_near.ensures ∙ recounted-is _ _ _ _ _ p.counts p.near _ _)
