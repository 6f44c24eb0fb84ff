-- `board_run::begin` meets its contract: the forced neighbours are queued in a queue that is empty. Assumes nothing.
use mathlib.Core.Path.{refl}
use Rattle.rules.specs.Promises.{panel}
use Rattle.board_run.proofs.Showing.{shows-begun}
use Rattle.board_run.proofs.begin.Goals as goal

pub returns : goal.returns
returns c =
    let a = c.args in (
      refl,
      refl,
      λ b same.
          shows-begun (panel a.rows a.cols a.tiles.now a.offset) a.count a.bounds a.place b a.pieces.now a.queue.now same c.requires.1 _ _ _
          c.is_err-full.ensures.value c.queue_round.ensures,
    )
