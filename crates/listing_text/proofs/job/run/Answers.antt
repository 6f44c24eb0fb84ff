-- `listing_text::job::run` meets its contract: a fresh board, the steps on it, and the end, by `ran-fresh`. Assumes nothing.
use Rattle.listing_text.proofs.Telling.{ran-fresh}
use Rattle.listing_end.specs.Ending.{panel_with}
use Rattle.listing_text.proofs.job.run.Goals as goal

pub put_end-requires : goal.put_end-requires
unfolding panel_with
put_end-requires c = c.requires.0.sides

pub returns : goal.returns
unfolding panel_with
returns c = ran-fresh _ _ _ _ c.requires.0 c.fresh.ensures c.run_steps-next.ensures c.put_end.ensures
