-- `board_forced::forced_run` meets its contract: refused by its checks, or run out. Assumes nothing.
use mathlib.Core.Path.{refl}
use Rattle.rules.proofs.Answered.{handed_to, caught, passed}
use Rattle.board_forced.proofs.Leaning.{leans, unrun, ran}
use Rattle.board_forced.proofs.forced_run.Goals as goal

pub returns-in_err-check_run : goal.returns-in_err-check_run
returns-in_err-check_run c =
    rw (handed_to c.from_residual.ensures refl) (unrun _ _ _ _ _ _ (caught _ _ c.check_run.ensures c.in_err-check_run.was))

pub run_out-requires : goal.run_out-requires
run_out-requires c = leans _ _ _ _ _ _ (passed _ _ c.check_run.ensures c.in_ok-check_run.was)

pub returns : goal.returns
returns c = ran _ _ _ _ _ _ (passed _ _ c.check_run.ensures c.in_ok-check_run.was) c.run_out.ensures
