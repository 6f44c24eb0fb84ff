-- `board_widen::widen` meets its contract: refused by a check, or the three planes are filled and the new offset is told. Assumes nothing.
use mathlib.Core.Path.{refl}
use native.Mathlib.Omega.{arith}
use Rattle.rules.specs.Promises.{board}
use Rattle.rules.specs.Widening.{after_widen}
use Rattle.rules.proofs.Answered.{handed_to, caught, passed, refused, done}
use Rattle.board_widen_checks.proofs.Moved.{pads-low}
use Rattle.board_widen.proofs.Leaning.{Accepted, accepted, weighable, countable, widened_is}
use Rattle.board_widen.proofs.widen.Goals.{In_ok-check_widen}
use Rattle.board_widen.proofs.widen.Goals as goal

pub returns-in_err-check_widen : goal.returns-in_err-check_widen
unfolding after_widen
returns-in_err-check_widen c =
    rw (handed_to c.from_residual.ensures refl) (refused _ _ _ _ (caught _ _ c.check_widen.ensures c.in_err-check_widen.was))

-- all checks have passed
held : (c : In_ok-check_widen)
    → let a = c.args in
    Accepted (board a.pieces.now a.weights.now a.counts.now) (board a.widepieces.now a.wideweights.now a.widecounts.now) a.rows a.cols a.pads a.tiles.now a.offset
held c = accepted _ _ _ _ _ _ _ _ (passed _ _ c.check_widen.ensures c.in_ok-check_widen.was)

pub move_pieces-requires : goal.move_pieces-requires
move_pieces-requires c = (held (goal.at.move_pieces-requires c).In_ok-check_widen).sized

pub move_weights-requires : goal.move_weights-requires
move_weights-requires c =
    let h = held (goal.at.move_weights-requires c).In_ok-check_widen in
    record { weighable = weighable c.move_pieces.ensures h; wideweights_len = h.weights-room }

pub count_all-requires : goal.count_all-requires
count_all-requires c =
    let h = held (goal.at.count_all-requires c).In_ok-check_widen in
    let v = c.move_pieces.ensures in
    record { countable = countable v h; pads_nonzero = (weighable v h).some; widecounts_len = h.counts-room }

pub offset_after-requires : goal.offset_after-requires
offset_after-requires c =
    let h = held (goal.at.offset_after-requires c).In_ok-check_widen in
    let low = pads-low _ _ _ h.sized.new-sides in
    (h.fitting, omega (arith, low.0), omega (arith, low.1))

pub returns : goal.returns
unfolding after_widen
returns c =
    done _ _ _ _ (passed _ _ c.check_widen.ensures c.in_ok-check_widen.was) c.offset_after.ensures
    (widened_is _ _ _ _ _ _ c.move_pieces.ensures c.move_weights.ensures c.count_all.ensures)
