-- `board_recount::recount_feasibility` meets its contract: refused by its planes, refused by its place, or done. Assumes nothing.
use mathlib.Core.Path.{◌≡◌, refl, ◌∙◌}
use Rattle.base.specs.Refusal.{refusal}
use Rattle.base.proofs.Chain.{chain}
use Rattle.rules.specs.Board.{recount_checks}
use Rattle.rules.proofs.Answered.{handed_to, caught, stopped, went-on, passed, refused, done}
use Rattle.rules.specs.Fit.{place_checks}
use Rattle.board_near.specs.Near.{near_spans}
use Rattle.board_near.proofs.Placing.{place-passes, nearby}
use Rattle.board_recount.proofs.Recounts.{in-spans, recounted-is}
use Rattle.board_recount.proofs.Leaning.{Planed, planed}
use Rattle.board_recount.proofs.recount_feasibility.Goals.{In_ok-spans}
use Rattle.board_recount.proofs.recount_feasibility.Goals as goal

pub returns-in_err-check_planes : goal.returns-in_err-check_planes
returns-in_err-check_planes c =
    rw (handed_to c.from_residual.ensures refl)
    (refused _ _ _ _ (stopped _ _ (caught _ _ c.check_planes.ensures c.in_err-check_planes.was)))

pub returns-in_err-spans : goal.returns-in_err-spans
unfolding near_spans
returns-in_err-spans c =
    let a = c.args in
    rw (handed_to c.from_residual-in_err-spans.ensures refl)
    (refused _ _ _ _
    (went-on _ _ (passed _ _ c.check_planes.ensures c.in_ok-check_planes.was)
    (caught (place_checks a.rows a.cols a.place a.offset) _ c.near_spans.ensures c.in_err-spans.was)))

-- all checks have passed
made : (c : In_ok-spans)
    → let a = c.args in 0 ≡ refusal (recount_checks a.counts.now a.pieces.now a.rows a.cols a.tiles.now a.count a.place a.offset)
made c =
    search (chain, passed _ _ c.check_planes.ensures c.in_ok-check_planes.was, place-passes _ _ _ _ c.in_ok-spans.was c.near_spans.ensures) depth 20 fits 5000

-- and what the recount leans on then
leans : (c : In_ok-spans)
    → let a = c.args in Planed a.counts.now a.pieces.now a.rows a.cols a.tiles.now a.place a.offset
leans c = planed _ _ _ _ _ _ _ _ (made c)

pub recount_near-requires : goal.recount_near-requires
recount_near-requires c =
    let h = leans (goal.at.recount_near-requires c).In_ok-spans in
    (in-spans _ _ _ _ _ h.on (nearby _ _ _ _ c.in_ok-spans.was c.near_spans.ensures), h.ready)

pub returns : goal.returns
returns c =
    let d = (goal.at.returns c).In_ok-spans in
    done _ _ _ _ (made d) refl
    (c.recount_near.ensures ∙ recounted-is _ _ _ _ _ (leans d).on (nearby _ _ _ _ c.in_ok-spans.was c.near_spans.ensures) _ _)
