-- `tiles::extract_tiles` meets its contract: a refusal of the sample, or what was gathered. Assumes nothing.
use Rattle.base.proofs.Chain.{chain}
use Rattle.rules.proofs.Answered.{answers, handed_to, passed}
use Rattle.tiles.proofs.Answers.{sound, told-refused, told-gathered}
use Rattle.tiles.proofs.extract_tiles.Goals as goal

pub returns-in_err-check_sample : goal.returns-in_err-check_sample
returns-in_err-check_sample c =
    let g = told-refused _ _ _ _ _ _ _ (search (chain, answers, c.in_err-check_sample.was) depth 20 fits 5000) in
    record { answered = handed_to c.from_residual.ensures g.answered; leaves = g.leaves }

pub gather-requires : goal.gather-requires
gather-requires c = sound _ _ _ _ (passed _ _ c.check_sample.ensures c.in_ok-check_sample.was)

pub returns : goal.returns
returns c = told-gathered _ _ _ _ _ _ _ _ _ (passed _ _ c.check_sample.ensures c.in_ok-check_sample.was) c.gather.ensures
