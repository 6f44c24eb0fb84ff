-- `desk::desk_plain_score` meets its contract: the answer by its definition, passed on. Assumes nothing.
use Rattle.desk.proofs.desk_plain_score.Goals as goal

pub returns : goal.returns
returns c = record { answer = _; numbers = c.written.ensures; promised = c.plain_score.ensures }
