-- `harness_floats::port_lift_score` meets its contract: the answer by its definition, passed on. Assumes nothing.
use Rattle.harness_floats.proofs.port_lift_score.Goals as goal

pub returns : goal.returns
returns c = record { answer = _; numbers = c.written.ensures; promised = c.aggregate_feasibility-answer.ensures }
