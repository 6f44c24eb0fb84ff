-- `harness::port_fresh` meets its contract: the answer by its definition, passed on. Assumes nothing.
use Rattle.harness.proofs.port_fresh.Goals as goal

pub returns : goal.returns
returns c = record { answer = _; numbers = c.written.ensures; promised = c.fresh.ensures }
