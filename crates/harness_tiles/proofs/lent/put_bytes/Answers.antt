-- `harness_tiles::lent::put_bytes` meets its contract: at each turn what is left to store gives the whole. Assumes nothing.
use Rattle.harness_tiles.proofs.Stored.{put-turn, put-done}
use Rattle.harness_tiles.proofs.lent.put_bytes.Goals as goal

pub loop-k-preserved : goal.loop-k-preserved
loop-k-preserved c = put-turn 0 _ _ _ _ _ c.loop-k-test.true c.put.ensures c.loop-k.invariant

pub returns : goal.returns
returns c = put-done _ _ _ _ c.loop-k-test.false c.loop-k.invariant
