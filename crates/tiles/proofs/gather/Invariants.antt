-- `tiles::gather` meets its contract: the loop keeps the distinct tiles of the variants so far, and their chains. Assumes nothing.
use Rattle.rules.specs.Tiles.{variant}
use Rattle.tiles.proofs.Store.{Kept}
use Rattle.tiles.proofs.gather.Given as goal

abbrev pub invariant-loop-v : goal.invariant-loop-v
invariant-loop-v l = Kept (variant l.source l.rows l.cols l.rotations l.reflections) l.initial.store l.v l.n l.store l.heads l.nexts
