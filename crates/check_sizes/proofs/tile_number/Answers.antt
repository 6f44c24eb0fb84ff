-- `check_sizes::tile_number` meets its contract: a chain of one check. Assumes nothing.
use Rattle.base.proofs.Chain.{chain}
use Rattle.rules.proofs.Answered.{answers}
use Rattle.rules.specs.Tiles.{tiles_counted}
use Rattle.check_sizes.proofs.tile_number.Goals as goal

pub returns-then-not-whole_tiles : goal.returns-then-not-whole_tiles
unfolding tiles_counted
returns-then-not-whole_tiles c = search (chain, answers) depth 20 fits 5000

pub returns : goal.returns
unfolding tiles_counted
returns c = search (chain, answers) depth 20 fits 5000
