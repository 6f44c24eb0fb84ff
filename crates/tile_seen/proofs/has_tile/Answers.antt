-- `tile_seen::has_tile` meets its contract: the walk along the chain of the bucket. Assumes nothing.
use mathlib.Core.Path.{sym, ◌∙◌}
use native.Mathlib.Omega.{arith}
use Rattle.base.proofs.Counted.{some-stop}
use Rattle.rules.specs.Tiles.{has_tile}
use Rattle.tile_seen.proofs.Buckets.{search-start, search-on, search-less, search-none}
use Rattle.tile_seen.proofs.has_tile.Goals as goal

pub loop-last-init : goal.loop-last-init
loop-last-init c = search-start _ _ _ _ c.requires.0 _ _ c.requires.1 c.requires.2 c.from-last.ensures

pub returns-then-same_tile : goal.returns-then-same_tile
unfolding has_tile
returns-then-same_tile c = some-stop _ (omega (arith, c.loop-last.invariant.low)) (sym c.same_tile.ensures ∙ c.if-same_tile.true)

pub loop-last-smaller : goal.loop-last-smaller
loop-last-smaller c = search-less _ _ _ _ c.requires.0 _ _ c.loop-last.invariant c.loop-last-test.true c.from-last-in-loop-last.ensures

pub loop-last-preserved : goal.loop-last-preserved
loop-last-preserved c =
    search-on _ _ _ _ c.requires.0 _ _ c.loop-last.invariant c.loop-last-test.true (sym c.same_tile.ensures ∙ c.if-same_tile.false)
    c.from-last-in-loop-last.ensures

pub returns : goal.returns
returns c = search-none _ _ _ c.loop-last.invariant c.loop-last-test.false
