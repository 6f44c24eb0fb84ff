-- `tile_seen::same_tile` meets its contract: a search that leaves at the first difference. Assumes nothing.
use Prim.Native.Nat.{◌+◌, ◌*◌}
use mathlib.Core.Path.{sym}
use native.Mathlib.Omega.{arith}
use borrow.Author.Tests.{eq-eqb, ne_eqb}
use lib.Dec.{eqb}
use lib.ListN.{get_or}
use Rattle.base.proofs.Counted.{every-none, every-stop, every-next, every-done}
use Rattle.rules.specs.Tiles.{same_tile}
use Rattle.tile_seen.proofs.same_tile.Goals as goal

pub loop-k-init : goal.loop-k-init
loop-k-init c = every-none _

pub returns-then-tiles-at : goal.returns-then-tiles-at
unfolding same_tile
returns-then-tiles-at c = every-stop _ (omega arith) (ne_eqb _ _ c.if-tiles-at.true)

pub loop-k-preserved : goal.loop-k-preserved
loop-k-preserved c =
    every-next (λ k. eqb (get_or c.args.tiles.now (c.args.n * 9 + k) 0) (get_or c.args.tile.now k 0)) c.loop-k.invariant (eq-eqb _ _ c.if-tiles-at.false)

pub returns : goal.returns
unfolding same_tile
returns c = every-done _ (omega arith) (omega arith) (sym c.loop-k.invariant)
