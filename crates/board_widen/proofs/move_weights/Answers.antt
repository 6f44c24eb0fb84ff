-- `board_widen::move_weights` meets its contract: a sweep, in which each entry becomes its weight. Assumes nothing.
use mathlib.Core.Path.{◌∙◌}
use native.Mathlib.Omega.{arith}
use borrow.Author.Rules.{rules}
use Rattle.base.proofs.Sweep.{sweep-none, sweep-turn, sweep-all}
use Rattle.board_widen.proofs.move_weights.Goals as goal

pub loop-k-init : goal.loop-k-init
loop-k-init c = sweep-none

pub weight_after-requires : goal.weight_after-requires
weight_after-requires c =
    record {
      weighable = c.requires.weighable;
      k_bound = omega (arith, c.requires.wideweights_len, c.loop-k.invariant.long, c.loop-k-test.true);
    }

pub loop-k-preserved : goal.loop-k-preserved
loop-k-preserved c = sweep-turn c.loop-k.invariant (search rules) c.weight_after.ensures

pub returns : goal.returns
returns c = sweep-all c.loop-k.invariant (search rules) ∙ rw c.requires.wideweights_len
