-- `bitset_colours::members` meets its contract: the loop fills the list colour by colour. Assumes nothing.
use native.Mathlib.Omega.{arith}
use Rattle.rules.specs.Sets.{has}
use Rattle.bitset_colours.proofs.Words.{odd-lt, has-next}
use Rattle.bitset_colours.proofs.Colours.{filled_none, filled-turn}
use Rattle.bitset_colours.proofs.members.Goals as goal

pub loop-k-init : goal.loop-k-init
loop-k-init c = filled_none 30 (has c.args.bits)

pub loop-k-preserved : goal.loop-k-preserved
loop-k-preserved c = filled-turn 30 _ _ _ _ _ c.loop-k.invariant (omega arith) (odd-lt _) (has-next _ _)
