-- `bitset_colours::members` meets its contract: the loop fills the list colour by colour. Assumes nothing.
use Rattle.rules.specs.Sets.{has}
use Rattle.bitset_colours.proofs.Colours.{Filled}
use Rattle.bitset_colours.proofs.members.Given as goal

abbrev pub invariant-loop-k : goal.invariant-loop-k
invariant-loop-k l = Filled 30 l.k (has l.bits) l.colours l.len
