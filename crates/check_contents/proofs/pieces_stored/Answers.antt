-- `check_contents::pieces_stored` meets its contract: what its test answers of each piece is what the definition says of it. Assumes nothing.
use Prim.Native.Nat.{◌+◌}
use native.Mathlib.Omega.{arith}
use borrow.Author.Rules.{rules}
use Rattle.base.specs.Counting.{within}
use Rattle.check_sizes.proofs.Sides.{count_most}
use Rattle.rules.specs.Tests.{pieces_stored}
use Rattle.check_contents.proofs.pieces_stored.Goals as goal

pub overflow_add-most : goal.overflow_add-most
overflow_add-most c = omega (arith, count_most _ c.requires)

pub returns : goal.returns
unfolding pieces_stored
returns c = c.all_pass.ensures (within 1 (c.args.count + 1)) 0 (λ x r e. search rules)
