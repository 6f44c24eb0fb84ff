-- `check_contents::no_byte_above` meets its contract: a byte is up to the limit exactly if it is up to the number asked. Assumes nothing.
use Prim.Native.Nat.{ℕ, ◌<◌}
use mathlib.Core.Path.{◌∙◌}
use native.Mathlib.Omega.{arith}
use lib.Dec.{leb}
use lib.ListN.{get_or}
use borrow.Author.Rules.{rules}
use Rattle.base.proofs.Counted.{every-ext}
use Rattle.rules.specs.Tests.{none_above}
use Rattle.check_contents.proofs.no_byte_above.Goals as goal

pub returns : goal.returns
unfolding none_above
returns c =
    let byte : (i : ℕ) → get_or c.args.plane.now i 0 < 256 = λ i. omega (arith, c.type_inv.plane i) in
    c.all_pass.ensures (λ x. leb x c.byte_limit-limit.result) 0 (λ x r e. search rules)
    ∙ every-ext _ _ _ (λ i l. c.byte_limit-limit.ensures _ (byte i))
