-- `listing_lines::put_text` meets its contract. The loop's invariant: the bytes passed have been written. Assumes nothing.
use mathlib.Core.Path.{◌∙◌}
use Rattle.listing_lines.proofs.Written.{writes-none}
use Rattle.listing_lines.proofs.Texts.{text-turn, text-all}
use borrow.Author.Rules.{rules}
use Rattle.listing_lines.proofs.put_text.Goals as goal

pub loop-b-init : goal.loop-b-init
loop-b-init c = (search rules, writes-none _ _)

pub loop-b-preserved : goal.loop-b-preserved
loop-b-preserved c = (c.put-p.auto.out ∙ c.loop-b.invariant.0, text-turn _ _ c.loop-b-test.true c.loop-b.invariant.1 c.put-p.ensures)

pub shape_of-out : goal.shape_of-out
shape_of-out c = c.loop-b.invariant.0

pub returns : goal.returns
returns c = text-all _ _ c.loop-b-test.false c.loop-b.invariant.1
