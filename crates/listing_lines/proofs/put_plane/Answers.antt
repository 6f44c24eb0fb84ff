-- `listing_lines::put_plane` meets its contract. The loop's invariant: the cells passed have been written. Assumes nothing.
use mathlib.Core.Path.{◌∙◌}
use Rattle.listing_lines.specs.Lines.{cell_text, plane_text}
use Rattle.listing_lines.proofs.Texts.{joined-none, joined-turn, joined-all}
use borrow.Author.Rules.{rules}
use Rattle.listing_lines.proofs.put_plane.Goals as goal

pub loop-k-init : goal.loop-k-init
loop-k-init c = (search rules, joined-none _ _ _)

pub loop-k-preserved : goal.loop-k-preserved
loop-k-preserved c = (c.put_cell-p.auto.out ∙ c.loop-k.invariant.0, joined-turn (cell_text c.args.least c.args.plane.now c.args.cols) _ c.loop-k.invariant.1 c.put_cell-p.ensures)

pub shape_of-out : goal.shape_of-out
shape_of-out c = c.loop-k.invariant.0

pub returns : goal.returns
unfolding plane_text
returns c = joined-all _ _ _ c.loop-k.auto.k-end c.loop-k-test.false c.loop-k.invariant.1
