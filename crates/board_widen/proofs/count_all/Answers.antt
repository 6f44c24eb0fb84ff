-- `board_widen::count_all` meets its contract: the plane is filled and every region is recounted. Assumes nothing.
use mathlib.Core.Path.{◌∙◌}
use native.Mathlib.Omega.{arith}
use borrow.Author.Rules.{rules}
use Rattle.board_recount.proofs.Whole.{first-spans, all-counted}
use Rattle.board_widen.proofs.count_all.Goals as goal

pub recount_near-requires : goal.recount_near-requires
recount_near-requires c =
    let b = c.requires.countable.board in
    (first-spans _ _ _ _ _ (omega arith) (omega arith) b.tall b.wide c.requires.pads_nonzero (search rules), c.requires.countable)

pub returns : goal.returns
returns c = c.recount_near.ensures ∙ all-counted _ _ _ _ _ c.requires.pads_nonzero c.requires.countable.board.plane c.fill.ensures c.requires.widecounts_len
