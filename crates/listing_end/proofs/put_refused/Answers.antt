-- `listing_end::put_refused` meets its contract: the word, and the number's line after it. Assumes nothing.
use Rattle.listing_lines.proofs.Written.{writes_then}
use Rattle.listing_end.specs.Ending.{refused_line}
use Rattle.listing_end.proofs.put_refused.Goals as goal

pub returns : goal.returns
unfolding refused_line
returns c = rw (← c.from.ensures) (writes_then c.put_text-next.ensures c.put_number_line.ensures)
