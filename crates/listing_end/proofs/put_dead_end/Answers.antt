-- `listing_end::put_dead_end` meets its contract: the words, the row, a space and the column's line, written one after the other.
-- Assumes nothing.
use Rattle.listing_lines.proofs.Written.{writes_then}
use Rattle.listing_end.specs.Ending.{dead_end_text}
use Rattle.listing_end.proofs.put_dead_end.Goals as goal

pub returns : goal.returns
unfolding dead_end_text
returns c = writes_then (writes_then (writes_then c.put_text-row.ensures c.put_number-blank.ensures) c.put_text-col.ensures) c.put_number_line.ensures
