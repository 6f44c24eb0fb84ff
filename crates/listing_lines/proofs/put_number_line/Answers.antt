-- `listing_lines::put_number_line` meets its contract: the number, and the line feed after it. Assumes nothing.
use Rattle.listing_lines.specs.Lines.{number_line}
use Rattle.listing_lines.proofs.Written.{writes_then}
use Rattle.listing_lines.proofs.put_number_line.Goals as goal

pub returns : goal.returns
unfolding number_line
returns c = writes_then c.put_number-next.ensures c.put.ensures
