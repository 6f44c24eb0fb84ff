-- `listing_lines::put_number` meets its contract: a decimal is the ten digits at most that its callee writes. Assumes nothing.
use Rattle.listing_lines.specs.Lines.{decimal}
use Rattle.listing_lines.proofs.put_number.Goals as goal

pub returns : goal.returns
unfolding decimal
returns c = c.put_digits.ensures
