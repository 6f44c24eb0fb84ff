-- `listing_lines::put` meets its contract: a byte within the page is written, past its end nothing changes. Assumes nothing.
use Rattle.listing_lines.proofs.Written.{writes_byte, writes-full}
use Rattle.listing_lines.proofs.put.Goals as goal

pub returns-then-at-out : goal.returns-then-at-out
returns-then-at-out c = writes_byte _ _ _ c.if-at-out.true

pub returns : goal.returns
returns c = writes-full _ _ _ c.if-at-out.false
