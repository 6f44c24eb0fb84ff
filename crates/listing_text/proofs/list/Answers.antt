-- `listing_text::list` meets its contract: what its callee wrote ends within the page, so the number counts bytes of it. Assumes nothing.
use Rattle.listing_text.proofs.Telling.{writes-counts}
use Rattle.listing_text.proofs.list.Goals as goal

pub returns-clause-prefix_len : goal.returns-clause-prefix_len
returns-clause-prefix_len c = (writes-counts _ _ _ _ c.list_input.ensures).0
