-- `listing_lines::put_digits`, which calls itself with one digit fewer, meets its contract. Assumes nothing.
use Rattle.listing_lines.proofs.Texts.{put-none, put_one, put-more}
use Rattle.listing_lines.proofs.+put_digits.Goals as goal

pub returns-then-k-eq0 : goal.returns-then-k-eq0
returns-then-k-eq0 t c = put-none _ _ c.if-k-eq0.true

pub returns-then-n-lt10 : goal.returns-then-n-lt10
returns-then-n-lt10 t c = put_one _ _ c.if-k-eq0.false c.if-n-lt10.true c.digit.ensures c.put.ensures

pub returns : goal.returns
returns t c = put-more _ _ c.if-k-eq0.false c.if-n-lt10.false c.digit-2.ensures c.put_digits-next.ensures c.put-2.ensures
