-- `listing_numbers::numbers::parse` meets its contract: what the survey found decides it. Assumes nothing.
use Rattle.listing_numbers.proofs.Reading.{parse-bad, parse-full, parse-fits, parse-done}
use Rattle.listing_numbers.proofs.numbers.parse.Goals as goal

pub returns-in_default : goal.returns-in_default
returns-in_default c = parse-bad _ _ _ _ _ c.survey.ensures c.in_default.is

pub returns-then-store-n : goal.returns-then-store-n
returns-then-store-n c = parse-full _ _ _ _ _ c.survey.ensures _ c.in-Some.is c.if-store-n.true

pub keep-requires : goal.keep-requires
keep-requires c = parse-fits _ _ _ c.args.store.now _ c.survey.ensures _ c.in-Some.is c.if-store-n.false

pub returns : goal.returns
returns c = parse-done _ _ _ _ _ c.survey.ensures _ c.in-Some.is _ c.if-store-n.false c.keep.ensures
