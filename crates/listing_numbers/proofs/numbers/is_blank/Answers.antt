-- `listing_numbers::numbers::is_blank` meets its contract: what the library's test of each byte answers, by `any-is`. Assumes nothing.
use mathlib.Core.Path.{◌∙◌}
use Rattle.listing_numbers.specs.Decimals.{is_blank}
use Rattle.listing_numbers.proofs.Reading.{any-is}
use Rattle.listing_numbers.proofs.numbers.is_blank.Goals as goal

pub returns : goal.returns
unfolding is_blank
returns c = c.contains.ensures.value ∙ any-is _ c.args.blanks.now
