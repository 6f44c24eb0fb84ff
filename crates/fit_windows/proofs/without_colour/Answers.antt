-- `fit_windows::without_colour` meets its contract: the set less what it has in common with the one colour. Assumes nothing.
use Rattle.fit_windows.proofs.Kept.{common-le}
use Rattle.fit_windows.proofs.Lists.{without-this}
use borrow.Author.Rules.{rules}
use Rattle.fit_windows.proofs.without_colour.Goals as goal

pub overflow_sub-result : goal.overflow_sub-result
overflow_sub-result c = common-le 32 _ _ _ (search rules) (c.common_colours-there.ensures 32 (search rules))

pub returns : goal.returns
returns c =
    without-this _ (c.with_colour.ensures 30 (search rules) (search rules)) (record { is = λ n few fit. c.common_colours-there.ensures n fit })
