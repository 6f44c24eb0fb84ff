-- `fit_windows::fit_count_at` meets its contract: the region is read, and its tiles counted. Assumes nothing.
use mathlib.Core.Path.{◌∙◌}
use Rattle.fit_pattern.proofs.Windows.{painted}
use Rattle.fit_pattern.proofs.Patch.{whole_is}
use Rattle.rules.proofs.Fitting.{count-ext}
use Rattle.fit_windows.proofs.fit_count_at.Goals as goal

pub fit_count-requires-clause-painted : goal.fit_count-requires-clause-painted
fit_count-requires-clause-painted c = painted 9 _ c.requires.countable.board c.region_at-region.ensures

pub returns : goal.returns
returns c = c.fit_count.ensures ∙ count-ext _ _ _ (whole_is _ c.region_at-region.ensures)
