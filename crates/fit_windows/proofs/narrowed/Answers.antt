-- `fit_windows::narrowed` meets its contract: a window that starts above or left is skipped, of any other the colours are found. Assumes nothing.
use Rattle.fit_windows.proofs.Lists.{skip-above, skip-beside, kept-left}
use Rattle.fit_windows.proofs.narrowed.Goals as goal

pub returns-then-row-q : goal.returns-then-row-q
returns-then-row-q c = skip-above _ _ _ _ _ c.if-row-q.true

pub returns-then-col-q : goal.returns-then-col-q
returns-then-col-q c = skip-beside _ _ _ _ _ c.if-col-q.true

pub returns : goal.returns
returns c = kept-left _ _ _ _ _ c.if-row-q.false c.if-col-q.false c.window_colours.ensures
