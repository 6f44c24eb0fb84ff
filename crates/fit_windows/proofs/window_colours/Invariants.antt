-- `fit_windows::window_colours` meets its contract. The loop's invariant: missing are the colours that no tile passed serves. Assumes nothing.
use Rattle.fit_pattern.specs.Patch.{window_of}
use Rattle.fit_windows.specs.Kept.{Keeps}
use Rattle.fit_windows.proofs.Lists.{unserved}
use Rattle.fit_windows.proofs.window_colours.Given as goal

abbrev pub invariant-loop-n : goal.invariant-loop-n
invariant-loop-n l = Keeps l.left (unserved l.tiles (window_of l.patch l.q) l.q l.n) l.missing
