-- `listing_lines::put_plane` meets its contract. The loop's invariant: the cells passed have been written. Assumes nothing.
use mathlib.Core.Path.{◌≡◌}
use lib.ListN.{length}
use Rattle.listing_lines.specs.Pages.{Prints}
use Rattle.listing_lines.specs.Lines.{joined, cell_text}
use Rattle.listing_lines.proofs.put_plane.Given as goal

abbrev pub invariant-loop-k : goal.invariant-loop-k
invariant-loop-k l = (length l.out ≡ length l.initial.out) × Prints (joined l.k (cell_text l.least l.plane l.cols)) l.at l.initial.out l.p l.out
