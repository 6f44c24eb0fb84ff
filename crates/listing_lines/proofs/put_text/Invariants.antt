-- `listing_lines::put_text` meets its contract. The loop's invariant: the bytes passed have been written. Assumes nothing.
use mathlib.Core.Path.{◌≡◌}
use lib.ListN.{length, take}
use Rattle.listing_lines.specs.Pages.{Prints}
use Rattle.listing_lines.proofs.put_text.Given as goal

abbrev pub invariant-loop-b : goal.invariant-loop-b
invariant-loop-b l = (length l.out ≡ length l.initial.out) × Prints (take l.b-index l.text) l.at l.initial.out l.p l.out
