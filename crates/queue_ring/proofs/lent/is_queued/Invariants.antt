-- `queue_ring::lent::is_queued` meets its contract. The loop's invariant: whether the place is among the entries from i on decides whether it is
-- queued.
-- Assumes nothing.
use Prim.Native.Nat.{ℕ}
use mathlib.Core.Path.{◌≡◌}
use mathlib.Core.List.{List}
use lib.ListN.{drop}
use Rattle.rules.specs.Forced.{is_queued}
use Rattle.queue_ring.specs.Slots.{slots, waiting}
use Rattle.queue_ring.proofs.lent.is_queued.Given as goal

abbrev pub invariant-loop-i : goal.invariant-loop-i
invariant-loop-i l =
    (colours : List ℕ)
    → is_queued l.place (drop l.i (waiting (slots l.rows l.cols colours) l.first l.len)) ≡ is_queued l.place (waiting (slots l.rows l.cols colours) l.first l.len)
