-- `queue_ring::Ring::is_empty` meets its contract: as many wait as the length says. Assumes nothing.
use Prim.Native.Nat.{ℕ}
use mathlib.Core.Path.{sym, ◌∙◌, ap}
use lib.Dec.{eqb}
use lib.ListN.{length}
use Rattle.queue_ring.specs.Slots.{slots}
use Rattle.queue_ring.proofs.Slots.{length-waiting}
use Rattle.queue_ring.proofs.Ring.is_empty.Goals as goal

pub returns : goal.returns
returns c =
    let r = c.self.inside in
    ap (λ (n : ℕ). eqb n 0) (sym (length-waiting (slots r.rows.now r.cols.now r.colours.now) r.first r.len) ∙ ap length c.self.view_is)
