-- `queue_entries::same_place` meets its contract: equal coordinates are one place, however the second are handed on.
-- Assumes nothing.
use mathlib.Core.Path.{◌≡◌, ◌∙◌}
use mathlib.Core.Bool.{◌&&◌}
use native.Mathlib.Omega.{arith}
use lib.IntN.{ℤ}
use Rattle.std.specs.Ordering.{int_eq}
use Rattle.std.proofs.lemmas.Int.{ints}
use Rattle.rules.specs.Places.{same_place}
use Rattle.rules.specs.declared.World.{World}
use Rattle.queue_entries.proofs.Places.{same-is}
use Rattle.queue_entries.proofs.same_place.Goals as goal

handed : (v w : World) {x y : ℤ} → x ≡ w.0 → y ≡ w.1 → (int_eq v.0 x && int_eq v.1 y) ≡ same_place v w
handed v w p q = rw (p, q) (same-is v w)

pub returns : goal.returns
returns c = c.eq.ensures ∙ handed c.args.place c.args.other (omega (arith, ints)) (omega (arith, ints))
