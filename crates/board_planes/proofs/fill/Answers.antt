-- `board_planes::fill` meets its contract: what `fill` of a slice writes. Assumes nothing.
use Prim.Native.Nat.{ℕ, zero, suc}
use mathlib.Core.Path.{◌≡◌, refl, ◌∙◌, ap}
use mathlib.Core.List.{◌∷◌}
use lib.ListN.{length, replicate}
use Rattle.base.specs.Tables.{tab}
use Rattle.board_planes.proofs.fill.Goals as goal

all-alike : (n v : ℕ) → replicate n v ≡ tab n (λ k. v)
unfolding tab
all-alike zero v = refl
all-alike (suc n) v = ap (λ l. v ∷ l) (all-alike n v)

pub returns : goal.returns
returns c = c.fill.ensures.after (λ y e. e) ∙ all-alike (length c.args.plane.now) c.args.value
