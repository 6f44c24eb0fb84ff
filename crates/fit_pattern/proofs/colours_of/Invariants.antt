-- `fit_pattern::colours_of` meets its contract. The loop's invariant: the places passed hold what the definition says of them, where what is
-- read is what it says. Assumes nothing.
use Prim.Native.Nat.{ℕ, ◌<◌}
use mathlib.Core.Path.{◌≡◌}
use Rattle.base.proofs.Swept.{swept}
use Rattle.fit_pattern.proofs.colours_of.Given as goal

abbrev pub invariant-loop-i : goal.invariant-loop-i
invariant-loop-i g l =
    (f : ℕ → ℕ) → ((i r : ℕ) → i < g.row.N → goal.F-post g l.colour i r → r ≡ f i) → l.cell-items ≡ swept 0 l.i f l.initial.cell-items
