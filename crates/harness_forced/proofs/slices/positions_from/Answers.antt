-- `harness_forced::slices::positions_from` meets its contract: a room of entries, each as the slices have it. Assumes nothing.
use Prim.Native.Nat.{ℕ}
use mathlib.Core.Path.{◌∙◌, ap}
use mathlib.Core.List.{List}
use borrow.Author.Rules.{rules}
use Rattle.base.specs.Tables.{tab}
use Rattle.rules.specs.declared.ForcedPosition.{ForcedPosition}
use Rattle.harness_forced.specs.Slices.{entry_at, positions_from}
use Rattle.harness_forced.proofs.slices.positions_from.Goals as goal

pub returns : goal.returns
unfolding positions_from
returns c =
    let s = c.args in
    ap (λ (es : List ForcedPosition). record { entries = es; len = s.len })
    (c.fill.ensures ∙ ap (λ (n : ℕ). tab n (entry_at s.coordinates.now s.colours.now)) (search rules))
