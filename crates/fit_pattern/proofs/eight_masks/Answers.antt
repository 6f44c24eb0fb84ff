-- `fit_pattern::eight_masks` meets its contract: the masks of eight colours at once; sum and product fit by bounds alone. Assumes nothing.
use Prim.Native.Nat.{ℕ, ◌+◌, ◌≤◌}
use native.Mathlib.Omega.{arith}
use lib.Bits.{and_le_r}
use Rattle.rules.specs.Bounds.{max_colours}
use Rattle.fit_pattern.specs.Patch.{shown_in}
use Rattle.fit_pattern.specs.Packed.{packed}
use Rattle.fit_pattern.proofs.Packed.{packed-mono, masks-is}
use Rattle.fit_pattern.proofs.Patch.{shown-each}
use Rattle.fit_pattern.proofs.eight_masks.Goals.{After-eight-colours}
use Rattle.fit_pattern.proofs.eight_masks.Goals as goal

-- each cell holds a colour
module _ (c : After-eight-colours) where
  abbrev shown : ℕ → ℕ
  shown = let a = c.args in shown_in a.cells.now a.width a.at

  small : (i : ℕ) → shown i ≤ max_colours
  small = let a = c.args in shown-each a.cells.now a.width a.at (λ x. x ≤ max_colours) c.requires.painted.known

  few : c.eight-colours.result ≤ packed 8 (λ i. max_colours)
  few = rw c.eight-colours.ensures (packed-mono 8 shown (λ i. max_colours) (λ i l. small i))

pub overflow_add-laid : goal.overflow_add-laid
unfolding packed
overflow_add-laid c = record { fits = omega (arith, few c) }

pub overflow_mul-result : goal.overflow_mul-result
overflow_mul-result c = record { fits = omega (arith, and_le_r (c.eight-colours.result + 0x7f7f_7f7f_7f7f_7f7f) 0x8080_8080_8080_8080) }

pub returns : goal.returns
unfolding packed
returns c = rw c.eight-colours.ensures (masks-is 8 (shown c) (λ i l. omega (arith, small c i)))
