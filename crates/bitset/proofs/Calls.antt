-- What a set that passed its checks is.
-- Assumes nothing.
use Prim.Native.Nat.{ℕ, ◌^◌, ◌<◌, ◌≤◌}
use mathlib.Core.Path.{◌≡◌, refl, sym}
use mathlib.Core.Bool.{true}
use borrow.Author.Tests.{ltb-true}
use Rattle.base.specs.Refusal.{refusal}
use Rattle.base.proofs.Chain.{all_pass}
use Rattle.rules.specs.Bounds.{max_colours}
use Rattle.rules.specs.Tests.{colour_count}
use Rattle.rules.specs.Sets.{marks_within, new_set_checks, set_checks, sets_checks}
use Rattle.rules.specs.declared.TileBitset.{TileBitset}
use Rattle.check_sizes.proofs.Sides.{count_most}

marks : (s : TileBitset) → marks_within s ≡ true → s.bits < 2 ^ s.size
unfolding marks_within
marks s e = ltb-true s.bits (2 ^ s.size) e

pub counted : (n : ℕ) → 0 ≡ refusal (new_set_checks n) → colour_count n ≡ true
counted n e = all_pass (new_set_checks n) refl (sym e)

module _ (s : TileBitset) where
  pub few : 0 ≡ refusal (set_checks s) → s.size ≤ max_colours
  few e = let h = all_pass (set_checks s) refl (sym e) in count_most s.size (search)

  pub marked : 0 ≡ refusal (set_checks s) → s.bits < 2 ^ s.size
  marked e = let h = all_pass (set_checks s) refl (sym e) in marks s (search)

  pub first-marked : (u : TileBitset) → 0 ≡ refusal (sets_checks s u) → s.bits < 2 ^ s.size
  first-marked u e = let h = all_pass (sets_checks s u) refl (sym e) in marks s (search)
