-- What the checks that both calls begin with have shown where they pass. Assumes nothing.
use Prim.Native.Nat.{ℕ}
use mathlib.Core.Path.{◌≡◌, refl, sym}
use Rattle.std.specs.Prelude.{Ok}
use Rattle.base.specs.Refusal.{refusal}
use Rattle.base.proofs.Chain.{all_pass}
use Rattle.rules.specs.Answers.{Answer, checked}
use Rattle.rules.specs.Bounds.{max_radius}
use Rattle.rules.specs.Places.{extension_checks}
use Rattle.rules.specs.declared.World.{World}
use Rattle.rules.specs.declared.Offset.{Offset}
use Rattle.rules.proofs.Answered.{passed}
use borrow.Author.Tests.{leb-true}
use Rattle.place_extension.specs.Given.{Reached}

module _ (rows cols : ℕ) (o : Offset) (w : World) (k : ℕ) {x : Answer Unit} (e : x ≡ checked (extension_checks rows cols o w k)) (was : x ≡ Ok tt) where
  pub all-passed : 0 ≡ refusal (extension_checks rows cols o w k)
  all-passed = passed (extension_checks rows cols o w k) tt e was

  pub reached : Reached rows cols o w k
  reached =
      let h = all_pass (extension_checks rows cols o w k) refl (sym all-passed) in
      record { sides = search; near = leb-true k max_radius (search); walled = search; fitting = search }
