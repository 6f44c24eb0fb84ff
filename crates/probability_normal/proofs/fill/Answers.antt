-- `probability_normal::fill` meets its contract: the copies that are laid are the value itself. Assumes nothing.
use Rattle.std.proofs.Common.{refl, ◌∙◌}
use Rattle.std.proofs.lemmas.Simd.{splat_is_map}
use Rattle.probability_normal.proofs.fill.Goals as goal

pub returns : goal.returns
returns c = c.fill.ensures.after (λ y e. e) ∙ splat_is_map c.args.ps.now _ c.args.x refl
