-- `place_extension::pads::boxed_before` meets its contract: each difference fits 64 bits, and stands for the definition's.
-- Assumes nothing.
use Prim.Native.Nat.{ℕ, ◌-◌}
use mathlib.Core.Path.{◌∙◌, ap}
use Rattle.base.specs.Whole.{clip}
use Rattle.rules.specs.Places.{boxed_before}
use Rattle.base.proofs.Signs.{sub-fits, subbed}
use Rattle.places.proofs.Wide.{widened}
use Rattle.place_extension.proofs.Edges.{pad-is, first-is}
use Rattle.place_extension.proofs.pads.boxed_before.Goals as goal

pub overflow_sub-first_of : goal.overflow_sub-first_of
overflow_sub-first_of c = sub-fits (first-is c.ranges.offset c.first_of.ensures) (pad-is c.requires) tt

pub overflow_sub-least : goal.overflow_sub-least
overflow_sub-least c =
    sub-fits (widened c.ranges.least) (subbed (first-is c.ranges.offset c.first_of.ensures) (pad-is c.requires) tt) tt

pub returns : goal.returns
unfolding boxed_before
returns c =
    c.kept.ensures
    ∙ ap (λ (n : ℕ). c.args.pad - n)
    (c.clip_to.ensures
    ∙ ap clip (subbed (widened c.ranges.least) (subbed (first-is c.ranges.offset c.first_of.ensures) (pad-is c.requires) tt) tt).is)
