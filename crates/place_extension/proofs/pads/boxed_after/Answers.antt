-- `place_extension::pads::boxed_after` meets its contract: each sum fits 64 bits, and stands for the definition's.
-- Assumes nothing.
use Prim.Native.Nat.{ℕ, ◌-◌}
use mathlib.Core.Path.{◌∙◌, ap}
use Rattle.base.specs.Whole.{clip}
use Rattle.rules.specs.Places.{boxed_after}
use Rattle.base.proofs.Signs.{add-fits, sub-fits, added, subbed}
use Rattle.places.proofs.Wide.{widened}
use Rattle.place_extension.proofs.Edges.{pad-is, last-is}
use Rattle.place_extension.proofs.pads.boxed_after.Goals as goal

pub overflow_add-last_of : goal.overflow_add-last_of
overflow_add-last_of c = add-fits (last-is c.ranges.offset c.requires.0 c.last_of.ensures) (pad-is c.requires.1) tt

pub overflow_sub-last_of : goal.overflow_sub-last_of
overflow_sub-last_of c =
    sub-fits (added (last-is c.ranges.offset c.requires.0 c.last_of.ensures) (pad-is c.requires.1) tt) (widened c.ranges.most) tt

pub returns : goal.returns
unfolding boxed_after
returns c =
    c.kept.ensures
    ∙ ap (λ (n : ℕ). c.args.pad - n)
    (c.clip_to.ensures
    ∙ ap clip (subbed (added (last-is c.ranges.offset c.requires.0 c.last_of.ensures) (pad-is c.requires.1) tt) (widened c.ranges.most) tt).is)
