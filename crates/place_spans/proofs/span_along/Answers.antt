-- `place_spans::span_along` meets its contract: each sum fits 64 bits, and stands for the definition's.
-- Assumes nothing.
use Prim.Native.Nat.{ℕ, ◌^◌}
use mathlib.Core.Path.{◌≡◌, ◌∙◌, ap}
use lib.IntN.{◌+ℤ◌}
use mir.Syntax.{w64}
use mir.Val.{of_z}
use Rattle.base.specs.Whole.{clip}
use Rattle.rules.specs.Places.{span_of}
use Rattle.rules.specs.declared.Span.{Span}
use Rattle.base.proofs.Signs.{Reads, add-fits, sub-fits, added, subbed}
use Rattle.places.proofs.Wide.{index_is}
use Rattle.place_spans.proofs.Radius.{one-is, reach-is}
use Rattle.place_spans.proofs.span_along.Goals.{After-signed_index-index}
use Rattle.place_spans.proofs.span_along.Goals as goal

module _ (c : After-signed_index-index) where
  middle-is : Reads w64 (of_z w64 c.signed_index-index.result) (c.before.args.coordinate +ℤ c.before.args.offset) (2 ^ 32)
  middle-is = index_is c.before.ranges.coordinate c.before.ranges.offset c.signed_index-index.ensures

pub overflow_sub-index : goal.overflow_sub-index
overflow_sub-index c = sub-fits (middle-is c) (reach-is c.before.requires) tt

pub overflow_add-index : goal.overflow_add-index
overflow_add-index c = add-fits (middle-is c.before) (reach-is c.before.before.requires) tt

pub overflow_add-index-2 : goal.overflow_add-index-2
overflow_add-index-2 c = add-fits (added (middle-is c.before) (reach-is c.before.before.requires) tt) one-is tt

both : {a b x y : ℕ} → a ≡ x → b ≡ y → ◌≡◌ {A = Span} (record { 0 = a; 1 = b }) (record { 0 = x; 1 = y })
both p q = rw (p, q)

pub returns : goal.returns
unfolding span_of
returns c =
    let s = c.before.before in
    both
    (c.before.clip_to.ensures ∙ ap clip (subbed (middle-is s) (reach-is s.before.requires) tt).is)
    (c.clip_to-2.ensures ∙ ap clip (added (added (middle-is s) (reach-is s.before.requires) tt) one-is tt).is)
