-- Document 01, "Refusal numbers, lowest first when several hold": in every call's list of checks the numbers ascend, so what is answered
-- is the lowest number of all checks that fail. One law over a list whose numbers ascend, by computation; then each call's list.
-- Assumes nothing.
use Rattle.std.specs.Prelude.{Option}
use Prim.Native.Nat.{ℕ, ◌<◌, ◌≤◌}
use mathlib.Core.Bool.{Bool, true}
use mathlib.Core.Path.{◌≡◌, refl}
use mathlib.Core.List.{List}
use lib.Ieee.{Float}
use Rattle.base.specs.Refusal.{Checks, refusal}
use Rattle.base.proofs.Chain.{numbered, Fails, ascending, lowest}
use Rattle.rules.specs.Answers.{checked, number_of}
use Rattle.rules.proofs.Numbers.{known, up-to-ten, told-number}
use Rattle.rules.specs.Places.{span_checks, box_checks, extension_checks, boxed_extension_checks, copy_checks, float_copy_checks}
use Rattle.rules.specs.Sets.{new_set_checks, set_checks, sets_checks}
use Rattle.rules.specs.Tiles.{membership_checks, extraction_checks}
use Rattle.rules.specs.Fit.{listing_checks, region_checks}
use Rattle.rules.specs.Forced.{forced_checks, queue_checks, add_checks, scan_checks}
use Rattle.rules.specs.Scores.{fraction_checks, lay_score_checks, lift_score_checks, whole_score_checks}
use Rattle.rules.specs.Probabilities.{Block, normalise_checks, influence_checks}
use Rattle.rules.specs.Board.{Panel, Board, fresh_checks, lay_checks, lift_checks, weight_checks, recount_checks}
use Rattle.rules.specs.Widening.{widen_checks}
use Rattle.rules.specs.ForcedRun.{run_checks}
use Rattle.rules.specs.declared.World.{World}
use Rattle.rules.specs.declared.Offset.{Offset}
use Rattle.rules.specs.declared.Cell.{Cell}
use Rattle.rules.specs.declared.Span.{Span}
use Rattle.rules.specs.declared.Pads.{Pads}
use Rattle.rules.specs.declared.BoundingBox.{BoundingBox}
use Rattle.rules.specs.declared.TileBitset.{TileBitset}
use Rattle.rules.specs.declared.ForcedPositions.{ForcedPositions}
use Rattle.rules.specs.declared.ForcedPipeline.{ForcedPipeline}

-- where a check fails there is a refusal, its number is no higher than that of the check, and it is the number of what the call answers
abbrev pub Lowest : Checks → Type 0
Lowest cs = (m : ℕ) → Fails m cs → (refusal cs ≤ m) × (0 < refusal cs) × (number_of (checked cs) ≡ refusal cs)

by_order : (cs : Checks) → numbered cs ≡ true → ascending cs ≡ true → known cs ≡ true → Lowest cs
by_order cs p a k m f = let l = lowest cs p a f in (l.0, l.1, told-number (refusal cs) tt (up-to-ten cs k))

-- ---- places

pub spans-lowest : (o : Offset) (w : World) (k : ℕ) → Lowest (span_checks o w k)
spans-lowest o w k = by_order _ refl refl refl

pub contains-lowest : (b : BoundingBox) (w : World) → Lowest (box_checks b w)
contains-lowest b w = by_order _ refl refl refl

pub extension-lowest : (rows cols : ℕ) (o : Offset) (w : World) (k : ℕ) → Lowest (extension_checks rows cols o w k)
extension-lowest rows cols o w k = by_order _ refl refl refl

pub boxed-extension-lowest : (rows cols : ℕ) (o : Offset) (w : World) (k : ℕ) (b : BoundingBox) → Lowest (boxed_extension_checks rows cols o w k b)
boxed-extension-lowest rows cols o w k b = by_order _ refl refl refl

pub copy-lowest : (plane : List ℕ) (rows cols : ℕ) (p : Pads) (target : List ℕ) → Lowest (copy_checks plane rows cols p target)
copy-lowest plane rows cols p target = by_order _ refl refl refl

pub float-copy-lowest : (plane : List Float) (rows cols : ℕ) (p : Pads) (target : List Float) → Lowest (float_copy_checks plane rows cols p target)
float-copy-lowest plane rows cols p target = by_order _ refl refl refl

-- ---- sets and tiles

pub new-set-lowest : (size : ℕ) → Lowest (new_set_checks size)
new-set-lowest size = by_order _ refl refl refl

pub set-lowest : (s : TileBitset) → Lowest (set_checks s)
set-lowest s = by_order _ refl refl refl

pub sets-lowest : (s u : TileBitset) → Lowest (sets_checks s u)
sets-lowest s u = by_order _ refl refl refl

pub membership-lowest : (tile : List ℕ) (count : ℕ) → Lowest (membership_checks tile count)
membership-lowest tile count = by_order _ refl refl refl

pub extraction-lowest : (sample : List ℕ) (rows cols count : ℕ) (rotations reflections : Bool) (store : List ℕ) → Lowest (extraction_checks sample rows cols count rotations reflections store)
extraction-lowest sample rows cols count rotations reflections store = by_order _ refl refl refl

-- ---- fit, forced neighbours, the queue, the scan

pub listing-lowest : (pieces : List ℕ) (rows cols : ℕ) (tiles : List ℕ) (count : ℕ) (w : World) (o : Offset) → Lowest (listing_checks pieces rows cols tiles count w o)
listing-lowest pieces rows cols tiles count w o = by_order _ refl refl refl

pub region-lowest : (pieces : List ℕ) (rows cols : ℕ) (tiles : List ℕ) (count : ℕ) (s : Cell) → Lowest (region_checks pieces rows cols tiles count s)
region-lowest pieces rows cols tiles count s = by_order _ refl refl refl

pub forced-lowest : (pieces : List ℕ) (rows cols : ℕ) (tiles : List ℕ) (count : ℕ) (w : World) (o : Offset) (b : Option BoundingBox) → Lowest (forced_checks pieces rows cols tiles count w o b)
forced-lowest pieces rows cols tiles count w o b = by_order _ refl refl refl

pub queue-lowest : (q : ForcedPipeline) → Lowest (queue_checks q)
queue-lowest q = by_order _ refl refl refl

pub add-lowest : (q : ForcedPipeline) (p : ForcedPositions) → Lowest (add_checks q p)
add-lowest q p = by_order _ refl refl refl

pub scan-lowest : (pieces weights : List ℕ) (rows cols : ℕ) (tiles : List ℕ) (count : ℕ) → Lowest (scan_checks pieces weights rows cols tiles count)
scan-lowest pieces weights rows cols tiles count = by_order _ refl refl refl

-- ---- the board and its steps

pub fresh-lowest : (rows cols tiles : ℕ) (b : Board) → Lowest (fresh_checks rows cols tiles b)
fresh-lowest rows cols tiles b = by_order _ refl refl refl

pub lay-lowest : (j : Panel) (count : ℕ) (b : Board) (w : World) (colour : ℕ) → Lowest (lay_checks j count b w colour)
lay-lowest j count b w colour = by_order _ refl refl refl

pub lift-lowest : (j : Panel) (count : ℕ) (b : Board) (w : World) → Lowest (lift_checks j count b w)
lift-lowest j count b w = by_order _ refl refl refl

pub widen-lowest : (j : Panel) (count : ℕ) (b : Board) (p : Pads) (lent : Board) → Lowest (widen_checks j count b p lent)
widen-lowest j count b p lent = by_order _ refl refl refl

pub run-lowest : (j : Panel) (count : ℕ) (b : Board) (w : World) (bounds : Option BoundingBox) (budget : ℕ) → Lowest (run_checks j count b w bounds budget)
run-lowest j count b w bounds budget = by_order _ refl refl refl

pub weight-lowest : (weights : List ℕ) (rows cols : ℕ) (w : World) (o : Offset) → Lowest (weight_checks weights rows cols w o)
weight-lowest weights rows cols w o = by_order _ refl refl refl

pub recount-lowest : (counts pieces : List ℕ) (rows cols : ℕ) (tiles : List ℕ) (count : ℕ) (w : World) (o : Offset) → Lowest (recount_checks counts pieces rows cols tiles count w o)
recount-lowest counts pieces rows cols tiles count w o = by_order _ refl refl refl

-- ---- floats

pub fraction-lowest : (counts : List ℕ) (rows cols tiles : ℕ) (k : Cell) → Lowest (fraction_checks counts rows cols tiles k)
fraction-lowest counts rows cols tiles k = by_order _ refl refl refl

pub lay-score-lowest : (scores : List Float) (counts : List ℕ) (rows cols tiles : ℕ) (w : World) (o : Offset) → Lowest (lay_score_checks scores counts rows cols tiles w o)
lay-score-lowest scores counts rows cols tiles w o = by_order _ refl refl refl

-- the lift score, and the plain score of two spans
pub lift-score-lowest : (scores : List Float) (counts : List ℕ) (rows cols tiles : ℕ) (rowspan colspan : Span) → Lowest (lift_score_checks scores counts rows cols tiles rowspan colspan)
lift-score-lowest scores counts rows cols tiles rowspan colspan = by_order _ refl refl refl

pub whole-score-lowest : (scores : List Float) (counts : List ℕ) (rows cols tiles : ℕ) → Lowest (whole_score_checks scores counts rows cols tiles)
whole-score-lowest scores counts rows cols tiles = by_order _ refl refl refl

pub normalise-lowest : (ps : List Float) (rows cols count : ℕ) (w : World) (o : Offset) (out : List Float) → Lowest (normalise_checks ps rows cols count w o out)
normalise-lowest ps rows cols count w o out = by_order _ refl refl refl

pub influence-lowest : (ps : List Float) (rows cols count : ℕ) (b : Block) (w : World) (o : Offset) (radius : ℕ) → Lowest (influence_checks ps rows cols count b w o radius)
influence-lowest ps rows cols count b w o radius = by_order _ refl refl refl
