-- `queue_ring::lent::is_queued` meets its contract. The loop's invariant: whether the place is among the entries from i on decides whether it is
-- queued.
-- Assumes nothing.
use Prim.Native.Nat.{ℕ, ◌^◌, ◌<◌}
use mathlib.Core.Path.{◌≡◌, refl, sym, ◌∙◌, ap}
use mathlib.Core.Bool.{Bool}
use native.Mathlib.Omega.{arith}
use borrow.Author.Rules.{rules}
use lib.IntN.{ℤ, pos}
use lib.ListN.{get_or}
use lib.Signed.{mag}
use mir.Syntax.{w32}
use mir.Val.{to_z, of_z}
use Rattle.rules.specs.Places.{same_place}
use Rattle.rules.specs.Forced.{no_position}
use Rattle.rules.specs.declared.World.{World}
use Rattle.rules.specs.declared.ForcedPosition.{ForcedPosition}
use Rattle.queue_entries.proofs.Places.{search-found, search-on, search-end}
use Rattle.queue_ring.specs.Slots.{Slots, slots, in_slot, slot_of, waiting}
use Rattle.queue_ring.proofs.Slots.{length-waiting, waiting-at, place_read}
use Rattle.queue_ring.proofs.lent.is_queued.Goals as goal

pub loop-i-init : goal.loop-i-init
loop-i-init c = λ colours. refl

-- what the search knows of entry i: whether it stands at the place
asked : (s : Slots) (first len i at : ℕ) (row col : ℤ) (place : World) {here : Bool} → i < len → at ≡ slot_of first i → mag row < 2 ^ 31 → mag col < 2 ^ 31
    → row ≡ get_or s.rows at (pos 0) → col ≡ get_or s.cols at (pos 0)
    → here ≡ same_place (record { 0 = to_z w32 (of_z w32 row); 1 = to_z w32 (of_z w32 col) }) place
    → here ≡ same_place (get_or (waiting s first len) i no_position).coordinates place
asked s first len i at row col place i< e f g p q h =
    h
    ∙ ap (λ (w : World). same_place w place)
    (place_read s at row col f g p q ∙ ap (λ (n : ℕ). (in_slot s n).coordinates) e ∙ ap (λ (x : ForcedPosition). x.coordinates) (sym (waiting-at s first len i no_position i<)))

pub returns-then-same_place : goal.returns-then-same_place
returns-then-same_place c =
    λ colours.
    let a = c.args in
    let row = c.number_in in
    let col = c.number_in-in-loop-i in
    let s : Slots = slots a.rows.now a.cols.now colours in
    search-found a.place (waiting s a.first a.len) c.loop-i.i (c.loop-i.invariant colours) no_position
    (omega (arith, c.loop-i-test.true, length-waiting s a.first a.len))
    (asked s a.first a.len c.loop-i.i _ row.result col.result a.place c.loop-i-test.true c.slot_of-at.ensures.0 (search rules) (search rules) row.ensures col.ensures c.same_place.ensures)
    c.if-same_place.true

pub loop-i-preserved : goal.loop-i-preserved
loop-i-preserved c =
    λ colours.
    let a = c.args in
    let row = c.number_in in
    let col = c.number_in-in-loop-i in
    let s : Slots = slots a.rows.now a.cols.now colours in
    search-on a.place (waiting s a.first a.len) c.loop-i.i (c.loop-i.invariant colours) no_position
    (omega (arith, c.loop-i-test.true, length-waiting s a.first a.len))
    (asked s a.first a.len c.loop-i.i _ row.result col.result a.place c.loop-i-test.true c.slot_of-at.ensures.0 (search rules) (search rules) row.ensures col.ensures c.same_place.ensures)
    c.if-same_place.false

pub returns : goal.returns
returns c =
    λ colours.
    let a = c.args in
    let s : Slots = slots a.rows.now a.cols.now colours in
    search-end a.place (waiting s a.first a.len) c.loop-i.i (c.loop-i.invariant colours) (omega (arith, c.loop-i-test.false, length-waiting s a.first a.len))
