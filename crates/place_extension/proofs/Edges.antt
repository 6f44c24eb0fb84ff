-- The edges of a side in 64 bits, and bounds of the pads: a pad of an accepted call is small, and a box only takes from it.
-- Assumes nothing.
use Prim.Native.Nat.{ℕ, ◌+◌, ◌^◌, ◌<◌, ◌≤◌}
use mathlib.Core.Path.{◌≡◌, ◌∙◌, ap}
use native.Mathlib.Omega.{arith}
use lib.IntN.{ℤ, pos, ◌+ℤ◌, ◌-ℤ◌}
use lib.Signed.{mag}
use mir.Syntax.{w32, w64}
use mir.Val.{SFits, to_z, of_z}
use Rattle.base.specs.Whole.{clip}
use Rattle.base.proofs.Signs.{add-in, clip-low, Reads, given, counted, sub_in}
use Rattle.rules.specs.Bounds.{max_board_side, max_radius}
use Rattle.rules.specs.Places.{first_of, last_of, pad_before, pad_after, boxed_before, boxed_after, pads_of, boxed_pads}
use Rattle.rules.specs.declared.World.{World}
use Rattle.rules.specs.declared.Offset.{Offset}
use Rattle.rules.specs.declared.BoundingBox.{BoundingBox}
use Rattle.rules.specs.declared.Pads.{Pads}
use Rattle.check_sizes.proofs.Sides.{board-rows, board-cols}
use Rattle.places.proofs.Wide.{same}
use Rattle.places.proofs.Indices.{wall-low, offset-low}
use Rattle.place_extension.specs.Given.{Reached, PadsIn, max_pad}

pub zero_is : Reads w64 0 (pos 0) 1
zero_is = counted w64 (omega arith) tt

pub side-is : {side : ℕ} → side ≤ max_board_side → Reads w64 side (pos side) 65
side-is h = counted w64 (omega arith) tt

pub pad-is : {pad : ℕ} → pad ≤ max_pad → Reads w64 pad (pos pad) 3000001
pad-is h = counted w64 (omega arith) tt

-- the coordinates of the first and of the last cell of a side, as a call answered them of an offset that was handed on
first-low : (o : ℤ) → mag o < 2 ^ 31 → mag (first_of o) < 2 ^ 31 + 2
unfolding first_of
first-low o h = sub_in {A = 1} {B = 2 ^ 31} (pos 0) o (omega arith) h

last-low : (side : ℕ) (o : ℤ) → side ≤ max_board_side → mag o < 2 ^ 31 → mag (last_of side o) < 2 ^ 31 + 70
unfolding last_of
last-low side o k h =
    sub_in {A = 2 ^ 31 + 67} {B = 2} (first_of o +ℤ pos side) (pos 1)
    (add-in {A = 2 ^ 31 + 2} {B = 65} (first_of o) (pos side) (first-low o h) (omega arith))
    (omega arith)

pub first-is : {o r : ℤ} → SFits w32 o → r ≡ first_of (to_z w32 (of_z w32 o)) → Reads w64 (of_z w64 r) (first_of o) (2 ^ 31 + 2)
first-is {o} f e = rw (e ∙ ap first_of (same {z = o} f.sfits)) (given w64 (first-low o f.sfits) tt)

pub last-is : {side : ℕ} {o r : ℤ} → SFits w32 o → side ≤ max_board_side → r ≡ last_of side (to_z w32 (of_z w32 o))
    → Reads w64 (of_z w64 r) (last_of side o) (2 ^ 31 + 70)
last-is {side} {o} f h e = rw (e ∙ ap (last_of side) (same {z = o} f.sfits)) (given w64 (last-low side o h f.sfits) tt)

-- the pads of one side
module _ (o x : ℤ) (k : ℕ) (p : mag o < 1000001) (q : mag x < 1000001) (h : k ≤ max_radius) where
  edge-low : mag (first_of o) < 1000003
  unfolding first_of
  edge-low = sub_in {A = 1} {B = 1000001} (pos 0) o (omega arith) p

  pub before-low : pad_before o x k ≤ max_pad
  unfolding pad_before
  before-low =
      let near : mag (x -ℤ pos k) < 1000066 = sub_in {A = 1000001} {B = 64} x (pos k) q (omega arith) in
      let low : clip (first_of o -ℤ (x -ℤ pos k)) < 2000070
      = clip-low (first_of o -ℤ (x -ℤ pos k)) (sub_in {A = 1000003} {B = 1000066} (first_of o) (x -ℤ pos k) edge-low near)
      in
      omega arith

  pub after-low : (side : ℕ) → side ≤ max_board_side → pad_after side o x k ≤ max_pad
  unfolding pad_after last_of
  after-low side g =
      let near : mag (x +ℤ pos k) < 1000065 = add-in {A = 1000001} {B = 64} x (pos k) q (omega arith) in
      let past : mag (first_of o +ℤ pos side) < 1000068 = add-in {A = 1000003} {B = 65} (first_of o) (pos side) edge-low (omega arith) in
      let last : mag ((first_of o +ℤ pos side) -ℤ pos 1) < 1000071
      = sub_in {A = 1000068} {B = 2} (first_of o +ℤ pos side) (pos 1) past (omega arith)
      in
      let low : clip ((x +ℤ pos k) -ℤ ((first_of o +ℤ pos side) -ℤ pos 1)) < 2000137
      = clip-low ((x +ℤ pos k) -ℤ ((first_of o +ℤ pos side) -ℤ pos 1)) (sub_in {A = 1000065} {B = 1000071} (x +ℤ pos k) ((first_of o +ℤ pos side) -ℤ pos 1) near last)
      in
      omega arith

-- those of both sides, without and with a box
pub pads-low : (rows cols : ℕ) (o : Offset) (w : World) (k : ℕ) {p : Pads} → p ≡ pads_of rows cols o w k → Reached rows cols o w k → PadsIn p
unfolding pads_of
pads-low rows cols o w k e h =
    let p = offset-low o h.fitting in
    let q = wall-low w h.walled in
    rw e
    (record {
      left_in = before-low o.0 w.0 k p.0 q.0 h.near;
      right-in = after-low o.0 w.0 k p.0 q.0 h.near rows (board-rows rows cols h.sides).1;
      top_in = before-low o.1 w.1 k p.1 q.1 h.near;
      bottom-in = after-low o.1 w.1 k p.1 q.1 h.near cols (board-cols rows cols h.sides).1;
    })

pub boxed-low : (b : BoundingBox) (rows cols : ℕ) (o : Offset) (p : Pads) {q : Pads} → q ≡ boxed_pads b rows cols o p → PadsIn p → PadsIn q
unfolding boxed_pads boxed_before boxed_after
boxed-low b rows cols o p e h = rw e (record { left_in = omega arith; right-in = omega arith; top_in = omega arith; bottom-in = omega arith })

pub four : {a b d e x y z u : ℕ} → a ≡ x → b ≡ y → d ≡ z → e ≡ u
    → ◌≡◌ {A = Pads} (record { left = a; right = b; top = d; bottom = e }) (record { left = x; right = y; top = z; bottom = u })
four p q r s = rw (p, q, r, s)
