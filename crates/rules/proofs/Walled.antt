-- Coordinates and indices: index less offset is the coordinate, and a wall coordinate, which is why an offset is at least -999,937 on a
-- board of at most 64 cells a side; so a place on the board is on the wall.
-- Assumes nothing.
use Prim.Native.Nat.{ℕ, zero, suc, ◌+◌, ◌-◌, ◌<◌, ◌≤◌}
use mathlib.Core.Path.{◌≡◌, refl, sym, ◌∙◌, ap, subst}
use mathlib.Core.Bool.{Bool, true, false, cond, ◌&&◌}
use native.Mathlib.Omega.{arith}
use lib.Dec.{leb, ltb}
use lib.IntN.{ℤ, pos, negsuc, ◌+ℤ◌, ◌-ℤ◌, +ℤ-neg_ℤ_cancel}
use lib.Signed.{le_z}
use borrow.Author.Tests.{leb-true, le-leb}
use Rattle.base.specs.Whole.{clip, within_z, index_below}
use Rattle.base.proofs.Bools.{and_left, and_right, and_both}
use Rattle.base.proofs.Signs.{index-clip, index-pos}
use Rattle.rules.specs.Bounds.{max_board_side, min_coordinate, max_coordinate, min_offset, max_offset}
use Rattle.rules.specs.Tests.{on_wall, offset_fits, on_board}
use Rattle.rules.specs.declared.World.{World}
use Rattle.rules.specs.declared.Offset.{Offset}

-- an index, less its offset, is the coordinate
pub back : (n : ℕ) (x o : ℤ) → index_below n (x +ℤ o) ≡ true → pos (clip (x +ℤ o)) -ℤ o ≡ x
back n x o e = ap (λ (z : ℤ). z -ℤ o) (sym (index-pos n (x +ℤ o) e)) ∙ +ℤ-neg_ℤ_cancel x o

-- and it is a wall coordinate
pub less-offset : (n : ℕ) (o : ℤ) → n < max_board_side → within_z min_offset max_offset o ≡ true → within_z min_coordinate max_coordinate (pos n -ℤ o) ≡ true
unfolding within_z
less-offset n (pos zero) h e = le-leb (n + 0) 1000000 (omega arith)
less-offset n (pos (suc m)) h e = side (ltb n (suc m)) refl
  where
    small : suc m ≤ 1000000
    small = leb-true (suc m) 1000000 e

    side : (t : Bool) → ltb n (suc m) ≡ t → (le_z min_coordinate (cond t (negsuc (suc m - suc n)) (pos (n - suc m))) && le_z (cond t (negsuc (suc m - suc n)) (pos (n - suc m))) max_coordinate) ≡ true
    side true f = and_both (leb (suc m - suc n) 999999) true (le-leb (suc m - suc n) 999999 (omega (arith, small))) refl
    side false f = le-leb (n - suc m) 1000000 (omega arith)
less-offset n (negsuc m) h e =
    let small : m ≤ 999936 = leb-true m 999936 (and_left (leb m 999936) true e) in
    le-leb (n + suc m) 1000000 (omega arith)

-- a coordinate whose index lies below a side
on-wall : (n : ℕ) (x o : ℤ) → n ≤ max_board_side → within_z min_offset max_offset o ≡ true → index_below n (x +ℤ o) ≡ true
    → within_z min_coordinate max_coordinate x ≡ true
on-wall n x o low fits e =
    subst (λ (z : ℤ). within_z min_coordinate max_coordinate z ≡ true) (back n x o e)
    (less-offset (clip (x +ℤ o)) o (omega (arith, index-clip n (x +ℤ o) e)) fits)

pub board-on-wall : (rows cols : ℕ) (v : World) (o : Offset) → rows ≤ max_board_side → cols ≤ max_board_side → offset_fits o ≡ true
    → on_board rows cols v o ≡ true → on_wall v ≡ true
unfolding on_wall offset_fits on_board
board-on-wall rows cols v o tall wide fits on =
    let f = within_z min_offset max_offset in
    let r = index_below rows (v.0 +ℤ o.0) in
    let c = index_below cols (v.1 +ℤ o.1) in
    and_both _ _
    (on-wall rows v.0 o.0 tall (and_left (f o.0) (f o.1) fits) (and_left r c on))
    (on-wall cols v.1 o.1 wide (and_right (f o.0) (f o.1) fits) (and_right r c on))
