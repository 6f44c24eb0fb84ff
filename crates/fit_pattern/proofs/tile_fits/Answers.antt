-- `fit_pattern::tile_fits` meets its contract: eight cells read as one number, and the ninth, compare as the fit test does. Assumes nothing.
use Prim.Native.Nat.{ℕ, ◌*◌, ◌<◌}
use mathlib.Core.Path.{◌≡◌, sym, ◌∙◌, ap₂}
use mathlib.Core.List.{List}
use native.Mathlib.Omega.{arith}
use lib.Bits.{bit_and}
use lib.ListN.{get_or}
use Rattle.fit_pattern.specs.Patch.{shown_in}
use Rattle.fit_pattern.specs.Packed.{cells_from, packed, mask_of}
use Rattle.fit_pattern.proofs.Packed.{left_there, ninth-decides}
use Rattle.fit_pattern.proofs.Patch.{tile-is, shown-each, last-is}
use Rattle.fit_pattern.proofs.tile_fits.Goals.{After-eight_masks}
use Rattle.fit_pattern.proofs.tile_fits.Goals as goal

-- what both ways know: the window's cells and the tile's are bytes, and what was read of the tile and of the masks
module _ (m : After-eight_masks) where
  abbrev tiles : List ℕ
  tiles = m.args.tiles.now

  abbrev shown : ℕ → ℕ
  shown = let a = m.args in shown_in a.cells.now a.width a.at

  colours : (i : ℕ) → shown i < 256
  colours =
      let a = m.args in
      shown-each a.cells.now a.width a.at (λ x. x < 256) (λ i. omega (arith, m.type_inv.cells i))

  bytes : (i : ℕ) → get_or tiles i 0 < 256
  bytes i = omega (arith, m.type_inv.tiles i)

  read : bit_and m.eight.result m.eight_masks.result
      ≡ bit_and (packed 8 (cells_from tiles (m.args.n * 9))) (packed 8 (λ i. mask_of (shown i)))
  read = ap₂ bit_and (m.eight.ensures ∙ tile-is 8 _ _) m.eight_masks.ensures

pub returns-then-eight-eight_masks : goal.returns-then-eight-eight_masks
returns-then-eight-eight_masks c =
    let m = (goal.at.returns-then-eight-eight_masks c).After-eight_masks in
    left_there (tiles m) (shown m) _ (colours m) (bytes m) (λ h. c.if-eight-eight_masks.true (read m ∙ h ∙ sym m.eight-first.ensures))

pub returns : goal.returns
returns c =
    let m = (goal.at.returns c).After-eight_masks in
    let a = m.args in
    rw (c.mask_for.ensures, last-is a.cells.now a.width a.at) (ninth-decides (tiles m) (shown m) a.n (colours m) (bytes m)
    (sym (read m) ∙ c.if-eight-eight_masks.false ∙ m.eight-first.ensures))
