-- Two results that meet the contract of a function for tests coincide: the number, and what the lent memory holds. One theorem a function.
-- Assumes nothing.
use Prim.Native.Nat.{ℕ}
use mathlib.Core.Path.{◌≡◌}
use mathlib.Core.Bool.{Bool}
use mathlib.Core.List.{List}
use lib.IntN.{ℤ}
use lib.Ieee.{Float}
use denote.MutBor.{MutBor}
use Rattle.base.proofs.Chain.{coincide, gives-coincide}
use Rattle.rules.specs.Places.{box_contains, extension_of, boxed_extension}
use Rattle.rules.specs.Sets.{members_listed}
use Rattle.rules.specs.Tiles.{rotated, reflected, membership}
use Rattle.rules.specs.Promises.{CopiesWords, CopiesFloats}
use Rattle.boundary_slots.specs.Slots.{world, offset_by, pads_by, set_from}
use Rattle.boundary.specs.Boundary.{Numbered, set_stored, truth_stored, Tells}
use Rattle.harness_tiles.specs.Lent.{box_of, nine_of, put_from, TellsExtension, TellsMembers, PortExtracts, extended, bytes_with}
use Rattle.boundary.proofs.Back.{lent, Decides, gives-decides, numbered-decides}
use Rattle.rules.specs.Answers.{Answer}
use Rattle.rules.specs.declared.ExtensionInfo.{ExtensionInfo}

pub port-contains-coincide : (minrow mincol maxrow maxcol row col : ℤ) (out : List ℕ)
    → Decides (Tells truth_stored (box_contains (box_of minrow mincol maxrow maxcol) (world row col)) out)
port-contains-coincide minrow mincol maxrow maxcol row col out = gives-decides _ _

pub port-extend-u32-coincide : (plane : List ℕ) (rows cols left right top bottom : ℕ) (target : List ℕ)
    → Decides (Numbered (CopiesWords rows cols (pads_by left right top bottom) plane target))
port-extend-u32-coincide plane rows cols left right top bottom target = numbered-decides _ (gives-decides _ _)

pub port-extend-f64-coincide : (plane : List Float) (rows cols left right top bottom : ℕ) (target : List Float)
    → Decides (Numbered (CopiesFloats rows cols (pads_by left right top bottom) plane target))
port-extend-f64-coincide plane rows cols left right top bottom target = numbered-decides _ (gives-decides _ _)

pub port-rotate-90-coincide : (tile out : List ℕ) {l m : List ℕ} → l ≡ put_from 0 (rotated (nine_of tile)) out → m ≡ put_from 0 (rotated (nine_of tile)) out → l ≡ m
port-rotate-90-coincide tile out = coincide

pub port-reflect-coincide : (tile out : List ℕ) {l m : List ℕ} → l ≡ put_from 0 (reflected (nine_of tile)) out → m ≡ put_from 0 (reflected (nine_of tile)) out → l ≡ m
port-reflect-coincide tile out = coincide

pub port-membership-coincide : (tile : List ℕ) (count : ℕ) (out : List ℕ) → Decides (Tells set_stored (membership (nine_of tile) count) out)
port-membership-coincide tile count out = gives-decides _ _

-- two results that tell this extension coincide: the slices before the call, and as each of the two calls leaves them
abbrev Extends : Answer ExtensionInfo → Type 0
Extends answer =
    (pads pads₁ pads₂ : MutBor (List ℕ)) (offset offset₁ offset₂ : MutBor (List ℤ)) (needed needed₁ needed₂ : MutBor (List ℕ)) (r s : ℕ)
    → TellsExtension answer (lent pads pads₁) (lent offset offset₁) (lent needed needed₁) r
    → TellsExtension answer (lent pads pads₂) (lent offset offset₂) (lent needed needed₂) s
    → (r ≡ s) × (extended pads₁.now offset₁.now needed₁.now ≡ extended pads₂.now offset₂.now needed₂.now)

extends : (answer : Answer ExtensionInfo) → Extends answer
extends answer pads pads₁ pads₂ offset offset₁ offset₂ needed needed₁ needed₂ r s p q = gives-coincide p q

pub port-calculate-extension-coincide : (rows cols : ℕ) (down across row col : ℤ) (radius : ℕ)
    → Extends (extension_of rows cols (offset_by down across) (world row col) radius)
port-calculate-extension-coincide rows cols down across row col radius =
    extends (extension_of rows cols (offset_by down across) (world row col) radius)

pub port-constrain-extension-coincide : (rows cols : ℕ) (down across row col : ℤ) (radius : ℕ) (minrow mincol maxrow maxcol : ℤ)
    → Extends (boxed_extension rows cols (offset_by down across) (world row col) radius (box_of minrow mincol maxrow maxcol))
port-constrain-extension-coincide rows cols down across row col radius minrow mincol maxrow maxcol =
    extends (boxed_extension rows cols (offset_by down across) (world row col) radius (box_of minrow mincol maxrow maxcol))

pub port-set-to-vec-coincide : (bits size : ℕ) (colours colours₁ colours₂ len len₁ len₂ : MutBor (List ℕ)) {r s : ℕ}
    → TellsMembers (members_listed (set_from bits size)) (lent colours colours₁) (lent len len₁) r
    → TellsMembers (members_listed (set_from bits size)) (lent colours colours₂) (lent len len₂) s
    → (r ≡ s) × (bytes_with colours₁.now len₁.now ≡ bytes_with colours₂.now len₂.now)
port-set-to-vec-coincide bits size colours colours₁ colours₂ len len₁ len₂ = gives-coincide

pub port-extract-tiles-coincide : (sample : List ℕ) (rows cols count : ℕ) (rotations reflections : Bool) (store store₁ store₂ out out₁ out₂ : MutBor (List ℕ)) {r s : ℕ}
    → PortExtracts sample rows cols count rotations reflections (lent store store₁) (lent out out₁) r
    → PortExtracts sample rows cols count rotations reflections (lent store store₂) (lent out out₂) s
    → (r ≡ s) × (bytes_with store₁.now out₁.now ≡ bytes_with store₂.now out₂.now)
port-extract-tiles-coincide sample rows cols count rotations reflections store store₁ store₂ out out₁ out₂ = gives-coincide
