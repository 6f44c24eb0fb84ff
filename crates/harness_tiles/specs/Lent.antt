-- What crosses beside what crates boundary_slots and boundary have: a box from its numbers, a tile from a slice, and what an
-- extension, a list of colours and a store of tiles leave in the slices lent for them. The promises of functions that tell such an answer take these
-- slices as they are lent, for what they hold before and after.
use Rattle.std.specs.Prelude.{ℕ, ◌+◌, Bool, List, [], ◌∷◌, get_or, ℤ}
use Rattle.base.specs.Tables.{tab}
use Rattle.base.specs.Refusal.{Gives}
use Rattle.rules.specs.Promises.{Lent, before, after}
use Rattle.rules.specs.Tiles.{extraction, store_after}
use Rattle.rules.specs.declared.BoundingBox.{BoundingBox}
use Rattle.rules.specs.declared.Pads.{Pads}
use Rattle.rules.specs.declared.ColourList.{ColourList}
use Rattle.boundary_slots.specs.Slots.{world, put, offset_stored, digit_of}
use Rattle.boundary.specs.Boundary.{value_stored, told_left, Tells}
use Rattle.rules.specs.Answers.{Answer, number_of}
use Rattle.rules.specs.declared.ExtensionInfo.{ExtensionInfo}

-- ---- what goes in

-- the corner of the least row and column, then the other
abbrev pub box_of : ℤ → ℤ → ℤ → ℤ → BoundingBox
box_of minrow mincol maxrow maxcol = record { min = world minrow mincol; max = world maxrow maxcol }

-- the first nine bytes; one that the slice lacks counts as 0
unfoldable pub nine_of : List ℕ → List ℕ
nine_of bytes = tab 9 (λ k. get_or bytes k 0)

-- ---- what comes back

-- values stored one after another, the first of them at entry i
unfoldable pub put_from : {A : Type 0} → ℕ → List A → List A → List A
put_from i [] out = out
put_from i (x ∷ xs) out = put_from (i + 1) xs (put out i x)

-- left, right, top, bottom
abbrev pub pads_stored : Pads → List ℕ → List ℕ
pads_stored p out = put (put (put (put out 0 p.left) 1 p.right) 2 p.top) 3 p.bottom

-- the slices lent for an extension
pub record Extended : Type 0 where
  pub pads : List ℕ
  pub offset : List ℤ
  pub needed : List ℕ

abbrev pub extended : List ℕ → List ℤ → List ℕ → Extended
extended pads offset needed = record { pads = pads; offset = offset; needed = needed }

-- the pads, the new offset, and 1 where the grid has to grow, else 0
abbrev pub extension_stored : ExtensionInfo → Extended → Extended
extension_stored e out = extended (pads_stored e.pads out.pads) (offset_stored e.offset out.offset) (put out.needed 0 (digit_of e.needed))

abbrev pub TellsExtension : Answer ExtensionInfo → Lent (List ℕ) → Lent (List ℤ) → Lent (List ℕ) → ℕ → Type 0
TellsExtension answer pads offset needed r =
    Tells extension_stored answer (extended (before pads) (before offset) (before needed)) r (extended (after pads) (after offset) (after needed))

-- the slices lent for bytes and for their number
pub record Bytes : Type 0 where
  pub bytes : List ℕ
  pub number : List ℕ

abbrev pub bytes_with : List ℕ → List ℕ → Bytes
bytes_with bytes number = record { bytes = bytes; number = number }

-- the entries of a list, those past its colours too, and its length
abbrev pub list_stored : ColourList → Bytes → Bytes
list_stored l out = bytes_with (put_from 0 l.colours out.bytes) (put out.number 0 l.len)

abbrev pub TellsMembers : Answer ColourList → Lent (List ℕ) → Lent (List ℕ) → ℕ → Type 0
TellsMembers answer colours len r = Tells list_stored answer (bytes_with (before colours) (before len)) r (bytes_with (after colours) (after len))

-- an extraction: the store as it is left, and the number of tiles
abbrev pub PortExtracts : List ℕ → ℕ → ℕ → ℕ → Bool → Bool → Lent (List ℕ) → Lent (List ℕ) → ℕ → Type 0
PortExtracts sample rows cols count rotations reflections store out r =
    let answer = extraction sample rows cols count rotations reflections (before store) in
    Gives (number_of answer)
    (bytes_with (store_after sample rows cols count rotations reflections (before store)) (told_left value_stored answer (before out)))
    r (bytes_with (after store) (after out))
