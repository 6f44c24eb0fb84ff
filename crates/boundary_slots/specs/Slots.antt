-- What crosses to another language in both directions: places, pads and sets from their numbers, a value in an entry of a lent slice, an
-- offset in two, a truth as a number.
use Rattle.std.specs.Prelude.{ℕ, Bool, true, false, List, set, Option, ℤ}
use Rattle.rules.specs.Answers.{if_there}
use Rattle.rules.specs.declared.World.{World}
use Rattle.rules.specs.declared.Offset.{Offset}
use Rattle.rules.specs.declared.Span.{Span}
use Rattle.rules.specs.declared.Pads.{Pads}
use Rattle.rules.specs.declared.TileBitset.{TileBitset}
use Rattle.rules.specs.declared.BoundingBox.{BoundingBox}

-- ---- what goes in

abbrev pub world : ℤ → ℤ → World
world row col = record { 0 = row; 1 = col }

abbrev pub offset_by : ℤ → ℤ → Offset
offset_by row col = record { 0 = row; 1 = col }

-- the box of two corners, or none
unfoldable pub bounds_from : Bool → World → World → Option BoundingBox
bounds_from within least most = if_there within (record { min = least; max = most })

abbrev pub span_from : ℕ → ℕ → Span
span_from start end = record { 0 = start; 1 = end }

-- left and right are added to the rows, top and bottom to the columns
abbrev pub pads_by : ℕ → ℕ → ℕ → ℕ → Pads
pads_by left right top bottom = record { left = left; right = right; top = top; bottom = bottom }

abbrev pub set_from : ℕ → ℕ → TileBitset
set_from bits size = record { bits = bits; size = size }

-- ---- what comes back

-- a value stored at an entry; nothing where there is no such entry
unfoldable pub put : {A : Type 0} → List A → ℕ → A → List A
put l i v = set l i v

-- an offset: that of the rows, then that of the columns
abbrev pub offset_stored : Offset → List ℤ → List ℤ
offset_stored offset out = put (put out 0 offset.0) 1 offset.1

-- a truth: 0 or 1
abbrev pub digit_of : Bool → ℕ
digit_of true = 1
digit_of false = 0
