-- `place_extension::pads::offset_after` meets its contract: a pad fits 32 bits, and so does its sum with the offset.
-- Assumes nothing.
use native.Mathlib.Omega.{arith}
use Prim.Native.Nat.{ℕ, ◌≤◌}
use mathlib.Core.Bool.{true}
use mathlib.Core.Path.{◌≡◌}
use lib.IntN.{ℤ, pos}
use mir.Syntax.{w32}
use mir.Val.{of_z}
use Rattle.base.proofs.Signs.{Reads, given, counted, add-fits, added}
use Rattle.rules.specs.Tests.{offset_fits}
use Rattle.rules.specs.Places.{extension_by}
use Rattle.place_extension.specs.Given.{max_pad}
use Rattle.rules.specs.declared.Offset.{Offset}
use Rattle.places.proofs.Indices.{offset-low}
use Rattle.place_extension.proofs.pads.offset_after.Goals as goal

-- the numbers that are added, as the bits stand for them
row_is : (o : Offset) → offset_fits o ≡ true → Reads w32 (of_z w32 o.0) o.0 1000001
row_is o h = given w32 (offset-low o h).0 tt

col-is : (o : Offset) → offset_fits o ≡ true → Reads w32 (of_z w32 o.1) o.1 1000001
col-is o h = given w32 (offset-low o h).1 tt

pad-is : (n : ℕ) → n ≤ max_pad → Reads w32 n (pos n) 3000001
pad-is n h = counted w32 (omega arith) tt

pub overflow_add-result : goal.overflow_add-result
overflow_add-result c = add-fits (row_is c.args.offset c.requires.0) (pad-is c.args.pads.left c.requires.1) tt

pub overflow_add-result-2 : goal.overflow_add-result-2
overflow_add-result-2 c = add-fits (col-is c.args.offset c.requires.0) (pad-is c.args.pads.top c.requires.2) tt

moved : {x y z u : ℤ} → x ≡ z → y ≡ u → ◌≡◌ {A = Offset} (record { 0 = x; 1 = y }) (record { 0 = z; 1 = u })
moved e f = rw (e, f)

pub returns : goal.returns
unfolding extension_by
returns c =
    moved
    (added (row_is c.args.offset c.requires.0) (pad-is c.args.pads.left c.requires.1) tt).is
    (added (col-is c.args.offset c.requires.0) (pad-is c.args.pads.top c.requires.2) tt).is
