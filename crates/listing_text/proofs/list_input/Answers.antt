-- `listing_text::list_input` meets its contract: numbers that were read are listed, anything else is bad input, and the store is never full.
-- Assumes nothing.
use mathlib.Core.Path.{sym}
use native.Mathlib.Omega.{arith}
use Prim.Native.Nat.{ℕ}
use lib.ListN.{length-replicate}
use lib.Seq.{length-take-le}
use Rattle.listing_lines.proofs.Written.{writes_as}
use Rattle.listing_text.proofs.Telling.{input-fits, input-small-there, input-told, input-not}
use Rattle.listing_text.proofs.list_input.Goals as goal

pub slice_bounds-store-end : goal.slice_bounds-store-end
slice_bounds-store-end c = omega (arith, c.read_input.auto.store, length-replicate {A = ℕ} 8192 0, input-fits _ _ _ _ (length-replicate {A = ℕ} 8192 0) c.read_input.ensures _ c.in-Ok.is)

pub slice_bounds-list_numbers-end : goal.slice_bounds-list_numbers-end
slice_bounds-list_numbers-end c = sym (length-take-le _ _ (omega (arith, c.read_input.auto.store, length-replicate {A = ℕ} 8192 0, input-fits _ _ _ _ (length-replicate {A = ℕ} 8192 0) c.read_input.ensures _ c.in-Ok.is)))

pub list_numbers-requires : goal.list_numbers-requires
list_numbers-requires c = input-small-there _ _ _ _ (length-replicate {A = ℕ} 8192 0) c.read_input.ensures _ c.in-Ok.is

pub returns-in-Ok : goal.returns-in-Ok
returns-in-Ok c = writes_as (input-told _ _ _ _ (length-replicate {A = ℕ} 8192 0) c.read_input.ensures _ c.in-Ok.is) c.list_numbers.ensures

pub returns-in-Err : goal.returns-in-Err
returns-in-Err c = writes_as (input-not _ _ _ _ (length-replicate {A = ℕ} 8192 0) c.read_input.ensures _ c.in-Err.is) c.put_bad_input.ensures
