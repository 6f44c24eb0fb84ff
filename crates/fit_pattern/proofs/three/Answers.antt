-- `fit_pattern::three` meets its contract: two cells and the third joined. Assumes nothing.
use Prim.Native.Nat.{ℕ, ◌+◌, ◌^◌, ◌<◌}
use native.Mathlib.Omega.{arith}
use lib.ListN.{get_or}
use Rattle.fit_pattern.proofs.Packed.{packed_lt, one-is, joined}
use Rattle.fit_pattern.proofs.three.Goals.{After-pair-low}
use Rattle.fit_pattern.proofs.three.Goals as goal

-- both parts are small
parts : (c : After-pair-low) → (get_or c.args.cells.now (c.args.at + 2) 0 < 256) × (c.pair-low.result < 2 ^ 16)
parts c =
    let byte : (i : ℕ) → get_or c.args.cells.now i 0 < 256 = λ i. omega (arith, c.type_inv.cells i) in
    (byte (c.args.at + 2), rw c.pair-low.ensures (packed_lt 2 _ (λ i l. byte (c.args.at + i))))

pub overflow_cast-high : goal.overflow_cast-high
overflow_cast-high c = let h = parts (goal.at.overflow_cast-high c).After-pair-low in record { fits = omega arith }

pub overflow_mul-result : goal.overflow_mul-result
overflow_mul-result c = let h = parts (goal.at.overflow_mul-result c).After-pair-low in record { fits = omega arith }

pub overflow_add-result : goal.overflow_add-result
overflow_add-result c = let h = parts (goal.at.overflow_add-result c).After-pair-low in record { fits = omega arith }

pub returns : goal.returns
returns c = joined 2 1 c.args.cells.now c.args.at (one-is c.args.cells.now (c.args.at + 2)) c.pair-low.ensures
