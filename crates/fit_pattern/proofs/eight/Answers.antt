-- `fit_pattern::eight` meets its contract: the cells of its three rows joined. Assumes nothing.
use Prim.Native.Nat.{ℕ, ◌+◌, ◌^◌, ◌<◌}
use native.Mathlib.Omega.{arith}
use lib.ListN.{get_or}
use Rattle.fit_pattern.proofs.Packed.{packed_lt}
use Rattle.fit_pattern.proofs.Patch.{eight_is}
use Rattle.fit_pattern.proofs.eight.Goals.{After-pair-bottom}
use Rattle.fit_pattern.proofs.eight.Goals as goal

-- the rows are small
rows : (c : After-pair-bottom) → (c.pair-bottom.result < 2 ^ 16) × (c.three-middle.result < 2 ^ 24) × (c.three-top.result < 2 ^ 24)
rows c =
    let a = c.args in
    let byte : (i : ℕ) → get_or a.cells.now i 0 < 256 = λ i. omega (arith, c.type_inv.cells i) in (
      rw c.pair-bottom.ensures (packed_lt 2 _ (λ i l. byte (a.at + a.width + a.width + i))),
      rw c.three-middle.ensures (packed_lt 3 _ (λ i l. byte (a.at + a.width + i))),
      rw c.three-top.ensures (packed_lt 3 _ (λ i l. byte (a.at + i))),
    )

pub overflow_mul-result : goal.overflow_mul-result
overflow_mul-result c = let h = rows c in record { fits = omega arith }

pub overflow_add-result : goal.overflow_add-result
overflow_add-result c = let h = rows c in record { fits = omega arith }

pub overflow_mul-result-2 : goal.overflow_mul-result-2
overflow_mul-result-2 c = let h = rows c in record { fits = omega arith }

pub overflow_add-result-2 : goal.overflow_add-result-2
overflow_add-result-2 c = let h = rows c in record { fits = omega arith }

pub returns : goal.returns
returns c =
    let a = c.args in
    eight_is a.cells.now a.width a.at c.three-top.ensures c.three-middle.ensures c.pair-bottom.ensures
