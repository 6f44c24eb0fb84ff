-- `tile_seen::bucket_of` meets its contract: the loop takes cell after cell. Assumes nothing.
use Prim.Native.Nat.{ℕ, ◌+◌, ◌*◌, ◌%◌}
use mathlib.Core.Path.{◌∙◌, ap}
use native.Mathlib.Omega.{arith}
use native.Mathlib.Nat.{mod-lt}
use lib.Dec.{lit<}
use lib.ListN.{get_or}
use Rattle.tile_seen.specs.Chains.{buckets, spread, bucket_to}
use Rattle.tile_seen.proofs.Buckets.{bucket-none, bucket-more, bucket-done}
use Rattle.tile_seen.proofs.bucket_of.Goals as goal

pub loop-cell-init : goal.loop-cell-init
loop-cell-init c = (omega arith, bucket-none _)

pub loop-cell-preserved : goal.loop-cell-preserved
loop-cell-preserved c =
    let l = c.loop-cell in
    let cell : ℕ → ℕ = λ i. get_or c.args.tile.now i 0 in (
      mod-lt _ (lit< tt),
      ap (λ (x : ℕ). (x * spread + c.from.result) % buckets) l.invariant.1
          ∙ ap (λ (x : ℕ). (bucket_to cell l.cell-index * spread + x) % buckets) c.from.ensures
          ∙ bucket-more cell l.cell-index,
    )

pub returns : goal.returns
returns c = (c.loop-cell.invariant.1 ∙ bucket-done _ _ (omega arith), c.loop-cell.invariant.0)
