-- `listing_text::job::list_sample` meets its contract: the tiles extracted are run on, or the extraction's refusal is written. Assumes nothing.
use mathlib.Core.Path.{sym, ◌∙◌, ap}
use native.Mathlib.Omega.{arith}
use Prim.Native.Nat.{ℕ}
use lib.ListN.{length-replicate}
use lib.Seq.{length-take-le}
use Rattle.listing_lines.proofs.Written.{writes_as}
use Rattle.listing_text.proofs.Telling.{cells-there, board-up, walks, tiles-few, tiles-fine, job-done, job-refused}
use Rattle.listing_text.specs.Runs.{clipped}
use Rattle.listing_text.proofs.job.list_sample.Goals as goal

pub copy_cells-requires : goal.copy_cells-requires
copy_cells-requires c = omega (arith, c.requires.1, cells-there c.args.numbers.now c.args.setup c.requires.0)

pub overflow_mul-store : goal.overflow_mul-store
overflow_mul-store c = omega (arith, tiles-few _ _ c.requires.0 _ _ _ _ (c.copy_cells.ensures ∙ ap (clipped _) c.requires.1) (length-replicate {A = ℕ} 14112 0) c.extract_tiles-extracted.ensures _ c.in-Ok.is)

pub slice_bounds-store-end : goal.slice_bounds-store-end
slice_bounds-store-end c = omega (arith, c.extract_tiles-extracted.auto.store, length-replicate {A = ℕ} 14112 0, tiles-few _ _ c.requires.0 _ _ _ _ (c.copy_cells.ensures ∙ ap (clipped _) c.requires.1) (length-replicate {A = ℕ} 14112 0) c.extract_tiles-extracted.ensures _ c.in-Ok.is)

pub slice_bounds-run_on_planes-end : goal.slice_bounds-run_on_planes-end
slice_bounds-run_on_planes-end c = sym (length-take-le _ _ (omega (arith, c.extract_tiles-extracted.auto.store, length-replicate {A = ℕ} 14112 0, tiles-few _ _ c.requires.0 _ _ _ _ (c.copy_cells.ensures ∙ ap (clipped _) c.requires.1) (length-replicate {A = ℕ} 14112 0) c.extract_tiles-extracted.ensures _ c.in-Ok.is)))

pub run_on_planes-requires : goal.run_on_planes-requires
run_on_planes-requires c = (tiles-fine _ _ c.requires.0 _ _ _ _ (c.copy_cells.ensures ∙ ap (clipped _) c.requires.1) (length-replicate {A = ℕ} 14112 0) c.extract_tiles-extracted.ensures _ c.in-Ok.is, board-up _ _ c.requires.0, walks _ _ c.requires.0)

pub returns-in-Ok : goal.returns-in-Ok
returns-in-Ok c = job-done _ _ c.requires.0 _ _ _ _ (c.copy_cells.ensures ∙ ap (clipped _) c.requires.1) (length-replicate {A = ℕ} 14112 0) c.extract_tiles-extracted.ensures _ c.in-Ok.is c.run_on_planes.ensures

pub returns-in-Err : goal.returns-in-Err
returns-in-Err c = writes_as (job-refused _ _ c.requires.0 _ _ _ _ (c.copy_cells.ensures ∙ ap (clipped _) c.requires.1) (length-replicate {A = ℕ} 14112 0) c.extract_tiles-extracted.ensures _ c.in-Err.is) (rw c.from.ensures at c.put_refused.ensures)
