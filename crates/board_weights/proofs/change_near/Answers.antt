-- `board_weights::change_near` meets its contract: a sweep over the rows of the spans. Assumes nothing.
use Prim.Native.Nat.{◌+◌, ◌-◌, ◌*◌, ◌<◌, ◌≤◌}
use mathlib.Core.Path.{◌≡◌, refl, sym, subst}
use native.Mathlib.Omega.{arith}
use lib.ListN.{length, take, drop}
use Rattle.base.proofs.Sweep.{length_part}
use Rattle.base.proofs.Regions.{region-start, part-old, region-row, region-done}
use Rattle.rules.specs.Bounds.{max_cells}
use Rattle.board_near.proofs.Nearby.{near-region}
use Rattle.board_weights.specs.Shares.{changed_by}
use Rattle.board_weights.proofs.Shares.{row-in}
use Rattle.board_weights.proofs.change_near.Goals.{In-loop-row}
use Rattle.board_weights.proofs.change_near.Goals as goal

-- the row is in the plane, which is small
room : (g : _) (c : In-loop-row g)
    → let a = c.args in (c.loop-row.row * a.cols + a.cols ≤ length a.weights.now) × (length a.weights.now ≤ max_cells)
room g c = row-in _ _ _ _ _ c.requires.0 c.requires.1 (changed_by g.S.Step.becomes c.args.cell) c.loop-row.invariant c.loop-row-test.true

pub loop-row-init : goal.loop-row-init
loop-row-init g c = region-start 0 (changed_by g.S.Step.becomes c.args.cell) _ _ _ _ _ _ (near-region _ _ _ _ c.requires.1 _ c.requires.0)

pub overflow_mul-from : goal.overflow_mul-from
overflow_mul-from g c = record { fits = omega (arith, room g c) }

pub overflow_add-from : goal.overflow_add-from
overflow_add-from g c = record { fits = omega (arith, room g (goal.at.overflow_add-from g c).In-loop-row) }

pub overflow_mul-to : goal.overflow_mul-to
overflow_mul-to g c = record { fits = omega (arith, room g (goal.at.overflow_mul-to g c).In-loop-row) }

pub overflow_add-to : goal.overflow_add-to
overflow_add-to g c = record { fits = omega (arith, room g (goal.at.overflow_add-to g c).In-loop-row) }

pub slice_bounds-change_row-end : goal.slice_bounds-change_row-end
slice_bounds-change_row-end g c = omega (arith, room g (goal.at.slice_bounds-change_row-end g c).In-loop-row, c.loop-row.invariant.long, near-region _ _ _ _ c.requires.1 _ c.requires.0)

pub change_row-requires : goal.change_row-requires
change_row-requires g c =
    let l = c.loop-row in
    let a = c.args in
    let fits = near-region _ _ _ _ c.requires.1 _ c.requires.0 in
    let from = l.row * a.cols + a.spans.cols.0 in
    let to = l.row * a.cols + a.spans.cols.1 in
    let held : to ≤ length l.weights = omega (arith, room g (goal.at.change_row-requires g c).In-loop-row, fits, l.invariant.long) in
    let long : length (take (to - from) (drop from l.weights)) ≡ to - from = length_part l.weights from to held in (
      omega (arith, long, fits, c.requires.0),
      λ j s j< s<.
          let j-end : from + j < length a.weights.now = omega (arith, long, held, l.invariant.long) in
          subst (λ n. g.S.Step.can_step n s)
          (sym (part-old 0 (changed_by g.S.Step.becomes a.cell) _ _ _ _ _ _ fits l.invariant from to j (omega arith) (omega (arith, long)) (omega (arith, held, l.invariant.long))))
          (c.requires.2 (from + j) s j-end s<),
    )

pub loop-row-preserved : goal.loop-row-preserved
loop-row-preserved g c =
    let l = c.loop-row in
    let a = c.args in
    region-row 0 (changed_by g.S.Step.becomes a.cell) _ _ _ _ _ _ (near-region _ _ _ _ c.requires.1 _ c.requires.0) l.invariant
    (l.row * a.cols + a.spans.cols.0) (l.row * a.cols + a.spans.cols.1) refl refl c.loop-row-test.true c.change_row.ensures

pub returns : goal.returns
returns g c =
    region-done 0 (changed_by g.S.Step.becomes c.args.cell) _ _ _ _ _ _ (near-region _ _ _ _ c.requires.1 _ c.requires.0) c.loop-row.invariant
    c.loop-row-test.false
