-- `board_run::turn` meets its contract: the entry is dropped, or laid and its forced neighbours queued. Assumes nothing.
use mathlib.Core.Path.{refl, sym, ◌∙◌}
use Prim.Native.Nat.{◌≤◌}
use native.Mathlib.Omega.{arith}
use Rattle.rules.specs.Bounds.{max_colours}
use Rattle.rules.specs.Promises.{panel}
use Rattle.board_run.proofs.Going.{forced-low}
use Rattle.board_run.proofs.Leaning.{walled, split, some-waits, first_on, laying-by, laid-ready}
use Rattle.board_run.proofs.Showing.{shows-dropped, shows-laid}
use Rattle.board_run.proofs.turn.Goals as goal

pub returns-in_default : goal.returns-in_default
returns-in_default c = some-waits c.args.queue.now c.requires.waits c.take_next.ensures.0 c.in_default.is

pub still_forced-requires : goal.still_forced-requires
still_forced-requires c =
    let t = c.requires in
    (t.going.ready, first_on _ _ _ _ _ t _ _ (split _ _ _ c.take_next.ensures c.in-Some.is))

pub returns-then-not-still_forced : goal.returns-then-not-still_forced
returns-then-not-still_forced c = (
  refl,
  omega arith,
  λ s shown.
      shows-dropped _ _ _ s _ _ _ shown c.requires.free _ _ (split _ _ _ c.take_next.ensures c.in-Some.is)
      (sym (c.still_forced.ensures _ _) ∙ c.if-not-still_forced.true),
)

-- the entry was found still forced, so its colour is one that may be laid
pub lay_entry-requires : goal.lay_entry-requires
lay_entry-requires c =
    let t = c.requires in
    let still = sym (c.still_forced.ensures c.args.weights.now c.args.counts.now) ∙ c.if-not-still_forced.false in
    laying-by _ _ _ _ _ t _ _ (split _ _ _ c.take_next.ensures c.in-Some.is) (omega (arith, forced-low _ _ _ _ still, t.going.ready.colours))

pub queue_round-requires : goal.queue_round-requires
queue_round-requires c =
    let t = c.requires in
    let still = sym (c.still_forced.ensures c.args.weights.now c.args.counts.now) ∙ c.if-not-still_forced.false in
    let may : c.in-Some.entry.colour ≤ max_colours = omega (arith, forced-low _ _ _ _ still, t.going.ready.colours) in
    record {
      ready = laid-ready _ _ _ _ _ t.going _ _ may _ c.lay_entry.ensures;
      walled = walled _ _ _ (laying-by _ _ _ _ _ t _ _ (split _ _ _ c.take_next.ensures c.in-Some.is) may);
    }

pub overflow_add-result : goal.overflow_add-result
overflow_add-result c =
    let t = c.requires in
    omega (arith, t.fewer, t.small)

pub returns : goal.returns
returns c =
    let a = c.args in (
      refl,
      omega arith,
      λ s shown.
          shows-laid (panel a.rows a.cols a.tiles.now a.offset) a.count a.bounds s _ _ _ shown c.requires.free _ _
          (split _ _ _ c.take_next.ensures c.in-Some.is) _ c.lay_entry.ensures
          (sym (c.still_forced.ensures _ _) ∙ c.if-not-still_forced.false) _ _ _ c.is_err-full.ensures.value c.queue_round.ensures,
    )
