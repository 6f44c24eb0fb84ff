-- The box of a forced run holds, on any board and with nothing asked of the call.
--     waits-inside    at every moment, each entry that waits is admitted by the box
--     lain-inside     and each entry that was laid
-- The place of the call may lie outside the box, and then it is not laid. Assumes nothing.
use Rattle.std.specs.Prelude.{Option}
use Prim.Native.Nat.{ℕ}
use mathlib.Core.Path.{◌≡◌, sym, subst}
use mathlib.Core.Bool.{true, ◌&&◌}
use mathlib.Core.Logic.{⊎_elim}
use mathlib.Core.List.{List, [], ◌∷◌}
use Rattle.base.proofs.Bools.{and_left}
use Rattle.base.proofs.Each.{Each, each_more}
use Rattle.rules.specs.Tests.{on_board}
use Rattle.rules.specs.Forced.{admits, is_forced, forced_there, forced_round, with_positions}
use Rattle.rules.specs.Board.{Panel, Board}
use Rattle.rules.specs.ForcedRun.{Run, run_out}
use Rattle.rules.specs.declared.World.{World}
use Rattle.rules.specs.declared.ForcedPosition.{ForcedPosition}
use Rattle.rules.proofs.Queues.{each-with, each-forced}
use Rattle.stand_forced.proofs.Steps.{by-run}
use Rattle.rules.specs.declared.BoundingBox.{BoundingBox}

module _ (j : Panel) (count : ℕ) (bounds : Option BoundingBox) where
  -- these entries are admitted by the box
  abbrev Inside : List ForcedPosition → Type 0
  Inside l = Each (λ e. admits bounds e.coordinates ≡ true) l

  -- and so are those that are queued after them
  still-inside : (p : List ℕ) (l : List ForcedPosition) (place : World) → Inside l
      → Inside (with_positions l (forced_round j.kind p j.rows j.cols j.tiles count place j.offset bounds))
  unfolding is_forced forced_there
  still-inside p l place h =
      each-with (λ e. admits bounds e.coordinates ≡ true) l _ h
      (each-forced j.kind p j.rows j.cols j.tiles count place j.offset bounds (λ e. admits bounds e.coordinates ≡ true)
      (λ v forced. and_left (admits bounds v) _ (and_left (admits bounds v && on_board j.rows j.cols v j.offset) _ forced)))

  module _ (b : Board) (place : World) where
    abbrev at : ℕ → Run
    at n = run_out j count bounds b place n

    inside : (n : ℕ) → Inside (at n).queue × Inside (at n).lain
    inside =
        by-run j count bounds b place (λ s. Inside s.queue × Inside s.lain) (still-inside b.pieces [] place tt, tt)
        (λ n e rest h q drop. ((subst Inside q h.0).1, h.1))
        (λ n e rest h q still l full a.
        let next : Inside (e ∷ rest) = subst Inside q h.0 in (
          ⊎_elim (λ z. subst Inside (sym z) next.1) (λ z. subst Inside (sym z) (still-inside _ rest e.coordinates next.1)) a,
          each_more (λ x. admits bounds x.coordinates ≡ true) (at n).lain (e ∷ []) h.1 (next.0, tt),
        ))

    pub waits-inside : (n : ℕ) → Each (λ e. admits bounds e.coordinates ≡ true) (at n).queue
    waits-inside n = (inside n).0

    pub lain-inside : (n : ℕ) → Each (λ e. admits bounds e.coordinates ≡ true) (at n).lain
    lain-inside n = (inside n).1
