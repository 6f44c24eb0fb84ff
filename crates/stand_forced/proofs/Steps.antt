-- A forced run, followed step by step, on any board and with nothing asked.
--     by-taking  what holds after an entry is dropped, and after it is laid, holds after it is taken
--     by-run     what holds at the beginning, and after each entry taken where it held before, holds at every moment
--     taken-low, laid-low    no more entries are taken than the budget has, and no more are laid than taken
--     all-taken  while an entry waits, each step took one
-- After a lay the queue is the rest, or the rest with the forced neighbours: a fact is shown of both at once (`After`). Assumes nothing.
use Rattle.std.specs.Prelude.{Option}
use Prim.Native.Nat.{ℕ, zero, suc, ◌<◌, ◌≤◌}
use mathlib.Core.Path.{◌≡◌, refl, sym, ◌∙◌, subst}
use mathlib.Core.Bool.{Bool, true, false}
use mathlib.Core.Logic.{◌⊎◌, inl, inr, ⊎_elim}
use mathlib.Core.List.{List, [], ◌∷◌}
use native.Mathlib.Omega.{arith}
use lib.ListN.{length, length-append}
use Rattle.base.proofs.Bools.{never, by-test}
use Rattle.base.proofs.Numbers.{lt-or-le}
use Rattle.rules.specs.Bounds.{queue_room}
use Rattle.rules.specs.Forced.{with_positions}
use Rattle.rules.specs.Board.{Panel, Board}
use Rattle.rules.specs.ForcedRun.{Run, forced_by, still_forced, taking, run_out}
use Rattle.rules.specs.declared.World.{World}
use Rattle.rules.specs.declared.ForcedPosition.{ForcedPosition}
use Rattle.rules.proofs.ForcedRun.{queued_by, laying_of, dropping_of, added-room, added_full, laid_then, dropped-then, by-step, begun-room, by-steps}
use Rattle.rules.proofs.Listed.{not_none}
use Rattle.rules.specs.declared.BoundingBox.{BoundingBox}

module _ (j : Panel) (count : ℕ) (bounds : Option BoundingBox) where
  -- the run when an entry is laid, with any queue
  abbrev pub laying_with : Run → ForcedPosition → List ForcedPosition → Bool → Run
  laying_with s e l full =
      let a : Run = laying_of j count bounds s e l in
      record { board = a.board; queue = l; taken = a.taken; lain = a.lain; full = full }

  -- the queue then: the rest, where an adding would meet ROOM, or the rest with the forced neighbours
  abbrev pub After : Run → ForcedPosition → List ForcedPosition → List ForcedPosition → Type 0
  After s e rest l = (l ≡ rest) ⊎ (l ≡ queued_by j count bounds e.coordinates (laying_of j count bounds s e rest))

  pub by-taking : (P : Run → Type 0) (s : Run) (e : ForcedPosition) (rest : List ForcedPosition)
      → (still_forced j count s.board e ≡ false → P (dropping_of j count bounds s e rest))
      → (still_forced j count s.board e ≡ true → (l : List ForcedPosition) (full : Bool) → After s e rest l → P (laying_with s e l full))
      → P (taking j count bounds s e rest)
  by-taking P s e rest drops lays =
      by-test (still_forced j count s.board e)
      (λ still.
      subst P (sym (laid_then j count bounds s e rest still))
      (⊎_elim
      (λ (more : queue_room < length new). subst P (sym (added_full j count bounds e.coordinates (laying_of j count bounds s e rest) more)) (lays still rest true (inl refl)))
      (λ (room : length new ≤ queue_room). subst P (sym (added-room j count bounds e.coordinates (laying_of j count bounds s e rest) room)) (lays still new false (inr refl)))
      (lt-or-le queue_room (length new))))
      (λ drop. subst P (sym (dropped-then j count bounds s e rest drop)) (drops drop))
    where
      new : List ForcedPosition
      new = queued_by j count bounds e.coordinates (laying_of j count bounds s e rest)

  module _ (b : Board) (place : World) where
    -- before an entry is taken
    abbrev at_first : Run
    at_first = record { board = b; queue = with_positions [] (forced_by j count bounds b place); taken = 0; lain = []; full = false }

    pub by-run : (P : Run → Type 0) → P at_first
        → ((n : ℕ) (e : ForcedPosition) (rest : List ForcedPosition) → let s = run_out j count bounds b place n in
        P s → s.queue ≡ e ∷ rest → still_forced j count s.board e ≡ false → P (dropping_of j count bounds s e rest))
        → ((n : ℕ) (e : ForcedPosition) (rest : List ForcedPosition) → let s = run_out j count bounds b place n in
        P s → s.queue ≡ e ∷ rest → still_forced j count s.board e ≡ true → (l : List ForcedPosition) (full : Bool) → After s e rest l
        → P (laying_with s e l full))
        → (n : ℕ) → P (run_out j count bounds b place n)
    unfolding run_out
    by-run P first drops lays zero = subst P (sym (begun-room j count bounds b place)) first
    by-run P first drops lays (suc n) =
        let s : Run = run_out j count bounds b place n in
        let h : P s = by-run P first drops lays n in
        by-step j count bounds P s (λ f. h) (λ q. h) (λ e rest f q. by-taking P s e rest (drops n e rest h q) (lays n e rest h q))

    pub laid-low : (n : ℕ) → length (run_out j count bounds b place n).lain ≤ (run_out j count bounds b place n).taken
    laid-low =
        by-run (λ s. length s.lain ≤ s.taken) (omega arith) (λ n e rest h q drop. omega arith)
        (λ n e rest h q still l full a. omega (arith, length-append (run_out j count bounds b place n).lain (e ∷ [])))

    -- a step takes one entry, or the run has ended
    abbrev Counts : ℕ → Run → Type 0
    Counts n s = (s.taken ≤ n) × ((s.full ≡ true) ⊎ ((s.queue ≡ []) ⊎ (s.taken ≡ n)))

    one_each : {n : ℕ} {e : ForcedPosition} {rest : List ForcedPosition} (s : Run) → Counts n s → s.full ≡ false → s.queue ≡ e ∷ rest → s.taken ≡ n
    one_each s h f q = ⊎_elim (λ t. never s.full t f) (λ o. ⊎_elim (λ z. absurd (not_none (sym q ∙ z))) (λ t. t) o) h.1

    counts : (n : ℕ) → Counts n (run_out j count bounds b place n)
    counts =
        by-steps j count bounds b place Counts (subst (Counts 0) (sym (begun-room j count bounds b place)) (omega arith, inr (inr refl)))
        (λ n s h.
        by-step j count bounds (Counts (suc n)) s (λ f. (omega (arith, h.0), inl f)) (λ q. (omega (arith, h.0), inr (inl q)))
        (λ e rest f q.
        let one : s.taken ≡ n = one_each s h f q in
        by-taking (Counts (suc n)) s e rest (λ drop. (omega arith, inr (inr (omega arith)))) (λ still l full a. (omega arith, inr (inr (omega arith))))))

    pub taken-low : (n : ℕ) → (run_out j count bounds b place n).taken ≤ n
    taken-low n = (counts n).0

    pub all-taken : {e : ForcedPosition} {rest : List ForcedPosition} (n : ℕ) → (run_out j count bounds b place n).full ≡ false
        → (run_out j count bounds b place n).queue ≡ e ∷ rest → (run_out j count bounds b place n).taken ≡ n
    all-taken n = one_each (run_out j count bounds b place n) (counts n)
