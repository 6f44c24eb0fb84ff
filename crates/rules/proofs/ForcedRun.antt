-- A forced run's steps: two cases in which its queue fills, by evaluation, and laws.
--     last-room      eight neighbours are added to 56 entries, and not to 57
--     lay-stands     full is said, and the lay after which it is said stands
--     by-steps       what holds at the beginning, and after each taking where it held before, holds at every moment
--     added-room, added_full    the two ways of queueing: with room for all, and without
--     laid_then, dropped-then   the two ways of taking
--     adding-is      with at most 64 entries then the forced neighbours are queued; with more the queue stays, and the run is full
--     begun-room     the first adding never meets ROOM
--     stays          a run that is full, or in which no entry waits, stays as it is
-- Assumes nothing.
use Rattle.std.specs.Prelude.{Option, None}
use Prim.Native.Nat.{ℕ, zero, suc, ◌+◌, ◌<◌, ◌≤◌}
use mathlib.Core.Path.{◌≡◌, refl, ◌∙◌, ap}
use mathlib.Core.Bool.{Bool, true, false}
use mathlib.Core.List.{List, [], ◌∷◌, ◌++◌}
use mathlib.Core.Logic.{⊎_elim}
use native.Mathlib.Omega.{arith}
use lib.Dec.{ltb}
use lib.ListN.{length, set}
use lib.IntN.{pos}
use borrow.Author.Tests.{le-leb, lt-leb, lt-ltb, le-ltb}
use Rattle.base.specs.Counting.{pick, every, some}
use Rattle.base.specs.Refusal.{refusal}
use Rattle.base.proofs.Bools.{pick_yes, pick_no}
use Rattle.base.proofs.Numbers.{lt-or-le}
use Rattle.base.specs.Tables.{tab, those, fold}
use Rattle.rules.specs.Bounds.{queue_room}
use Rattle.rules.specs.Answers.{end_by}
use Rattle.rules.specs.Forced.{with_positions, neighbour, admits, forces_one, is_forced, forced_there, forced_round, is_queued, with_position}
use Rattle.rules.specs.Board.{Panel, Board, shape_of, entry_in, laid, fresh_board}
use Rattle.rules.specs.ForcedRun.{Run, forced_by, still_forced, queueing, taking, taking_from, stepped, begun, run_out}
use Rattle.rules.specs.Tests.{on_board}
use Rattle.rules.specs.Sets.{colours_of}
use Rattle.rules.specs.Grid.{entry_or_past, flat}
use Rattle.rules.specs.Places.{cell_of, same_place}
use Rattle.rules.specs.Fit.{agrees, fits_tile, has_fitting, allows, left_after}
use Rattle.rules.specs.declared.World.{World}
use Rattle.rules.specs.declared.RunEnd.TheVariants as RunEnd·
use Rattle.rules.specs.declared.ForcedPosition.{ForcedPosition}
use Rattle.rules.proofs.Queues.{few-more, forced-few}
use Rattle.rules.proofs.Choices.{plain}
use Rattle.rules.specs.declared.BoundingBox.{BoundingBox}

-- ---- the last room, and one entry more

-- a bare board of one plain tile, in which all neighbours of the centre are forced, and so many entries that wait past its edge
abbrev waiting : ℕ → Run
waiting n =
    record {
      board = fresh_board 9 1;
      queue = tab n (λ k. record { coordinates = record { 0 = pos (k + 3); 1 = pos 0 }; colour = 1 });
      taken = 0;
      lain = [];
      full = false;
    }

abbrev added : ℕ → Run
added n = queueing plain 1 None (record { 0 = pos 1; 1 = pos 1 }) (waiting n)

pub last-room : (length (added 56).queue ≡ 64) × ((added 56).full ≡ false) × ((added 57).queue ≡ (waiting 57).queue) × ((added 57).full ≡ true)
unfolding queueing refusal fold tab those every some fresh_board with_positions with_position is_queued same_place forced_round forced_there is_forced forces_one neighbour admits on_board colours_of left_after allows has_fitting fits_tile agrees flat entry_or_past cell_of
last-room = (refl, refl, refl, refl)

-- ---- "that lay stands"

-- the entry next out is the centre, and 57 wait behind it
abbrev laid_last : Run
laid_last = taking plain 1 None (waiting 57) (record { coordinates = record { 0 = pos 1; 1 = pos 1 }; colour = 1 }) (waiting 57).queue

pub lay-stands : (end_by laid_last.full laid_last.queue ≡ RunEnd·.Full) × (laid_last.taken ≡ 1) × (length laid_last.lain ≡ 1)
    × (laid_last.board.pieces ≡ set (fresh_board 9 1).pieces 4 2)
unfolding still_forced taking laid queueing refusal fold tab those every some fresh_board with_positions with_position is_queued same_place forced_round forced_there is_forced forces_one neighbour admits on_board colours_of left_after allows has_fitting fits_tile agrees flat entry_or_past cell_of
lay-stands = (refl, refl, refl, refl)

module _ (j : Panel) (count : ℕ) (bounds : Option BoundingBox) where
  -- the queue with the forced neighbours of a place
  abbrev pub queued_by : World → Run → List ForcedPosition
  queued_by place s = with_positions s.queue (forced_by j count bounds s.board place)

  module _ (place : World) (s : Run) where
    pub added-room : length (queued_by place s) ≤ queue_room
        → queueing j count bounds place s ≡ record { board = s.board; queue = queued_by place s; taken = s.taken; lain = s.lain; full = false }
    unfolding queueing refusal
    added-room h = rw (le-leb (length (queued_by place s)) queue_room h)

    pub added_full : queue_room < length (queued_by place s)
        → queueing j count bounds place s ≡ record { board = s.board; queue = s.queue; taken = s.taken; lain = s.lain; full = true }
    unfolding queueing refusal
    added_full h = rw (lt-leb (length (queued_by place s)) queue_room h)

  module _ (s : Run) (e : ForcedPosition) (rest : List ForcedPosition) where
    -- the run when an entry is laid, before its neighbours are queued
    abbrev pub laying_of : Run
    laying_of =
        record {
          board = laid (shape_of j) j.tiles s.board (entry_in j e.coordinates) e.colour;
          queue = rest;
          taken = s.taken + 1;
          lain = s.lain ++ (e ∷ []);
          full = false;
        }

    abbrev pub dropping_of : Run
    dropping_of = record { board = s.board; queue = rest; taken = s.taken + 1; lain = s.lain; full = false }

    pub laid_then : still_forced j count s.board e ≡ true → taking j count bounds s e rest ≡ queueing j count bounds e.coordinates laying_of
    unfolding taking
    laid_then h = pick_yes _ _ _ h

    pub dropped-then : still_forced j count s.board e ≡ false → taking j count bounds s e rest ≡ dropping_of
    unfolding taking
    dropped-then h = pick_no _ _ _ h

  -- one step, by what waits
  pub by-step : (P : Run → Type 0) (s : Run) → (s.full ≡ true → P s) → (s.queue ≡ [] → P s)
      → ((e : ForcedPosition) (rest : List ForcedPosition) → s.full ≡ false → s.queue ≡ e ∷ rest → P (taking j count bounds s e rest))
      → P (stepped j count bounds s)
  unfolding stepped
  by-step P s f g h = go s.full s.queue refl refl
    where
      go : (full : Bool) (l : List ForcedPosition) → s.full ≡ full → s.queue ≡ l → P (taking_from j count bounds s full l)
      go true l p q = f p
      go false [] p q = g q
      go false (e ∷ rest) p q = h e rest p q

  pub steps-full : (s : Run) → s.full ≡ true → stepped j count bounds s ≡ s
  unfolding stepped
  steps-full s p = ap (λ (x : Bool). taking_from j count bounds s x s.queue) p

  pub steps-none : (s : Run) → s.full ≡ false → s.queue ≡ [] → stepped j count bounds s ≡ s
  unfolding stepped
  steps-none s p q = ap (λ (x : Bool). taking_from j count bounds s x s.queue) p ∙ ap (taking_from j count bounds s false) q

  pub steps_next : (s : Run) (e : ForcedPosition) (rest : List ForcedPosition) → s.full ≡ false → s.queue ≡ e ∷ rest
      → stepped j count bounds s ≡ taking j count bounds s e rest
  unfolding stepped
  steps_next s e rest p q = ap (λ (x : Bool). taking_from j count bounds s x s.queue) p ∙ ap (taking_from j count bounds s false) q

  module _ (b : Board) (place : World) where
    -- the run at the moment when so many entries may have been taken
    abbrev pub at : ℕ → Run
    at n = run_out j count bounds b place n

    pub begun-room : begun j count bounds b place
        ≡ record {
          board = b;
          queue = with_positions [] (forced_by j count bounds b place);
          taken = 0;
          lain = [];
          full = false;
        }
    unfolding begun
    begun-room =
        added-room place (record { board = b; queue = []; taken = 0; lain = []; full = false })
        (omega
        (arith, few-more [] (forced_by j count bounds b place), forced-few j.kind b.pieces j.rows j.cols j.tiles count place j.offset bounds))

    pub by-steps : (P : ℕ → Run → Type 0) → P 0 (begun j count bounds b place) → ((n : ℕ) (s : Run) → P n s → P (suc n) (stepped j count bounds s))
        → (n : ℕ) → P n (at n)
    unfolding run_out
    by-steps P z h zero = z
    by-steps P z h (suc n) = h n (at n) (by-steps P z h n)

    -- a step that changes nothing is the last that may change anything
    pub stays : (n m : ℕ) → stepped j count bounds (at n) ≡ at n → n ≤ m → at m ≡ at n
    unfolding run_out
    stays n zero e h = let z : 0 ≡ n = omega arith in ap at z
    stays n (suc m) e h =
        ⊎_elim (λ (l : m < n). let z : suc m ≡ n = omega arith in ap at z)
        (λ (l : n ≤ m). ap (stepped j count bounds) (stays n m e l) ∙ e)
        (lt-or-le m n)

-- ---- the room of its queue, as the number 64

-- "full (an adding would meet ROOM; that lay stands)"
pub adding-is : (j : Panel) (count : ℕ) (bounds : Option BoundingBox) (place : World) (s : Run)
    → let more = with_positions s.queue (forced_by j count bounds s.board place) in
    queueing j count bounds place s
    ≡ record { board = s.board; queue = pick (ltb 64 (length more)) s.queue more; taken = s.taken; lain = s.lain; full = ltb 64 (length more) }
adding-is j count bounds place s =
    ⊎_elim
    (λ (over : 64 < length more). rw (lt-ltb 64 (length more) over) (added_full j count bounds place s over))
    (λ (room : length more ≤ 64). rw (le-ltb 64 (length more) room) (added-room j count bounds place s room))
    (lt-or-le 64 (length more))
  where
    more : List ForcedPosition
    more = queued_by j count bounds place s
