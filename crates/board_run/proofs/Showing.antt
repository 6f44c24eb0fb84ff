-- The numbers, planes and queue of the code are those of a run, from its beginning on and after each step.
--     none_left, one_left    whether an entry is still forced, by the only colour of its cell
--     shows-round    forced neighbours queued, with room for all and without: shows-room, shows-full
--     shows-dropped, shows-laid    the entry next out taken
--     shows-begun    the run before an entry is taken
--     ends-so        how it ended
--     itself         any numbers, planes and entries are those of some run
-- Assumes nothing.
use Prim.Native.Nat.{ℕ, ◌+◌, ◌-◌, ◌<◌, ◌≤◌}
use mathlib.Core.Path.{◌≡◌, refl, sym, ◌∙◌, ap, subst}
use mathlib.Core.Bool.{Bool, true, false, not, ◌&&◌}
use mathlib.Core.List.{List, [], ◌∷◌}
use lib.Dec.{eqb}
use lib.ListN.{length, replicate, length-append, length-replicate}
use lib.Seq.{take-append_seam}
use borrow.Author.Tests.{eq-eqb, ne_eqb}
use Rattle.std.specs.Prelude.{Option, Ok, Err}
use Rattle.std.specs.Result.{is_err}
use Rattle.base.specs.Counting.{pick}
use Rattle.rules.specs.Bounds.{added_room, queue_room}
use Rattle.rules.specs.Answers.{Answer, end_by}
use Rattle.rules.specs.Places.{cell_of}
use Rattle.rules.specs.Grid.{entry_of, laid_on}
use Rattle.rules.specs.Fit.{lists}
use Rattle.rules.specs.Forced.{listed_at, only, forces_one, forced_round, no_position, padded, positions_of, offered, with_positions}
use Rattle.rules.specs.Board.{Panel, Board, shape_of, entry_in, laid}
use Rattle.rules.specs.ForcedRun.{Run, still_forced, queueing, taking, stepped, begun}
use Rattle.rules.specs.declared.World.{World}
use Rattle.rules.specs.declared.Cell.{Cell}
use Rattle.rules.specs.declared.ForcedPosition.{ForcedPosition}
use Rattle.rules.specs.declared.BoundingBox.{BoundingBox}
use Rattle.rules.specs.declared.RanOut.{RanOut}
use Rattle.rules.specs.declared.RunEnd.{RunEnd}
use Rattle.rules.specs.declared.Refusal.{Refusal}
use Rattle.rules.proofs.ForcedRun.{queued_by, laying_of, added-room, added_full, laid_then, dropped-then, steps_next}
use Rattle.bitset_colours.proofs.Colours.{one_only}
use Rattle.fit_forced.specs.Round.{only_at}
use Rattle.queue_ring.specs.Waiting.{Adds}
use Rattle.queue_ring.proofs.Growing.{was-all, was-full}
use Rattle.board_run.specs.Running.{Shows, end_of}
use Rattle.board_run.specs.declared.Progress.{Progress}

-- ---- an entry that is still forced

-- a cell that is laid or not, has one colour or not, and has this only colour; and the colour that is asked for
lone-none : (on one : Bool) (o c : ℕ) → one ≡ not (eqb o 0) → pick on 0 o ≡ 0 → false ≡ ((not on && one) && eqb o c)
lone-none true one o c e h = refl
lone-none false one o c e h = rw (e, eq-eqb o 0 h)

lone-some : (on one : Bool) (o c : ℕ) → one ≡ not (eqb o 0) → (pick on 0 o ≡ 0 → ⊥) → eqb (pick on 0 o) c ≡ ((not on && one) && eqb o c)
lone-some true one o c e h = absurd (h refl)
lone-some false one o c e h = rw (e, ne_eqb o 0 h)

module _ (j : Panel) (count : ℕ) (b : Board) (e : ForcedPosition) where
  -- the only colour of the cell, 0 where there is none or the cell is laid
  abbrev only_there : ℕ
  only_there = only_at (shape_of j) j.tiles b.pieces count (entry_in j e.coordinates)

  one-there : eqb (length (listed_at (shape_of j) j.tiles b.pieces count (entry_in j e.coordinates))) 1
      ≡ not (eqb (only (listed_at (shape_of j) j.tiles b.pieces count (entry_in j e.coordinates))) 0)
  one-there = one_only count (lists (shape_of j) j.tiles b.pieces (entry_in j e.coordinates))

  module _ (cell : Cell) (here : cell ≡ cell_of e.coordinates j.offset) (r : ℕ)
      (asked : r ≡ only_at (shape_of j) j.tiles b.pieces count (entry_of j.cols cell)) where
    found : r ≡ only_there
    found = asked ∙ ap (λ (c : Cell). only_at (shape_of j) j.tiles b.pieces count (entry_of j.cols c)) here

    pub none_left : r ≡ 0 → false ≡ still_forced j count b e
    unfolding still_forced forces_one
    none_left h = lone-none (laid_on b.pieces (entry_in j e.coordinates)) _ _ e.colour one-there (sym found ∙ h)

    pub one_left : (r ≡ 0 → ⊥) → eqb r e.colour ≡ still_forced j count b e
    unfolding still_forced forces_one
    one_left h =
        ap (λ (n : ℕ). eqb n e.colour) found
        ∙ lone-some (laid_on b.pieces (entry_in j e.coordinates)) _ _ e.colour one-there (λ z. h (found ∙ z))

-- ---- forced neighbours queued

pub offered-of : (l : List ForcedPosition) → offered (positions_of l) ≡ l
unfolding offered positions_of padded
offered-of l = take-append_seam l (replicate (added_room - length l) no_position)

-- the entries that are to wait, as the code adds them and as the run has them
module _ (j : Panel) (count : ℕ) (bounds : Option BoundingBox) (place : World) (s : Run) (pieces : List ℕ) (old : List ForcedPosition)
    (same : pieces ≡ s.board.pieces) (waits : old ≡ s.queue) where
  abbrev more : List ForcedPosition
  more = with_positions old (forced_round j.kind pieces j.rows j.cols j.tiles count place j.offset bounds)

  more-is : more ≡ queued_by j count bounds place s
  more-is =
      ap (λ (x : List ℕ). with_positions old (forced_round j.kind x j.rows j.cols j.tiles count place j.offset bounds)) same
      ∙ ap (λ (l : List ForcedPosition). with_positions l (forced_round j.kind s.board.pieces j.rows j.cols j.tiles count place j.offset bounds)) waits

  pub shows-round : (a : Answer Unit) (full : Bool) (new : List ForcedPosition) (taken laid : ℕ) → full ≡ is_err a → taken ≡ s.taken → laid ≡ length s.lain
      → Adds more old a new → Shows (queueing j count bounds place s) s.board new (record { taken = taken; laid = laid; full = full })
  shows-round (Ok tt) full new taken laid f t n g =
      let w = was-all more old g in
      subst (λ (r : Run). Shows r s.board new (record { taken = taken; laid = laid; full = full }))
      (sym (added-room j count bounds place s (subst (λ (l : List ForcedPosition). length l ≤ queue_room) more-is w.0)))
      (record { board = refl; queue = w.1 ∙ more-is; taken = t; laid = n; full = f })
  shows-round (Err r) full new taken laid f t n g =
      let w = was-full more old g in
      subst (λ (r : Run). Shows r s.board new (record { taken = taken; laid = laid; full = full }))
      (sym (added_full j count bounds place s (subst (λ (l : List ForcedPosition). queue_room < length l) more-is w.0)))
      (record { board = refl; queue = w.2 ∙ waits; taken = t; laid = n; full = f })

  -- from numbers that are those of the run before
  module _ {b : Board} (p : Progress) (shown : Shows s b old p) {new : List ForcedPosition} where
    pub shows-room : Adds more old (Ok tt) new → Shows (queueing j count bounds place s) s.board new (record { taken = p.taken; laid = p.laid; full = false })
    shows-room g = shows-round (Ok tt) false new p.taken p.laid refl shown.taken shown.laid g

    pub shows-full : {r : Refusal} → Adds more old (Err r) new
        → Shows (queueing j count bounds place s) s.board new (record { taken = p.taken; laid = p.laid; full = true })
    shows-full {r} g = shows-round (Err r) true new p.taken p.laid refl shown.taken shown.laid g

-- ---- the beginning

pub shows-begun : (j : Panel) (count : ℕ) (bounds : Option BoundingBox) (place : World) (b : Board) (pieces : List ℕ) (old : List ForcedPosition)
    → b.pieces ≡ pieces → old ≡ [] → (a : Answer Unit) (full : Bool) (new : List ForcedPosition) → full ≡ is_err a
    → Adds (with_positions old (forced_round j.kind pieces j.rows j.cols j.tiles count place j.offset bounds)) old a new
    → Shows (begun j count bounds b place) b new (record { taken = 0; laid = 0; full = full })
unfolding begun
shows-begun j count bounds place b pieces old same none a full new f g =
    shows-round j count bounds place (record { board = b; queue = []; taken = 0; lain = []; full = false }) pieces old (sym same) none a full new 0 0 f
    refl refl g

-- ---- the entry next out

module _ (j : Panel) (count : ℕ) (bounds : Option BoundingBox) (s : Run) (b : Board) (l : List ForcedPosition) (p : Progress) (shown : Shows s b l p)
    (free : p.full ≡ false) (e : ForcedPosition) (rest : List ForcedPosition) (out : l ≡ e ∷ rest) where
  taking-is : stepped j count bounds s ≡ taking j count bounds s e rest
  taking-is = steps_next j count bounds s e rest (sym shown.full ∙ free) (sym shown.queue ∙ out)

  still-is : {t : Bool} → still_forced j count b e ≡ t → still_forced j count s.board e ≡ t
  still-is h = ap (λ (x : Board). still_forced j count x e) (sym shown.board) ∙ h

  pub shows-dropped : still_forced j count b e ≡ false
      → Shows (stepped j count bounds s) b rest (record { taken = p.taken + 1; laid = p.laid; full = p.full })
  shows-dropped h =
      subst (λ (r : Run). Shows r b rest (record { taken = p.taken + 1; laid = p.laid; full = p.full }))
      (sym (taking-is ∙ dropped-then j count bounds s e rest (still-is h)))
      (record { board = shown.board; queue = refl; taken = ap (λ (n : ℕ). n + 1) shown.taken; laid = shown.laid; full = free })

  -- the run when the entry is laid, before its neighbours are queued
  abbrev lain-run : Run
  lain-run = laying_of j count bounds s e rest

  -- its board is the one that the code has laid it on
  module _ (b' : Board) (lays : b' ≡ laid (shape_of j) j.tiles b (entry_in j e.coordinates) e.colour) where
    lain-board : b' ≡ lain-run.board
    lain-board = lays ∙ ap (λ (x : Board). laid (shape_of j) j.tiles x (entry_in j e.coordinates) e.colour) shown.board

    pub shows-laid : still_forced j count b e ≡ true → (a : Answer Unit) (full : Bool) (new : List ForcedPosition) → full ≡ is_err a
        → Adds (with_positions rest (forced_round j.kind b'.pieces j.rows j.cols j.tiles count e.coordinates j.offset bounds)) rest a new
        → Shows (stepped j count bounds s) b' new (record { taken = p.taken + 1; laid = p.laid + 1; full = full })
    shows-laid h a full new f g =
        subst (λ (x : Run). Shows x b' new (record { taken = p.taken + 1; laid = p.laid + 1; full = full }))
        (sym (taking-is ∙ laid_then j count bounds s e rest (still-is h)))
        (subst (λ (x : Board). Shows (queueing j count bounds e.coordinates lain-run) x new (record { taken = p.taken + 1; laid = p.laid + 1; full = full }))
        (sym lain-board)
        (shows-round j count bounds e.coordinates lain-run b'.pieces rest (ap (λ (x : Board). x.pieces) lain-board) refl a full new (p.taken + 1) (p.laid + 1) f
        (ap (λ (n : ℕ). n + 1) shown.taken)
        (ap (λ (n : ℕ). n + 1) shown.laid ∙ sym (length-append s.lain (e ∷ [])))
        g))

-- ---- any numbers, planes and entries are those of a run

abbrev pub itself : Board → List ForcedPosition → Progress → Run
itself b l p = record { board = b; queue = l; taken = p.taken; lain = replicate p.laid no_position; full = p.full }

pub shows-itself : (b : Board) (l : List ForcedPosition) (p : Progress) → Shows (itself b l p) b l p
shows-itself b l p = record { board = refl; queue = refl; taken = refl; laid = sym (length-replicate p.laid no_position); full = refl }

-- ---- the end

pub ends-so : (s : Run) (b : Board) (l : List ForcedPosition) (p : Progress) → Shows s b l p → {end : RunEnd} → end ≡ end_by p.full l
    → ◌≡◌ {A = RanOut} (record { end = end; taken = p.taken; laid = p.laid }) (end_of s)
ends-so s b l p shown e = rw (e, shown.full, shown.queue, shown.taken, shown.laid)
