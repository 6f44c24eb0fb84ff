-- What a forced run leaves is what its lays leave.
--     run-board     by the rule of lay alone, on any board: its lays one after the other
--     run-listed    each of them finds its colour listed at its cell, on any board
--     forced-lays   as calls, on a grid that is `Sound` and a board that is what its pieces say: each is accepted, and they leave the board
--                   that the run leaves, which is what its pieces say too (forced-said)
--     forced-adds-none    a forced run adds no colour to a cell's list, on any board
--     forced-raises-none  and raises no count, on any such grid and any board whose counts are what its pieces say
--     heavy-goes-on  on other boards a lay as a call may be refused where the run goes on: lent weights stand at the largest, and the second
--                   lay meets CELL
-- Assumes nothing.
use Rattle.std.specs.Prelude.{Option, None}
use Prim.Native.Nat.{ℕ, ◌+◌, ◌≤◌}
use mathlib.Core.Path.{◌≡◌, refl, sym, ◌∙◌, ap, subst}
use mathlib.Core.Bool.{Bool, true, false}
use mathlib.Core.List.{List, [], ◌∷◌, ◌++◌, map, map-append, map-map}
use native.Mathlib.Nat.{le_refl, le_trans}
use lib.IntN.{pos}
use lib.ListN.{get_or, set, replicate}
use Rattle.base.specs.Counting.{every, some, within}
use Rattle.base.specs.Tables.{tab, those, fold}
use Rattle.base.specs.Refusal.{refusal}
use Rattle.base.specs.Whole.{within_z}
use Rattle.base.proofs.Bools.{not-is-true}
use Rattle.base.proofs.Chain.{either}
use Rattle.base.proofs.Tabled.{fold-last}
use Rattle.rules.specs.Tests.{board_sides, has_length, tile_number_fits, whole_tiles, colour_count, none_above, pieces_stored, on_wall, offset_fits, on_board}
use Rattle.rules.specs.Sets.{colours_of}
use Rattle.rules.specs.Grid.{laid_on, entry_or_past, flat}
use Rattle.rules.specs.Places.{cell_of, same_place}
use Rattle.rules.specs.Fit.{agrees, fits_tile, has_fitting, allows, left_after, lists}
use Rattle.rules.specs.Forced.{neighbour, admits, bounds_fit, forces_one, is_forced, forced_there, forced_round, is_queued, with_position, with_positions}
use Rattle.rules.specs.Board.{Panel, Board, shape_of, entry_in, counts_of, board_of, raised, recounted, laid, lay_checks, after_lay}
use Rattle.rules.specs.ForcedRun.{Run, still_forced, queueing, taking, stepped, begun, run_out, run_checks, after_run}
use Rattle.rules.specs.Promises.{board, panel}
use Rattle.rules.specs.declared.World.{World}
use Rattle.rules.specs.declared.ForcedPosition.{ForcedPosition}
use Rattle.rules.proofs.Choices.{corner}
use Rattle.rules.proofs.Fewer.{lists-fewer, under-lay, recount-less}
use Rattle.stand.specs.Runs.{Call, lay, Act, run, accepted_in, Piece, laid_all, lays}
use Rattle.stand.proofs.Shared.{Sound, recount}
use Rattle.stand.proofs.Calls.{Taken, Good, of_pieces, puts, changed-is, puts-good, puts-stored}
use Rattle.stand.proofs.Order.{with_pieces, Lays, then-lays, as-run}
use Rattle.stand_forced.specs.Moves.{lays_of}
use Rattle.rules.proofs.Listed.{still-off, still-in, still-listed}
use Rattle.stand_forced.proofs.Steps.{laying_with, by-run}
use Rattle.stand_forced.proofs.Waiting.{Entered, enters, keeps, next-kept}
use Rattle.rules.specs.declared.BoundingBox.{BoundingBox}

-- the piece of an entry, and of entries in order
abbrev piece_of : ForcedPosition → Piece
piece_of e = record { place = e.coordinates; colour = e.colour }

abbrev pub pieces_of : List ForcedPosition → List Piece
pieces_of l = map piece_of l

as-lays : (count : ℕ) (l : List ForcedPosition) → lays count (pieces_of l) ≡ lays_of count l
unfolding lays lays_of
as-lays count l = map-map _ _ l

module _ (j : Panel) where
  -- each of these entries, laid one after the other, finds its colour listed at its cell
  abbrev pub ListedInTurn : Board → List ForcedPosition → Type 0
  ListedInTurn c [] = Unit
  ListedInTurn c (e ∷ l) =
      (lists (shape_of j) j.tiles c.pieces (entry_in j e.coordinates) e.colour ≡ true)
      × ListedInTurn (laid (shape_of j) j.tiles c (entry_in j e.coordinates) e.colour) l

  one-in-turn : (c : Board) (l : List ForcedPosition) (e : ForcedPosition) → ListedInTurn c l
      → lists (shape_of j) j.tiles (laid_all j c (pieces_of l)).pieces (entry_in j e.coordinates) e.colour ≡ true → ListedInTurn c (l ++ (e ∷ []))
  unfolding laid_all fold
  one-in-turn c [] e h on = (on, tt)
  one-in-turn c (x ∷ l) e (first, h) on = (first, one-in-turn (laid (shape_of j) j.tiles c (entry_in j x.coordinates) x.colour) l e h on)

module _ (j : Panel) (count : ℕ) (bounds : Option BoundingBox) (b : Board) (place : World) where
  abbrev at : ℕ → Run
  at n = run_out j count bounds b place n

  -- ---- by the rule of lay alone

  pub run-board : (n : ℕ) → (at n).board ≡ laid_all j b (pieces_of (at n).lain)
  unfolding laid_all fold
  run-board =
      by-run j count bounds b place (λ s. s.board ≡ laid_all j b (pieces_of s.lain)) refl (λ n e rest h q drop. h)
      (λ n e rest h q still l full a.
      ap (λ (c : Board). laid (shape_of j) j.tiles c (entry_in j e.coordinates) e.colour) h
      ∙ sym (fold-last _ b (pieces_of (at n).lain) (piece_of e))
      ∙ ap (laid_all j b) (sym (map-append piece_of (at n).lain (e ∷ []))))

  pub run-listed : (n : ℕ) → ListedInTurn j b (at n).lain
  run-listed =
      by-run j count bounds b place (λ s. ListedInTurn j b s.lain) tt (λ n e rest h q drop. h)
      (λ n e rest h q still l full a.
      one-in-turn j b (at n).lain e h
      (subst (λ (c : Board). lists (shape_of j) j.tiles c.pieces (entry_in j e.coordinates) e.colour ≡ true) (run-board n)
      (still-listed j count (at n).board e still)))

  -- ---- a run never opens a choice

  run-adds-none : (n k t : ℕ) → lists (shape_of j) j.tiles (at n).board.pieces k t ≡ true → lists (shape_of j) j.tiles b.pieces k t ≡ true
  unfolding laid
  run-adds-none =
      by-run j count bounds b place
      (λ s. (k t : ℕ) → lists (shape_of j) j.tiles s.board.pieces k t ≡ true → lists (shape_of j) j.tiles b.pieces k t ≡ true)
      (λ k t on. on) (λ n e rest h q drop. h)
      (λ n e rest h q still l full a k t on.
      h k t (lists-fewer (shape_of j) j.tiles (under-lay (at n).board.pieces _ _ (still-off j count (at n).board e still)) k t on))

  pub forced-adds-none : (budget k t : ℕ) → lists (shape_of j) j.tiles (after_run j count b place bounds budget).pieces k t ≡ true
      → lists (shape_of j) j.tiles b.pieces k t ≡ true
  unfolding after_run
  forced-adds-none budget k t =
      either (λ (c : Board). lists (shape_of j) j.tiles c.pieces k t ≡ true → lists (shape_of j) j.tiles b.pieces k t ≡ true)
      (refusal (run_checks j count b place bounds budget)) (λ e. run-adds-none budget k t) (λ on. on)

  -- ---- and raises no count

  module _ (sound : Sound (shape_of j)) (said : b.counts ≡ counts_of (shape_of j) j.tiles b.pieces) where
    -- the counts of a board are what its pieces say, and none is above what it was at first
    abbrev NoneRaised : Board → Type 0
    NoneRaised c = (c.counts ≡ counts_of (shape_of j) j.tiles c.pieces) × ((k : ℕ) → get_or c.counts k 0 ≤ get_or b.counts k 0)

    lay-raises-none : (c : Board) (e : ForcedPosition) → still_forced j count c e ≡ true → NoneRaised c
        → NoneRaised (laid (shape_of j) j.tiles c (entry_in j e.coordinates) e.colour)
    unfolding laid
    lay-raises-none c e still (is, low) =
        let i : ℕ = entry_in j e.coordinates in
        let q : List ℕ = set c.pieces i (e.colour + 1) in (
          ap (recounted (shape_of j) j.tiles q i) is ∙ recount (shape_of j) sound j.tiles c.pieces i (e.colour + 1),
          (λ k.
              le_trans
              (subst (λ (l : List ℕ). get_or (recounted (shape_of j) j.tiles q i l) k 0 ≤ get_or l k 0) (sym is)
              (recount-less (shape_of j) j.tiles c.pieces q i k (under-lay _ _ _ (still-off j count c e still))))
              (low k)),
        )

    run-raises-none : (n : ℕ) → NoneRaised (at n).board
    run-raises-none =
        by-run j count bounds b place (λ s. NoneRaised s.board) (said, (λ k. le_refl _)) (λ n e rest h q drop. h)
        (λ n e rest h q still l full a. lay-raises-none (at n).board e still h)

    pub forced-raises-none : (budget k : ℕ) → get_or (after_run j count b place bounds budget).counts k 0 ≤ get_or b.counts k 0
    unfolding after_run
    forced-raises-none budget k =
        either (λ (c : Board). get_or c.counts k 0 ≤ get_or b.counts k 0)
        (refusal (run_checks j count b place bounds budget)) (λ e. (run-raises-none budget).1 k) (le_refl _)

-- ---- as calls

module _ (j : Panel) (sound : Sound (shape_of j)) (count : ℕ) (bounds : Option BoundingBox) (p : List ℕ) (good : Good j p) (place : World) (budget : ℕ)
    (accepted : refusal (run_checks j count (of_pieces j p) place bounds budget) ≡ 0) where
  abbrev moment : ℕ → Run
  moment n = run_out j count bounds (of_pieces j p) place n

  -- the lays of a run so far are each taken, and leave its board
  record Follows (s : Run) : Type 0 where
    left : List ℕ
    is : s.board ≡ of_pieces j left
    fine : Good j left
    stored : pieces_stored left count ≡ true
    takes : Lays j count p (pieces_of s.lain) left

  entered : Entered j count p
  unfolding board_of
  entered = enters j count (of_pieces j p) place bounds budget accepted

  -- one lay more
  follows-lay : (n : ℕ) (e : ForcedPosition) (rest : List ForcedPosition) → Follows (moment n) → (moment n).queue ≡ e ∷ rest
      → still_forced j count (moment n).board e ≡ true → (l : List ForcedPosition) (full : Bool) → Follows (laying_with j count bounds (moment n) e l full)
  unfolding board_of
  follows-lay n e rest h q still l full =
      let k : ℕ = entry_in j e.coordinates in
      let c : Call = lay count e.coordinates e.colour in
      let off : laid_on h.left k ≡ false =
      ap (λ (d : Board). laid_on d.pieces k) (sym h.is) ∙ still-off j count (moment n).board e still in
      let t : Taken j h.left c =
      record {
        panel = entered.panel;
        named = entered.named;
        stored = h.stored;
        on = (next-kept j count (moment n) (keeps j count bounds (of_pieces j p) place entered n) q).0.0.on;
        own = (still-in j count (moment n).board e still, not-is-true _ off);
      } in
      record {
        left = puts j h.left c;
        is = ap (λ (d : Board). laid (shape_of j) j.tiles d k e.colour) h.is ∙ changed-is j sound h.left c h.fine t;
        fine = puts-good j h.left c h.fine t;
        stored = puts-stored j h.left c t;
        takes =
            subst (λ (xs : List Piece). Lays j count p xs (puts j h.left c)) (sym (map-append piece_of (moment n).lain (e ∷ [])))
            (then-lays j count p (pieces_of (moment n).lain) h.left (piece_of e ∷ []) (puts j h.left c) h.takes (t, refl));
      }

  follows : (n : ℕ) → Follows (moment n)
  follows =
      by-run j count bounds (of_pieces j p) place Follows
      (record { left = p; is = refl; fine = good; stored = entered.stored; takes = refl })
      (λ n e rest h q drop. record { left = h.left; is = h.is; fine = h.fine; stored = h.stored; takes = h.takes })
      (λ n e rest h q still l full a. follows-lay n e rest h q still l full)

  -- "Demand 3 counts each lay made here as a lay"
  pub forced-lays : (n : ℕ) → let acts = lays_of count (moment n).lain in
      (accepted_in (with_pieces j p) acts ≡ acts) × (run (with_pieces j p) acts ≡ record { panel = j; board = (moment n).board })
  forced-lays n =
      let f = follows n in
      let all = as-run j count sound p (pieces_of (moment n).lain) f.left good f.takes in
      subst (λ (acts : List Act). (accepted_in (with_pieces j p) acts ≡ acts) × (run (with_pieces j p) acts ≡ record { panel = j; board = (moment n).board }))
      (as-lays count (moment n).lain)
      (all.0, all.1 ∙ ap (λ (d : Board). record { panel = j; board = d }) (sym f.is))

  -- and the board left is what its pieces say
  pub forced-said : (n : ℕ) → ((moment n).board ≡ of_pieces j (moment n).board.pieces) × Good j (moment n).board.pieces
  unfolding board_of
  forced-said n =
      let f = follows n in
      subst (λ (d : Board). (d ≡ of_pieces j d.pieces) × Good j d.pieces) (sym f.is) (refl, f.fine)

-- ---- boards that are not what their pieces say

-- three cells in a row, one tile of one colour, and lent weights that stand at the largest
abbrev row : Panel
row = panel 1 3 (replicate 9 1) (record { 0 = pos 0; 1 = pos 0 })

abbrev heavy : Board
heavy = board (replicate 3 1) (replicate 3 4000000000) (replicate 3 1)

abbrev cell_at : ℕ → ForcedPosition
cell_at k = record { coordinates = record { 0 = pos 0; 1 = pos k }; colour = 1 }

-- the run lays all three; as calls, the first of its lays is accepted, and the second refused
pub heavy-goes-on : (refusal (run_checks row 1 heavy corner None 3) ≡ 0)
    × ((run_out row 1 None heavy corner 3).lain ≡ cell_at 1 ∷ cell_at 0 ∷ cell_at 2 ∷ [])
    × ((after_run row 1 heavy corner None 3).pieces ≡ 2 ∷ 2 ∷ 2 ∷ [])
    × (refusal (lay_checks row 1 heavy (cell_at 1).coordinates 1) ≡ 0)
    × (refusal (lay_checks row 1 (after_lay row 1 heavy (cell_at 1).coordinates 1) (cell_at 0).coordinates 1) ≡ 4)
unfolding fold refusal within within_z every some tab those board_sides has_length tile_number_fits whole_tiles colour_count none_above pieces_stored on_wall offset_fits on_board after_lay laid raised recounted left_after allows has_fitting fits_tile agrees flat entry_or_past cell_of colours_of forces_one is_forced forced_there forced_round neighbour admits bounds_fit same_place is_queued with_position with_positions still_forced queueing taking stepped begun run_out after_run
heavy-goes-on = (refl, refl, refl, refl, refl)
