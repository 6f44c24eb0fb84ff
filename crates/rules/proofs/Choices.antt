-- Document 02, request 9: laying never opens a choice. Over the functions that the contracts of lay and lift cite, for any board and any cell;
-- a refused call changes nothing, so that nothing is asked of the call.
--     lay-adds-none, lift-removes-none    a lay never adds a colour to a cell's list, a lift never removes one
--     lay-raises-none, lift-lowers-none   a lay never raises a count, a lift never lowers one, where the counts before are what the pieces say
--     lay-own         after an accepted lay the cell's own list is the colour laid, if it was listed, and else empty
--     given_back      an accepted lift of the piece just laid gives back every list
--     rises-without, falls-without   boards of the fewest cells, tiles and pieces that show what the condition on the counts is for
-- What never grows, shrinks, rises or falls follows from one fact, that fewer tiles fit where more pieces lie (Fewer). Assumes nothing.
use Prim.Native.Nat.{ℕ, ◌+◌, ◌-◌, ◌<◌, ◌≤◌}
use mathlib.Core.Path.{◌≡◌, refl, sym, ◌∙◌, ap, subst}
use mathlib.Core.Bool.{Bool, true, false, ◌&&◌}
use mathlib.Core.List.{List, [], ◌∷◌}
use native.Mathlib.Nat.{le_refl}
use native.Mathlib.Omega.{arith}
use lib.Dec.{ltb, eqb}
use lib.IntN.{pos}
use lib.ListN.{length, get_or, replicate}
use lib.Seq.{get_or-set_same, set-set}
use borrow.Author.Tests.{lt-ltb, eqb-true, eq-eqb, not-true}
use Rattle.base.specs.Counting.{every, tally, within}
use Rattle.base.specs.Tables.{tab}
use Rattle.base.specs.Refusal.{refusal}
use Rattle.base.specs.Whole.{within_z}
use Rattle.base.proofs.Bools.{same_test, and_left, and_right, and_both}
use Rattle.base.proofs.Chain.{all_pass, either, has_new}
use Rattle.base.proofs.Numbers.{within_low}
use Rattle.rules.specs.Bounds.{bare}
use Rattle.rules.specs.Tests.{board_sides, has_length, tile_number_fits, whole_tiles, colour_count, none_above, pieces_stored, on_wall, offset_fits, on_board}
use Rattle.rules.specs.Places.{cell_of}
use Rattle.rules.specs.Grid.{entry_or_past, flat, laid_on}
use Rattle.rules.specs.Fit.{agrees, fits_tile, fit_count, lists}
use Rattle.rules.specs.Board.{Panel, Board, shape_of, entry_in, counts_of, recounted, laid, lifted, lay_checks, lift_checks, after_lay, after_lift}
use Rattle.rules.specs.Promises.{board, panel}
use Rattle.rules.specs.declared.World.{World}
use Rattle.rules.proofs.Fewer.{Under, lists-fewer, under_same, under-lay, under-lift, recount-less, recount-more, Seen, own-colour, own-stays}

-- ---- the calls, on any board

module _ (j : Panel) (count : ℕ) (b : Board) (place : World) where
  abbrev here : ℕ
  here = entry_in j place

  -- the lists of the panel's cells
  abbrev listed : Board → ℕ → ℕ → Bool
  listed c k t = lists (shape_of j) j.tiles c.pieces k t

  -- an accepted lay finds its cell bare
  pub lay-off : (colour : ℕ) → refusal (lay_checks j count b place colour) ≡ 0 → laid_on b.pieces here ≡ false
  lay-off colour e = let h = all_pass (lay_checks j count b place colour) refl e in not-true _ (search)

  pub lay-under : (colour : ℕ) → Under b.pieces (after_lay j count b place colour).pieces
  unfolding after_lay laid
  lay-under colour =
      either (λ (c : Board). Under b.pieces c.pieces) (refusal (lay_checks j count b place colour))
      (λ e. under-lay _ _ _ (lay-off colour e))
      (under_same b.pieces)

  pub lift-under : Under (after_lift j count b place).pieces b.pieces
  unfolding after_lift lifted
  lift-under =
      either (λ (c : Board). Under c.pieces b.pieces) (refusal (lift_checks j count b place)) (λ e. under-lift _ _) (under_same b.pieces)

  -- "an accepted lay never adds a colour to any cell's list, its own included"
  pub lay-adds-none : (colour k t : ℕ) → listed (after_lay j count b place colour) k t ≡ true → listed b k t ≡ true
  lay-adds-none colour = lists-fewer (shape_of j) j.tiles (lay-under colour)

  -- "an accepted lift never removes one"
  pub lift-removes-none : (k t : ℕ) → listed b k t ≡ true → listed (after_lift j count b place) k t ≡ true
  lift-removes-none = lists-fewer (shape_of j) j.tiles lift-under

  -- "Where the counts before the call are those of demand 3, a lay never raises a count and a lift never lowers one"
  module _ (said : b.counts ≡ counts_of (shape_of j) j.tiles b.pieces) (s : ℕ) where
    pub lay-raises-none : (colour : ℕ) → get_or (after_lay j count b place colour).counts s 0 ≤ get_or b.counts s 0
    unfolding after_lay laid
    lay-raises-none colour =
        either (λ (c : Board). get_or c.counts s 0 ≤ get_or b.counts s 0) (refusal (lay_checks j count b place colour))
        (λ e.
        let q : List ℕ = (laid (shape_of j) j.tiles b here colour).pieces in
        subst (λ (l : List ℕ). get_or (recounted (shape_of j) j.tiles q here l) s 0 ≤ get_or l s 0) (sym said)
        (recount-less (shape_of j) j.tiles b.pieces q here s (under-lay _ _ _ (lay-off colour e))))
        (le_refl (get_or b.counts s 0))

    pub lift-lowers-none : get_or b.counts s 0 ≤ get_or (after_lift j count b place).counts s 0
    unfolding after_lift lifted
    lift-lowers-none =
        either (λ (c : Board). get_or b.counts s 0 ≤ get_or c.counts s 0) (refusal (lift_checks j count b place))
        (λ e.
        let q : List ℕ = (lifted (shape_of j) j.tiles b here).pieces in
        subst (λ (l : List ℕ). get_or l s 0 ≤ get_or (recounted (shape_of j) j.tiles q here l) s 0) (sym said)
        (recount-more (shape_of j) j.tiles b.pieces q here s (under-lift _ _)))
        (le_refl (get_or b.counts s 0))

  module _ (colour : ℕ) (accepted : refusal (lay_checks j count b place colour) ≡ 0) where
    -- the board after it
    laid-now : after_lay j count b place colour ≡ laid (shape_of j) j.tiles b here colour
    unfolding after_lay
    laid-now = has_new _ _ _ accepted

    -- of the cell's own list the colour that was laid is left, if it was there, and nothing else
    pub lay-own : here < length b.pieces → Seen (shape_of j) here → (t : ℕ) → listed (after_lay j count b place colour) here t ≡ (eqb t colour && listed b here t)
    unfolding laid
    lay-own k< seen t =
        ap (λ (c : Board). listed c here t) laid-now
        ∙ same_test (listed (laid (shape_of j) j.tiles b here colour) here t) (eqb t colour && listed b here t)
        (λ e.
        and_both _ _
        (eq-eqb t colour (own-colour (shape_of j) j.tiles q here seen t on e ∙ ap (λ (x : ℕ). x - bare) stored ∙ omega arith))
        (lists-fewer (shape_of j) j.tiles (under-lay _ _ _ (lay-off colour accepted)) here t e))
        (λ e.
        let same : t ≡ colour = eqb-true t colour (and_left _ _ e) in
        subst (λ (u : ℕ). lists (shape_of j) j.tiles q here u ≡ true) (sym same)
        (own-stays (shape_of j) j.tiles b.pieces here seen colour k<
        (subst (λ (u : ℕ). listed b here u ≡ true) same (and_right (eqb t colour) (listed b here t) e))))
      where
        q : List ℕ
        q = (laid (shape_of j) j.tiles b here colour).pieces

        stored : get_or q here 0 ≡ colour + 1
        stored = get_or-set_same b.pieces here (colour + 1) 0 k<

        some : 1 ≤ colour
        some = let h = all_pass (lay_checks j count b place colour) refl accepted in within_low 1 count colour (search)

        on : laid_on q here ≡ true
        on = ap (λ (x : ℕ). ltb 1 x) stored ∙ lt-ltb 1 (colour + 1) (omega (arith, some))

    -- lifted at once, the piece leaves every list as it was
    pub given_back : (n : ℕ) → refusal (lift_checks j n (after_lay j count b place colour) place) ≡ 0 → (k t : ℕ)
        → listed (after_lift j n (after_lay j count b place colour) place) k t ≡ listed b k t
    unfolding laid lifted after_lift
    given_back n lifts k t =
        ap (λ (c : Board). listed c k t) (has_new _ _ _ lifts ∙ ap (λ (c : Board). lifted (shape_of j) j.tiles c here) laid-now)
        ∙ ap (λ (l : List ℕ). lists (shape_of j) j.tiles l k t) (set-set b.pieces here (colour + 1) bare)
        ∙ same_test _ _
        (lists-fewer (shape_of j) j.tiles (under-lay b.pieces here bare (lay-off colour accepted)) k t)
        (lists-fewer (shape_of j) j.tiles (under-lift b.pieces here) k t)

-- ---- what the condition on the counts is for

-- One tile of colour 1. A count changes only where a region lies inside the grid, so three rows and columns are the fewest
abbrev pub plain : Panel
plain = panel 3 3 (replicate 9 1) (record { 0 = pos 0; 1 = pos 0 })

abbrev pub corner : World
corner = record { 0 = pos 0; 1 = pos 0 }

-- a bare board whose first count is 0 where 1 is right; all else is what the pieces say
abbrev uncounted : Board
uncounted = board (replicate 9 1) (replicate 9 1) (0 ∷ replicate 8 1)

-- a lay of colour 1 recounts, and the count rises from 0 to 1
pub rises-without : (refusal (lay_checks plain 1 uncounted corner 1) ≡ 0) × (get_or uncounted.counts 0 0 ≡ 0) × (get_or (after_lay plain 1 uncounted corner 1).counts 0 0 ≡ 1)
unfolding after_lay laid recounted fit_count fits_tile agrees tally every tab flat entry_or_past cell_of refusal within within_z board_sides has_length whole_tiles colour_count none_above pieces_stored on_wall offset_fits on_board tile_number_fits
rises-without = (refl, refl, refl)

-- two pieces that the tile does not fit, and a first count of 1 where 0 is right. With one piece there is no such board: lifted, it leaves
-- every region to all tiles, and no count passes their number
abbrev miscounted : Board
miscounted = board (3 ∷ 3 ∷ replicate 7 1) (7 ∷ 7 ∷ 5 ∷ 7 ∷ 7 ∷ 5 ∷ 3 ∷ 3 ∷ 3 ∷ []) (replicate 9 1)

-- a lift of one of them recounts, and the count falls from 1 to 0
pub falls-without : (refusal (lift_checks plain 2 miscounted corner) ≡ 0) × (get_or miscounted.counts 0 0 ≡ 1) × (get_or (after_lift plain 2 miscounted corner).counts 0 0 ≡ 0)
unfolding after_lift lifted recounted fit_count fits_tile agrees tally every tab flat entry_or_past cell_of refusal within within_z board_sides has_length whole_tiles colour_count none_above pieces_stored on_wall offset_fits on_board tile_number_fits
falls-without = (refl, refl, refl)
