-- Document 02, request 9, over runs and at places of the wall: laying never opens a choice.
--     never-grows      while no lift is accepted, no list gains a colour: from any board, widenings and refused calls included
--     never-shrinks    while only lifts are accepted, no list loses one
--     never-rises, never-falls    the same of the counts, from any board whose counts are what its pieces say
--     run-counted, widened-counted      as they are on any board that a run from a fresh one leaves, and that a widening leaves
--     flat-never-grows, flat-never-rises, flat-never-falls    for flat boards, with nothing asked of the grid
--     flat-own         after an accepted lay, the cell's own list is the colour laid, if it was listed, and else empty
--     flat_keeps       a widening keeps the list of a place, if it adds no row before or two rows lie before the place, and likewise for columns
--     can-empty, can-lower     a widening that empties a list, and a lay that lowers a count
-- Act by act: a lay and a lift by the facts of any shape (the rules' Choices), a widening by what carries a grid into a larger one (Kept).
-- Assumes nothing.
use Prim.Native.Nat.{ℕ, zero, suc, ◌+◌, ◌*◌, ◌<◌, ◌≤◌}
use mathlib.Core.Path.{◌≡◌, refl, sym, ◌∙◌, ap, subst}
use mathlib.Core.Bool.{Bool, true, false, ◌&&◌}
use mathlib.Core.Logic.{◌⊎◌}
use mathlib.Core.List.{List, [], ◌∷◌}
use native.Mathlib.Nat.{le_refl, le_trans}
use native.Mathlib.Omega.{arith}
use lib.Dec.{eqb}
use lib.IntN.{pos}
use lib.ListN.{length, get_or, set, replicate}
use borrow.Author.Tests.{eqb-true, eqb-false}
use Rattle.base.specs.Counting.{every, some, tally, within}
use Rattle.base.specs.Tables.{tab, those, fold}
use Rattle.base.specs.Refusal.{refusal, unless_refused}
use Rattle.base.specs.Whole.{within_z}
use Rattle.base.proofs.Bools.{never, by-test}
use Rattle.base.proofs.Chain.{all_pass, either, has_new, kept-old}
use Rattle.rules.specs.Tests.{board_sides, has_length, tile_number_fits, whole_tiles, colour_count, none_above, pieces_stored, on_wall, offset_fits, on_board}
use Rattle.rules.specs.Bounds.{bare}
use Rattle.rules.specs.Sets.{colours_of}
use Rattle.rules.specs.Grid.{Kind, entry_or_past, flat}
use Rattle.rules.specs.Places.{cell_of, extension_by, copied_cell, copied}
use Rattle.rules.specs.Fit.{agrees, fits_tile, fit_count, has_fitting, allows, left_after}
use Rattle.rules.specs.Board.{Panel, shape_of, entry_in, Board, counts_of, board_of, recounted, laid, lifted, fresh_board, lay_checks, after_lay, after_lift}
use Rattle.rules.specs.Widening.{wider, widened_pieces, widened, widen_checks, after_widen}
use Rattle.rules.specs.Promises.{board, panel}
use Rattle.rules.specs.declared.World.{World}
use Rattle.rules.specs.declared.Offset.{Offset}
use Rattle.rules.specs.declared.Pads.{Pads}
use Rattle.rules.proofs.Choices.{lay-adds-none, lift-removes-none, lay-raises-none, lift-lowers-none, lay-own, plain, corner}
use Rattle.stand.specs.Runs.{State, start, lay, lift, Act, call, widen, refusal_in, acted, run, accepted_in}
use Rattle.stand.specs.Choices.{on_list, count_at, Counted, is_lift, AllLifts}
use Rattle.stand.proofs.Shared.{Sound, SoundKind, recount}
use Rattle.stand.proofs.Widened.{GridsEmbed, GridsKeepWindows}
use Rattle.stand.proofs.Flat.{flat_sound, flat-windows, flat-seen, flat-kept}
use Rattle.stand.proofs.Walls.{lies, cell_in, entry_row, entry-col, lies-wider}
use Rattle.stand.proofs.Kept.{widen-adds-none, widen_keeps, widen-raises-none}
use Rattle.stand.proofs.Calls.{accepts}
use Rattle.stand.proofs.Plans.{Asked, acted-by}
use Rattle.stand.proofs.Stands.{WhereWidened, Widenable, asked, all-may, flat-may, says_all}

-- ---- one act

-- a refused act leaves panel and board
same-state : (s : State) (a : Act) → (refusal_in s a ≡ 0 → ⊥) → acted s a ≡ s
same-state s a refuses = acted-by s a ∙ kept-old (refusal_in s a) _ s refuses

-- an accepted widening leaves the wider panel
wider-state : (s : State) (count : ℕ) (p : Pads) (lent : Board) → refusal_in s (widen count p lent) ≡ 0
    → acted s (widen count p lent) ≡ record { panel = wider s.panel p; board = widened s.panel p s.board }
wider-state s count p lent accepted = acted-by s (widen count p lent) ∙ has_new (refusal_in s (widen count p lent)) _ s accepted

-- and its pieces had the panel's length
lengths : (j : Panel) (count : ℕ) (b : Board) (p : Pads) (lent : Board) → refusal (widen_checks j count b p lent) ≡ 0 → length b.pieces ≡ j.rows * j.cols
unfolding has_length
lengths j count b p lent e = let h = all_pass (widen_checks j count b p lent) refl e in eqb-true _ _ (search)

-- the kind of grid stays, and a place that lies on the panel
kind-still : (s : State) (a : Act) → (acted s a).panel.kind ≡ s.panel.kind
kind-still s (call c) = refl
kind-still s (widen count p lent) = either (λ (z : State). z.panel.kind ≡ s.panel.kind) (refusal_in s (widen count p lent)) (λ e. refl) refl

lies-still : (s : State) (a : Act) (v : World) → lies s.panel v ≡ true → lies (acted s a).panel v ≡ true
lies-still s (call c) v on = on
lies-still s (widen count p lent) v on =
    either (λ (z : State). lies z.panel v ≡ true) (refusal_in s (widen count p lent)) (λ e. lies-wider s.panel p v on) on

-- an act that is no accepted lift adds no colour
act-adds-none : (s : State) (a : Act) → Asked (GridsKeepWindows s.panel.kind) a → (refusal_in s a ≡ 0 → is_lift a ≡ false) → (v : World) → lies s.panel v ≡ true → (t : ℕ)
    → on_list (acted s a) v t ≡ true → on_list s v t ≡ true
act-adds-none s (call (lay count w colour)) ask none v on t e = lay-adds-none s.panel count s.board w colour (entry_in s.panel v) t e
act-adds-none s (call (lift count w)) ask none v on t e =
    sym (ap (λ (z : State). on_list z v t) (same-state s (call (lift count w)) (λ z. never true refl (none z)))) ∙ e
act-adds-none s (widen count p lent) shown none v on t e =
    by-test (eqb (refusal_in s (widen count p lent)) 0)
    (λ z.
    let accepted = eqb-true _ 0 z in
    widen-adds-none s.panel p s.board (lengths s.panel count s.board p lent accepted) v on shown t
    (sym (ap (λ (x : State). on_list x v t) (wider-state s count p lent accepted)) ∙ e))
    (λ z. sym (ap (λ (x : State). on_list x v t) (same-state s (widen count p lent) (eqb-false _ 0 z))) ∙ e)

-- an act that is no accepted lay or widening removes none
act-removes-none : (s : State) (a : Act) → (refusal_in s a ≡ 0 → is_lift a ≡ true) → (v : World) (t : ℕ) → on_list s v t ≡ true → on_list (acted s a) v t ≡ true
act-removes-none s (call (lay count w colour)) all v t e =
    ap (λ (z : State). on_list z v t) (same-state s (call (lay count w colour)) (λ z. never false (all z) refl)) ∙ e
act-removes-none s (call (lift count w)) all v t e = lift-removes-none s.panel count s.board w (entry_in s.panel v) t e
act-removes-none s (widen count p lent) all v t e =
    ap (λ (z : State). on_list z v t) (same-state s (widen count p lent) (λ z. never false (all z) refl)) ∙ e

-- ---- runs

-- what is known of the accepted acts of a run: its first one, and those of the rest
first_of : (n : ℕ) (are : Bool) (a : Act) (later : List Act) → AllLifts are (unless_refused n (a ∷ later) later) → (n ≡ 0 → is_lift a ≡ are) × AllLifts are later
first_of zero are a later h = ((λ e. h.0), h.1)
first_of (suc n) are a later h = ((λ (e : ◌≡◌ {A = ℕ} (suc n) 0). absurd (omega arith)), h)

-- "while only lays follow, a list never grows": and with widenings, for places that lie on the panel
pub never-grows : (s : State) (acts : List Act) → WhereWidened (GridsKeepWindows s.panel.kind) acts → AllLifts false (accepted_in s acts)
    → (v : World) → lies s.panel v ≡ true → (t : ℕ) → on_list (run s acts) v t ≡ true → on_list s v t ≡ true
unfolding run fold accepted_in
never-grows s [] may none v on t e = e
never-grows s (a ∷ acts) may none v on t e =
    let h = asked (GridsKeepWindows s.panel.kind) a acts may in
    let n = first_of (refusal_in s a) false a (accepted_in (acted s a) acts) none in
    act-adds-none s a h.0 n.0 v on t
    (never-grows (acted s a) acts (subst (λ (k : Kind). WhereWidened (GridsKeepWindows k) acts) (sym (kind-still s a)) h.1) n.1 v (lies-still s a v on) t e)

pub never-shrinks : (s : State) (acts : List Act) → AllLifts true (accepted_in s acts) → (v : World) (t : ℕ) → on_list s v t ≡ true → on_list (run s acts) v t ≡ true
unfolding run fold accepted_in
never-shrinks s [] all v t e = e
never-shrinks s (a ∷ acts) all v t e =
    let n = first_of (refusal_in s a) true a (accepted_in (acted s a) acts) all in
    never-shrinks (acted s a) acts n.1 v t (act-removes-none s a n.0 v t e)

-- ---- counts, where they are what the pieces say

recount-said : (j : Panel) (b : Board) (k v : ℕ) → Sound (shape_of j) → b.counts ≡ counts_of (shape_of j) j.tiles b.pieces
    → recounted (shape_of j) j.tiles (set b.pieces k v) k b.counts ≡ counts_of (shape_of j) j.tiles (set b.pieces k v)
recount-said j b k v sound said = ap (recounted (shape_of j) j.tiles (set b.pieces k v) k) said ∙ recount (shape_of j) sound j.tiles b.pieces k v

-- an accepted widening works all counts out, whatever they were
pub widened-counted : (s : State) (count : ℕ) (p : Pads) (lent : Board) → refusal_in s (widen count p lent) ≡ 0 → Counted (acted s (widen count p lent))
unfolding widened
widened-counted s count p lent accepted = subst Counted (sym (wider-state s count p lent accepted)) refl

-- an act leaves such counts where it finds them
counted-still : (s : State) (a : Act) → SoundKind s.panel.kind → Counted s → Counted (acted s a)
unfolding after_lay after_lift laid lifted
counted-still s (call (lay count w colour)) sound said =
    either (λ (c : Board). c.counts ≡ counts_of (shape_of s.panel) s.panel.tiles c.pieces) (refusal_in s (call (lay count w colour)))
    (λ e. recount-said s.panel s.board (entry_in s.panel w) (colour + 1) (sound _ _) said)
    said
counted-still s (call (lift count w)) sound said =
    either (λ (c : Board). c.counts ≡ counts_of (shape_of s.panel) s.panel.tiles c.pieces) (refusal_in s (call (lift count w)))
    (λ e. recount-said s.panel s.board (entry_in s.panel w) bare (sound _ _) said)
    said
counted-still s (widen count p lent) sound said =
    by-test (eqb (refusal_in s (widen count p lent)) 0)
    (λ z. widened-counted s count p lent (eqb-true _ 0 z))
    (λ z. subst Counted (sym (same-state s (widen count p lent) (eqb-false _ 0 z))) said)

-- one state is one count
no_more : {x s : State} (v : World) → x ≡ s → count_at x v ≤ count_at s v
no_more {s = s} v e = subst (λ (z : State). count_at z v ≤ count_at s v) (sym e) (le_refl (count_at s v))

-- an act that is no accepted lift raises no count
act-raises-none : (s : State) (a : Act) → Counted s → Asked (GridsEmbed s.panel.kind) a → (refusal_in s a ≡ 0 → is_lift a ≡ false) → (v : World)
    → lies s.panel v ≡ true → count_at (acted s a) v ≤ count_at s v
act-raises-none s (call (lay count w colour)) said ask none v on = lay-raises-none s.panel count s.board w said (entry_in s.panel v) colour
act-raises-none s (call (lift count w)) said ask none v on = no_more v (same-state s (call (lift count w)) (λ z. never true refl (none z)))
act-raises-none s (widen count p lent) said grids none v on =
    by-test (eqb (refusal_in s (widen count p lent)) 0)
    (λ z.
    let accepted = eqb-true _ 0 z in
    subst (λ (x : State). count_at x v ≤ count_at s v) (sym (wider-state s count p lent accepted))
    (subst (λ (l : List ℕ). get_or (widened s.panel p s.board).counts (entry_in (wider s.panel p) v) 0 ≤ get_or l (entry_in s.panel v) 0) (sym said)
    (widen-raises-none s.panel p s.board (lengths s.panel count s.board p lent accepted) v on grids)))
    (λ z. no_more v (same-state s (widen count p lent) (eqb-false _ 0 z)))

-- and one that is no accepted lay or widening lowers none
act-lowers-none : (s : State) (a : Act) → Counted s → (refusal_in s a ≡ 0 → is_lift a ≡ true) → (v : World) → count_at s v ≤ count_at (acted s a) v
act-lowers-none s (call (lay count w colour)) said all v = no_more v (sym (same-state s (call (lay count w colour)) (λ z. never false (all z) refl)))
act-lowers-none s (call (lift count w)) said all v = lift-lowers-none s.panel count s.board w said (entry_in s.panel v)
act-lowers-none s (widen count p lent) said all v = no_more v (sym (same-state s (widen count p lent) (λ z. never false (all z) refl)))

-- "Where the counts before the call are those of demand 3": so they are after it, and the next call finds them so
pub never-rises : (s : State) (acts : List Act) → SoundKind s.panel.kind → Widenable s.panel.kind acts → Counted s → AllLifts false (accepted_in s acts)
    → (v : World) → lies s.panel v ≡ true → count_at (run s acts) v ≤ count_at s v
unfolding run fold accepted_in
never-rises s [] sound may said none v on = le_refl _
never-rises s (a ∷ acts) sound may said none v on =
    let h = asked (GridsEmbed s.panel.kind) a acts may in
    let n = first_of (refusal_in s a) false a (accepted_in (acted s a) acts) none in
    le_trans
    (never-rises (acted s a) acts
    (subst SoundKind (sym (kind-still s a)) sound)
    (subst (λ (k : Kind). Widenable k acts) (sym (kind-still s a)) h.1)
    (counted-still s a sound said) n.1 v (lies-still s a v on))
    (act-raises-none s a said h.0 n.0 v on)

pub never-falls : (s : State) (acts : List Act) → SoundKind s.panel.kind → Counted s → AllLifts true (accepted_in s acts) → (v : World)
    → count_at s v ≤ count_at (run s acts) v
unfolding run fold accepted_in
never-falls s [] sound said all v = le_refl _
never-falls s (a ∷ acts) sound said all v =
    let n = first_of (refusal_in s a) true a (accepted_in (acted s a) acts) all in
    le_trans
    (act-lowers-none s a said n.0 v)
    (never-falls (acted s a) acts (subst SoundKind (sym (kind-still s a)) sound) (counted-still s a sound said) n.1 v)

-- a board that a run from a fresh one leaves has such counts
pub run-counted : (j : Panel) → SoundKind j.kind → (acts : List Act) → Widenable j.kind acts → Counted (run (start j) acts)
unfolding board_of
run-counted j sound acts may = ap (λ (b : Board). b.counts) (says_all j sound acts may)

-- ---- flat boards, with nothing asked of the grid

module _ (s : State) (level : s.panel.kind ≡ flat) where
  pub flat-never-grows : (acts : List Act) → AllLifts false (accepted_in s acts) → (v : World) → lies s.panel v ≡ true → (t : ℕ)
      → on_list (run s acts) v t ≡ true → on_list s v t ≡ true
  flat-never-grows acts = never-grows s acts (all-may _ (subst GridsKeepWindows (sym level) flat-windows) acts)

  pub flat-never-rises : (acts : List Act) → Counted s → AllLifts false (accepted_in s acts) → (v : World) → lies s.panel v ≡ true
      → count_at (run s acts) v ≤ count_at s v
  flat-never-rises acts = never-rises s acts (subst SoundKind (sym level) flat_sound) (subst (λ (k : Kind). Widenable k acts) (sym level) (flat-may acts))

  pub flat-never-falls : (acts : List Act) → Counted s → AllLifts true (accepted_in s acts) → (v : World) → count_at s v ≤ count_at (run s acts) v
  flat-never-falls acts = never-falls s acts (subst SoundKind (sym level) flat_sound)

-- the panels of the calls, with any board on them
module _ (rows cols : ℕ) (tiles : List ℕ) (offset : Offset) (b : Board) where
  abbrev this : Panel
  this = panel rows cols tiles offset

  abbrev lent-board : State
  lent-board = record { panel = this; board = b }

  -- what is left of a cell's own list after a lay
  pub flat-own : (count : ℕ) (place : World) (colour : ℕ) → refusal (lay_checks this count b place colour) ≡ 0 → (t : ℕ)
      → on_list (acted lent-board (call (lay count place colour))) place t ≡ (eqb t colour && on_list lent-board place t)
  unfolding has_length
  flat-own count place colour accepted =
      let h = all_pass (lay_checks this count b place colour) refl accepted in
      let long : length b.pieces ≡ rows * cols = eqb-true _ _ (search) in
      let k< : entry_in this place < rows * cols = cell_in this place (accepts this b (lay count place colour) accepted).on.board in
      lay-own this count b place colour accepted (omega arith) (flat-seen rows cols (entry_in this place) k<)

  -- a widening keeps the list of a place that has two rows before it or gets none more, and so with columns
  pub flat_keeps : (count : ℕ) (p : Pads) (lent : Board) (v : World) → lies this v ≡ true
      → (p.left ≡ 0) ⊎ (2 ≤ (cell_of v offset).0) → (p.top ≡ 0) ⊎ (2 ≤ (cell_of v offset).1) → (t : ℕ)
      → on_list (acted lent-board (widen count p lent)) v t ≡ on_list lent-board v t
  flat_keeps count p lent v on above before t =
      by-test (eqb (refusal_in lent-board (widen count p lent)) 0)
      (λ z.
      let accepted = eqb-true _ 0 z in
      ap (λ (x : State). on_list x v t) (wider-state lent-board count p lent accepted)
      ∙ widen_keeps this p b (lengths this count b p lent accepted) v on flat-windows
      (flat-kept rows cols p (entry_in this v) (cell_in this v on)
      (subst (λ (r : ℕ). (p.left ≡ 0) ⊎ (2 ≤ r)) (sym (entry_row this v on)) above)
      (subst (λ (c : ℕ). (p.top ≡ 0) ⊎ (2 ≤ c)) (sym (entry-col this v on)) before))
      t)
      (λ z. ap (λ (x : State). on_list x v t) (same-state lent-board (widen count p lent) (eqb-false _ 0 z)))

-- ---- lists and counts that do become less

-- one bare cell and the tile 122/222/222: no window is kept but the one that starts at the cell, and it lists 1. With a row before it, the
-- window that starts there is kept too, and has 2 at the cell's place: nothing is listed
abbrev single : Panel
single = panel 1 1 (1 ∷ replicate 8 2) (record { 0 = pos 0; 1 = pos 0 })

abbrev row_before : Act
row_before = widen 2 (record { left = 1; right = 0; top = 0; bottom = 0 }) (board (replicate 2 0) (replicate 2 0) (replicate 2 0))

pub can-empty : (refusal_in (start single) row_before ≡ 0)
    × (colours_of 2 (on_list (start single) corner) ≡ 1 ∷ [])
    × (colours_of 2 (on_list (acted (start single) row_before) corner) ≡ [])
unfolding colours_of those refusal within within_z every some tab fresh_board board_sides has_length tile_number_fits whole_tiles colour_count none_above pieces_stored offset_fits extension_by copied copied_cell widened_pieces widened after_widen left_after allows has_fitting fits_tile agrees flat entry_or_past cell_of
can-empty = (refl, refl, refl)

-- a fresh 3x3 board and a tile of colour 1: colour 2 in the corner fits no tile, and the count of the region falls from 1 to 0
pub can-lower : (refusal_in (start plain) (call (lay 2 corner 2)) ≡ 0)
    × (count_at (start plain) corner ≡ 1)
    × (count_at (acted (start plain) (call (lay 2 corner 2))) corner ≡ 0)
unfolding refusal within within_z every tally tab fresh_board board_sides has_length tile_number_fits whole_tiles colour_count none_above pieces_stored on_wall offset_fits on_board after_lay laid recounted fit_count fits_tile agrees flat entry_or_past cell_of
can-lower = (refl, refl, refl)
