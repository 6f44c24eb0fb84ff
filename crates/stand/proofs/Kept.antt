-- What a widening keeps, and what it makes anew, of any board.
--     pieces_kept     each piece stands at its wall coordinate
--     weights-kept    each old cell keeps its weight, whatever it is
--     new-bare, new-weights    a new cell is bare, and its weight is the one that the standing pieces say
--     counts-kept     what the pieces say of a region that lies on the old board, they say of it in the wider panel
--     widen-adds-none    the list of an old place gains no colour; widen_keeps: and loses none, where no window is kept that was skipped
--     widen-raises-none  what the pieces say of the count of an old place does not rise
--     no-pads         four pads of 0 keep the panel, the pieces and the weights, and the counts are worked out
-- Assumes nothing.
use Prim.Native.Nat.{ℕ, ◌+◌, ◌*◌, ◌/◌, ◌%◌, ◌<◌, ◌≤◌}
use mathlib.Core.Path.{◌≡◌, refl, sym, ◌∙◌, ap, subst}
use mathlib.Core.Bool.{true, false}
use mathlib.Core.List.{List}
use native.Mathlib.Nat.{le_refl}
use native.Mathlib.Omega.{arith}
use lib.ListN.{length, get_or}
use lib.IntN.{+ℤ_idr}
use Rattle.base.specs.Tables.{tab}
use Rattle.base.proofs.Bools.{never, by-test, same_test, pick_yes, pick_no}
use Rattle.base.proofs.Numbers.{cell-is}
use Rattle.base.proofs.Tabled.{get_d-tab, is-tab}
use Rattle.rules.specs.Bounds.{bare}
use Rattle.rules.specs.Tests.{on_board}
use Rattle.rules.specs.Places.{extension_by, new_rows, new_cols, copied_cell, copied}
use Rattle.rules.specs.Fit.{lists}
use Rattle.rules.specs.Board.{Panel, shape_of, entry_in, Board, weights_of, counts_of}
use Rattle.rules.specs.Widening.{wider, widened_pieces, widened_weights, widened}
use Rattle.rules.specs.declared.World.{World}
use Rattle.rules.specs.declared.Pads.{Pads}
use Rattle.stand.specs.Runs.{wall_of}
use Rattle.rules.proofs.Said.{count_at-said}
use Rattle.stand.proofs.Shared.{count_low}
use Rattle.stand.proofs.Moved.{New, count-carried, lists-carried, lists-kept}
use Rattle.stand.proofs.Widened.{embedded, GridsEmbed, GridsKeepWindows, pieces-long, embedded-in, old-spread, new-spread, spread-is, pieces-carried}
use Rattle.stand.proofs.Walls.{lies, cell_in, place-back, wall-lies, entry-wider, wall-wider}

module _ (j : Panel) (p : Pads) (b : Board) where
  pub pieces_kept : (v : World) → on_board j.rows j.cols v j.offset ≡ true
      → get_or (widened j p b).pieces (entry_in (wider j p) v) 0 ≡ get_or b.pieces (entry_in j v) 0
  unfolding widened
  pieces_kept v on =
      ap (λ (k : ℕ). get_or (widened_pieces j.rows j.cols p b.pieces) k 0) (entry-wider j p v on)
      ∙ (pieces-carried j.rows j.cols p b.pieces).at (entry_in j v) (cell_in j v on)

  pub weights-kept : (v : World) → on_board j.rows j.cols v j.offset ≡ true
      → get_or (widened j p b).weights (entry_in (wider j p) v) 0 ≡ get_or b.weights (entry_in j v) 0
  unfolding widened widened_weights
  weights-kept v on =
      let k : ℕ = entry_in j v in
      ap (λ (i : ℕ). get_or (widened_weights j.kind j.rows j.cols p b.pieces b.weights) i 0) (entry-wider j p v on)
      ∙ get_d-tab (new_rows j.rows p * new_cols j.cols p) _ (embedded j.cols p k) 0 (embedded-in j.rows j.cols p k (cell_in j v on))
      ∙ old-spread j.rows j.cols p b.weights _ k (cell_in j v on)

  -- a place of the wider panel that is not on the old one
  module _ (v : World) (on : on_board (wider j p).rows (wider j p).cols v (wider j p).offset ≡ true) (off : on_board j.rows j.cols v j.offset ≡ false) where
    is-new : New (j.rows * j.cols) (embedded j.cols p) (entry_in (wider j p) v)
    is-new k k< e =
        never (lies j v)
        (ap (lies j) (sym (sym (wall-wider j p k k<) ∙ ap (wall_of (wider j p)) e ∙ place-back (wider j p) v on)) ∙ wall-lies j k k<)
        off

    pub new-bare : get_or (widened j p b).pieces (entry_in (wider j p) v) 0 ≡ bare
    unfolding widened widened_pieces copied
    new-bare = get_d-tab _ _ _ 0 (cell_in (wider j p) v on) ∙ new-spread j.rows j.cols p b.pieces bare _ is-new

    pub new-weights : get_or (widened j p b).weights (entry_in (wider j p) v) 0
        ≡ get_or (weights_of (shape_of (wider j p)) (widened j p b).pieces) (entry_in (wider j p) v) 0
    unfolding widened widened_weights
    new-weights = get_d-tab _ _ _ 0 (cell_in (wider j p) v on) ∙ new-spread j.rows j.cols p b.weights _ _ is-new

  -- the count of a region that lies whole on the old board
  pub counts-kept : GridsEmbed j.kind → length b.pieces ≡ j.rows * j.cols → (v : World) → on_board j.rows j.cols v j.offset ≡ true
      → (shape_of j).whole (entry_in j v) ≡ true
      → get_or (widened j p b).counts (entry_in (wider j p) v) 0 ≡ get_or (counts_of (shape_of j) j.tiles b.pieces) (entry_in j v) 0
  unfolding widened
  counts-kept grids long v on whole =
      let k : ℕ = entry_in j v in
      let embeds = grids j.rows j.cols p in
      let moved : List ℕ = widened_pieces j.rows j.cols p b.pieces in
      ap (λ (i : ℕ). get_or (counts_of (shape_of (wider j p)) j.tiles moved) i 0) (entry-wider j p v on)
      ∙ count_at-said (shape_of (wider j p)) j.tiles moved (embedded j.cols p k) (pieces-long j.rows j.cols p b.pieces) (embedded-in j.rows j.cols p k (cell_in j v on))
      ∙ pick_yes _ _ _ (embeds.whole k whole)
      ∙ count-carried embeds (pieces-carried j.rows j.cols p b.pieces) j.tiles k whole
      ∙ sym (pick_yes _ _ _ whole)
      ∙ sym (count_at-said (shape_of j) j.tiles b.pieces k long (cell_in j v on))

  -- the list of a place of the old panel
  module _ (long : length b.pieces ≡ j.rows * j.cols) (v : World) (on : on_board j.rows j.cols v j.offset ≡ true) where
    abbrev moved : List ℕ
    moved = widened_pieces j.rows j.cols p b.pieces

    pub widen-adds-none : GridsKeepWindows j.kind → (t : ℕ) → lists (shape_of (wider j p)) j.tiles (widened j p b).pieces (entry_in (wider j p) v) t ≡ true
        → lists (shape_of j) j.tiles b.pieces (entry_in j v) t ≡ true
    unfolding widened
    widen-adds-none shown t e =
        lists-carried (shown j.rows j.cols p) (pieces-carried j.rows j.cols p b.pieces) long (pieces-long j.rows j.cols p b.pieces)
        j.tiles (entry_in j v) t (cell_in j v on)
        (sym (ap (λ (k : ℕ). lists (shape_of (wider j p)) j.tiles moved k t) (entry-wider j p v on)) ∙ e)

    pub widen_keeps : GridsKeepWindows j.kind → ((q : ℕ) → q < 9 → (shape_of (wider j p)).kept (embedded j.cols p (entry_in j v)) q ≡ true → (shape_of j).kept (entry_in j v) q ≡ true)
        → (t : ℕ) → lists (shape_of (wider j p)) j.tiles (widened j p b).pieces (entry_in (wider j p) v) t ≡ lists (shape_of j) j.tiles b.pieces (entry_in j v) t
    unfolding widened
    widen_keeps shown none-new t =
        same_test _ _ (widen-adds-none shown t)
        (λ e.
        ap (λ (k : ℕ). lists (shape_of (wider j p)) j.tiles moved k t) (entry-wider j p v on)
        ∙ lists-kept (shown j.rows j.cols p) (pieces-carried j.rows j.cols p b.pieces) long (pieces-long j.rows j.cols p b.pieces)
        j.tiles (entry_in j v) t (cell_in j v on) none-new e)

    -- and the count of the region that starts there: it stays, or the region passed the edge and all tiles were counted
    pub widen-raises-none : GridsEmbed j.kind → get_or (widened j p b).counts (entry_in (wider j p) v) 0 ≤ get_or (counts_of (shape_of j) j.tiles b.pieces) (entry_in j v) 0
    unfolding widened
    widen-raises-none grids =
        by-test ((shape_of j).whole (entry_in j v))
        (λ whole. rw (counts-kept grids long v on whole) (le_refl _))
        (λ past.
        rw (count_at-said (shape_of j) j.tiles b.pieces (entry_in j v) long (cell_in j v on) ∙ pick_no _ _ _ past)
        (count_low (shape_of (wider j p)) j.tiles moved (entry_in (wider j p) v)))

-- ---- four pads of 0

abbrev pub no_pads : Pads
no_pads = record { left = 0; right = 0; top = 0; bottom = 0 }

-- every cell stays where it is
stays : (cols k : ℕ) → embedded cols no_pads k ≡ k
stays cols k =
    let wide : new_cols cols no_pads ≡ cols = omega arith in
    let r : 0 + k / cols ≡ k / cols = omega arith in
    let c : 0 + k % cols ≡ k % cols = omega arith in
    rw (wide, r, c) (cell-is k cols)

plane-stays : (rows cols : ℕ) (plane : List ℕ) (fill : ℕ → ℕ) → length plane ≡ rows * cols
    → tab (new_rows rows no_pads * new_cols cols no_pads) (λ k. copied_cell 0 (fill k) plane rows cols no_pads (k / new_cols cols no_pads) (k % new_cols cols no_pads)) ≡ plane
plane-stays rows cols plane fill long =
    sym
    (is-tab 0 plane (new_rows rows no_pads * new_cols cols no_pads) (λ k. get_or plane k 0) (long ∙ sym same) (λ k k<. refl)
    ∙ spread-is rows cols no_pads plane fill (λ k. get_or plane k 0) (λ k k<. ap (λ (i : ℕ). get_or plane i 0) (stays cols k))
    (λ k k< new. absurd (new k (subst (λ (n : ℕ). k < n) same k<) (stays cols k))))
  where
    same : new_rows rows no_pads * new_cols cols no_pads ≡ rows * cols
    same =
        let r : new_rows rows no_pads ≡ rows = omega arith in
        let c : new_cols cols no_pads ≡ cols = omega arith in
        rw (r, c)

pub no-pads : (j : Panel) (b : Board) → length b.pieces ≡ j.rows * j.cols → length b.weights ≡ j.rows * j.cols
    → (wider j no_pads ≡ j)
    × ((widened j no_pads b).pieces ≡ b.pieces)
    × ((widened j no_pads b).weights ≡ b.weights)
    × ((widened j no_pads b).counts ≡ counts_of (shape_of j) j.tiles b.pieces)
unfolding widened widened_pieces copied widened_weights extension_by
no-pads j b pieces weights = (
  same,
  plane-stays j.rows j.cols b.pieces (λ k. bare) pieces,
  plane-stays j.rows j.cols b.weights _ weights,
  (λ i. counts_of (shape_of (same i)) j.tiles (plane-stays j.rows j.cols b.pieces (λ k. bare) pieces i)),
)
  where
    rows : new_rows j.rows no_pads ≡ j.rows
    rows = omega arith

    cols : new_cols j.cols no_pads ≡ j.cols
    cols = omega arith

    same : wider j no_pads ≡ j
    same i =
        record {
          kind = j.kind;
          rows = rows i;
          cols = cols i;
          tiles = j.tiles;
          offset = record { 0 = +ℤ_idr j.offset.0 i; 1 = +ℤ_idr j.offset.1 i };
        }
