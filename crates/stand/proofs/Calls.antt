-- One call, and one widening, on a board that is what its pieces say: when it is accepted, and what a call leaves.
--     accepts, taken    a call is accepted exactly where its place fits and its own test passes
--     widen-accepts, widen-taken    and a widening exactly where the sides, the offset and the lent planes fit
--     changed-is        an accepted call leaves a board that is what its pieces say, and the pieces are what it says
--     fresh-of          a fresh board is what bare pieces say
--     nothing-good, puts-good, puts-stored    what holds of the pieces from the fresh board on
-- Assumes nothing.
use Prim.Native.Nat.{ℕ, ◌+◌, ◌*◌, ◌<◌, ◌≤◌}
use mathlib.Core.Path.{◌≡◌, refl, sym, ◌∙◌, ap, subst}
use mathlib.Core.Bool.{true, not}
use mathlib.Core.List.{List}
use native.Mathlib.Omega.{arith}
use lib.Dec.{ltb, eqb}
use lib.ListN.{length, get_or, set, length-set}
use lib.Seq.{get_or-set_same, get_or-set_other}
use borrow.Author.Tests.{leb-true, le-leb, eq-eqb, eqb-true, eqb-false, not-true}
use Rattle.base.specs.Counting.{within}
use Rattle.base.specs.Tables.{tab}
use Rattle.base.specs.Refusal.{Checks, ◌unless◌, ◌then◌, refusal, unless_refused}
use Rattle.base.proofs.Bools.{never, by-test}
use Rattle.base.proofs.Counted.{every-is, every-at}
use Rattle.base.proofs.Tabled.{length-tab, get_d-tab}
use Rattle.base.proofs.Chain.{numbered, Passes, all_pass, none-fails}
use Rattle.base.proofs.Numbers.{mul-le, within_low, within-high, within-is}
use Rattle.rules.specs.Bounds.{max_colours, bare, max_board_side, max_weight, TYPE, TAKEN, BARE}
use Rattle.rules.specs.Tests.{board_sides, has_length, whole_tiles, tiles_in, colour_count, none_above, entry_up_to, pieces_stored, offset_fits}
use Rattle.rules.specs.Grid.{laid_on}
use Rattle.rules.specs.Fit.{place_checks}
use Rattle.rules.specs.Places.{new_rows, new_cols}
use Rattle.rules.specs.Board.{Panel, shape_of, entry_in, Board, weights_of, counts_of, board_of, laid, lifted, plane_lengths, board_contents, board_checks, after_lay, after_lift}
use Rattle.rules.specs.Widening.{wider, widen_checks}
use Rattle.rules.specs.declared.World.{World}
use Rattle.rules.specs.declared.Pads.{Pads}
use Rattle.stand.specs.Runs.{fresh, Call, lay, lift, place_of, count_of, refusal_of, step}
use Rattle.rules.proofs.Said.{weights-long, counts-long}
use Rattle.rules.proofs.Fewer.{put-stored}
use Rattle.stand.proofs.Shared.{Sound, laid-is, lifted-is, fresh-is, weight-low, count_low}
use Rattle.stand.proofs.Walls.{On, cell_in, Sides, sides-in}

-- ---- when a call is accepted

-- what stays fixed from call to call is within its bounds
pub record InBounds (j : Panel) : Type 0 where
  pub sides : board_sides j.rows j.cols ≡ true
  pub whole : whole_tiles j.tiles ≡ true
  pub offset : offset_fits j.offset ≡ true

-- so many colours may be named: they are in bounds, and have those of the tiles
pub record Named (tiles : List ℕ) (count : ℕ) : Type 0 where
  pub within : colour_count count ≡ true
  pub cells : none_above tiles count ≡ true

-- what a call asks of its cell, which stores x: a colour of the count on a bare cell, or a piece to lift
abbrev pub own_checks : ℕ → Call → Checks
own_checks x (lay count w colour) = TYPE unless within 1 count colour then TAKEN unless not (ltb 1 x)
own_checks x (lift count w) = BARE unless ltb 1 x

-- the cell of a call
abbrev pub cell_by : Panel → Call → ℕ
cell_by j c = entry_in j (place_of c)

pub record Taken (j : Panel) (p : List ℕ) (c : Call) : Type 0 where
  pub panel : InBounds j
  pub named : Named j.tiles (count_of c)
  pub stored : pieces_stored p (count_of c) ≡ true
  pub on : On j (place_of c)
  pub own : Passes (own_checks (get_or p (cell_by j c) 0) c)

-- the checks of a call, one after the other
abbrev checks_of : Panel → Board → Call → Checks
checks_of j b c =
    board_checks j (count_of c) b
    then place_checks j.rows j.cols (place_of c) j.offset
    then own_checks (get_or b.pieces (cell_by j c) 0) c

as-checks : (j : Panel) (b : Board) (c : Call) → (refusal_of j b c ≡ refusal (checks_of j b c)) × (numbered (checks_of j b c) ≡ true)
as-checks j b (lay count w colour) = (refl, refl)
as-checks j b (lift count w) = (refl, refl)

pub accepts : (j : Panel) (b : Board) (c : Call) → refusal_of j b c ≡ 0 → Taken j b.pieces c
accepts j b c e =
    let h = all_pass (checks_of j b c) (as-checks j b c).1 (sym (as-checks j b c).0 ∙ e) in
    record { panel = search; named = search; stored = search; on = search; own = search }

-- a widening is accepted
pub record Widening (j : Panel) (pieces : List ℕ) (count : ℕ) (p : Pads) (lent : Board) : Type 0 where
  pub panel : InBounds j
  pub wide : InBounds (wider j p)
  pub named : Named j.tiles count
  pub stored : pieces_stored pieces count ≡ true
  pub lengths : Passes (plane_lengths (new_rows j.rows p * new_cols j.cols p) lent)

pub widen-accepts : (j : Panel) (b : Board) (count : ℕ) (p : Pads) (lent : Board) → refusal (widen_checks j count b p lent) ≡ 0
    → Widening j b.pieces count p lent
widen-accepts j b count p lent e =
    let h = all_pass (widen_checks j count b p lent) refl e in
    record { panel = search; wide = search; named = search; stored = search; lengths = search }

-- what holds of the pieces of every run: each is bare or a colour, and where one stands the panel was in bounds
pub record Good (j : Panel) (p : List ℕ) : Type 0 where
  pub long : length p ≡ j.rows * j.cols
  pub coloured : (k : ℕ) → k < j.rows * j.cols → within 1 (max_colours + 1) (get_or p k 0) ≡ true
  pub backed : (k : ℕ) → k < j.rows * j.cols → laid_on p k ≡ true → InBounds j × Named j.tiles max_colours

-- a plane that the pieces make has its length, and passes the CELL tests
pub low-plane : (plane : List ℕ) (most : ℕ) → ((k : ℕ) → get_or plane k 0 ≤ most) → none_above plane most ≡ true
unfolding none_above
low-plane plane most h = every-is (entry_up_to plane most) (length plane) (λ k k<. le-leb (get_or plane k 0) most (h k))

-- at most 64 times 64 cells, each of which adds at most 3 to a weight
few-pieces : {rows cols n w : ℕ} → Sides rows cols → n ≡ rows * cols → w ≤ 1 + n * 3 → w ≤ max_weight
few-pieces {rows} {cols} sides e h =
    let few : rows * cols ≤ max_board_side * max_board_side = mul-le sides.rows-low sides.cols-low in
    omega arith

module _ (j : Panel) where
  abbrev pub of_pieces : List ℕ → Board
  of_pieces p = board_of (shape_of j) j.tiles p

  module _ (p : List ℕ) (good : Good j p) where
    lengths-pass : Passes (plane_lengths (j.rows * j.cols) (of_pieces p))
    unfolding board_of has_length
    lengths-pass = (
      eq-eqb _ _ good.long,
      (eq-eqb _ _ (weights-long (shape_of j) p ∙ good.long), eq-eqb _ _ (counts-long (shape_of j) j.tiles p ∙ good.long)),
    )

    contents-pass : (count : ℕ) → InBounds j → Named j.tiles count → pieces_stored p count ≡ true
        → Passes (board_contents j.tiles count (of_pieces p) (tiles_in j.tiles))
    unfolding board_of
    contents-pass count panel named stored =
        let light : none_above (weights_of (shape_of j) p) max_weight ≡ true =
        low-plane _ max_weight (λ k. few-pieces (sides-in j.rows j.cols panel.sides) good.long (weight-low (shape_of j) p k)) in
        let few : none_above (counts_of (shape_of j) j.tiles p) (tiles_in j.tiles) ≡ true = low-plane _ (tiles_in j.tiles) (count_low (shape_of j) j.tiles p) in
        ((named.within, (named.cells, stored)), (light, few))

    pub taken : (c : Call) → Taken j p c → refusal_of j (of_pieces p) c ≡ 0
    unfolding board_of
    taken c t =
        (as-checks j (of_pieces p) c).0
        ∙ none-fails (checks_of j (of_pieces p) c) (
          ((t.panel.sides, lengths-pass), (t.panel.whole, contents-pass (count_of c) t.panel t.named t.stored)),
          ((t.on.wall, (t.panel.offset, t.on.board)), t.own),
        )

    pub widen-taken : (count : ℕ) (q : Pads) (lent : Board) → Widening j p count q lent → refusal (widen_checks j count (of_pieces p) q lent) ≡ 0
    widen-taken count q lent t =
        none-fails (widen_checks j count (of_pieces p) q lent) (
          t.panel.sides,
          (t.wide.sides, (lengths-pass, (t.panel.whole, (t.lengths, (contents-pass count t.panel t.named t.stored, (t.panel.offset, t.wide.offset)))))),
        )

  -- what a call finds on its cell, and that it names the colours of all, is what it asks of the pieces
  pub other : (q r : List ℕ) (c : Call) → pieces_stored r (count_of c) ≡ true → get_or r (cell_by j c) 0 ≡ get_or q (cell_by j c) 0 → Taken j q c → Taken j r c
  other q r c s e t =
      record { panel = t.panel; named = t.named; stored = s; on = t.on; own = subst (λ (x : ℕ). Passes (own_checks x c)) (sym e) t.own }

-- ---- what a call leaves

-- what an accepted call stores in its cell, and the pieces then
abbrev pub put_by : Call → ℕ
put_by (lay count w colour) = colour + 1
put_by (lift count w) = bare

abbrev pub puts : Panel → List ℕ → Call → List ℕ
puts j p c = set p (cell_by j c) (put_by c)

-- the board of an accepted call
abbrev pub changed : Panel → Board → Call → Board
changed j b (lay count w colour) = laid (shape_of j) j.tiles b (entry_in j w) colour
changed j b (lift count w) = lifted (shape_of j) j.tiles b (entry_in j w)

pub step_by : (j : Panel) (b : Board) (c : Call) → step j b c ≡ unless_refused (refusal_of j b c) (changed j b c) b
unfolding after_lay after_lift
step_by j b (lay count w colour) = refl
step_by j b (lift count w) = refl

put_some : (c : Call) → 1 ≤ put_by c
put_some (lay count w colour) = omega arith
put_some (lift count w) = omega arith

-- a count that may be named is at most the largest, which may be named then too
few : {tiles : List ℕ} (count : ℕ) → Named tiles count → count ≤ max_colours
unfolding colour_count
few count n = within-high 1 max_colours count n.within

pub largest : {tiles : List ℕ} (count : ℕ) → Named tiles count → Named tiles max_colours
unfolding none_above colour_count
largest {tiles} count n =
    record {
      within = within-is 1 max_colours max_colours (omega arith) (omega arith);
      cells =
          every-is (entry_up_to tiles max_colours) (length tiles)
          (λ k k<.
          le-leb (get_or tiles k 0) max_colours
          (omega (arith, few count n, leb-true (get_or tiles k 0) count (every-at (entry_up_to tiles count) (length tiles) n.cells k k<))));
    }

module _ (j : Panel) where
  cell-of-pieces : (p : List ℕ) (w : World) → Good j p → On j w → entry_in j w < length p
  cell-of-pieces p w good on = omega (arith, good.long, cell_in j w on.board)

  pub changed-is : Sound (shape_of j) → (p : List ℕ) (c : Call) → Good j p → Taken j p c → changed j (of_pieces j p) c ≡ of_pieces j (puts j p c)
  changed-is sound p (lay count w colour) good t =
      laid-is (shape_of j) sound j.tiles p (entry_in j w) colour (cell-of-pieces p w good t.on) (not-true _ t.own.1) (within_low 1 count colour t.own.0)
  changed-is sound p (lift count w) good t = lifted-is (shape_of j) sound j.tiles p (entry_in j w) (cell-of-pieces p w good t.on) t.own

  -- an accepted call stores bare or a colour of its count
  pub put_low : (p : List ℕ) (c : Call) → Taken j p c → put_by c ≤ count_of c + 1
  put_low p (lay count w colour) t = omega (arith, within-high 1 count colour t.own.0)
  put_low p (lift count w) t = omega arith

  pub put-coloured : (p : List ℕ) (c : Call) → Taken j p c → within 1 (max_colours + 1) (put_by c) ≡ true
  put-coloured p c t = within-is 1 (max_colours + 1) (put_by c) (put_some c) (omega (arith, put_low p c t, few (count_of c) t.named))

  -- ---- what holds of the pieces from the fresh board on

  abbrev pub nothing : List ℕ
  nothing = tab (j.rows * j.cols) (λ k. bare)

  pub fresh-of : fresh j ≡ of_pieces j nothing
  fresh-of = fresh-is (shape_of j) j.tiles (j.rows * j.cols)

  pub nothing-good : Good j nothing
  nothing-good =
      record {
        long = length-tab (j.rows * j.cols) (λ k. bare);
        coloured = λ k k<. rw (get_d-tab (j.rows * j.cols) (λ i. bare) k 0 k<) (within-is 1 (max_colours + 1) 1 (omega arith) (omega arith));
        backed = λ k k< e. never (laid_on nothing k) e (ap (λ (x : ℕ). ltb 1 x) (get_d-tab (j.rows * j.cols) (λ i. bare) k 0 k<));
      }

  pub puts-good : (p : List ℕ) (c : Call) → Good j p → Taken j p c → Good j (puts j p c)
  puts-good p c good t =
      record {
        long = length-set p (cell_by j c) (put_by c) ∙ good.long;
        coloured =
            λ i i<.
            by-test (eqb i (cell_by j c))
            (λ e.
            let same : i ≡ cell_by j c = eqb-true i (cell_by j c) e in
            rw (same, get_or-set_same p (cell_by j c) (put_by c) 0 (cell-of-pieces p (place_of c) good t.on)) (put-coloured p c t))
            (λ e. rw (get_or-set_other p (cell_by j c) i (put_by c) 0 (eqb-false i (cell_by j c) e)) (good.coloured i i<));
        backed = λ i i< e. (t.panel, largest (count_of c) t.named);
      }

  -- a call leaves colours of the count that it names where it found such
  pub puts-stored : (p : List ℕ) (c : Call) → Taken j p c → pieces_stored (puts j p c) (count_of c) ≡ true
  puts-stored p c t = put-stored p (count_of c) (cell_by j c) (put_by c) t.stored (put_some c) (put_low p c t)
