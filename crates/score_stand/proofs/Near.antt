-- For either occasion: after a lay or a lift, scoring the cells at most two rows and columns away from its place suffices. A score is made of
-- the counts that start in the cell's box, up to two rows and columns before it; a count is of a region that reaches two further; so what
-- shows the place belongs to a cell that near.
--     rest-stays      where no other score changes, the plain scores of two spans make a plane of whole scores one again
--     round-suffices  so it is round the cell that changed, on counts that the pieces say
--     near-suffices   so it is after any call of lay or lift, accepted or refused, in any run on a panel of the calls
-- Assumes nothing.
use Prim.Native.Nat.{ℕ, zero, suc, ◌+◌, ◌-◌, ◌*◌, ◌/◌, ◌%◌, ◌<◌, ◌≤◌}
use mathlib.Core.Path.{◌≡◌, refl, sym, ◌∙◌, ap, subst}
use mathlib.Core.Bool.{Bool, true, false, ◌&&◌}
use mathlib.Core.List.{List}
use native.Mathlib.Omega.{arith}
use lib.Dec.{leb, ltb}
use lib.ListN.{length, get_or, set, length-set}
use lib.Ieee.{Float, nan}
use Rattle.std.specs.Prelude.{Ok}
use borrow.Author.Tests.{leb-true}
use Rattle.base.specs.Counting.{pick}
use Rattle.base.specs.Tables.{tab, those, fold}
use Rattle.base.proofs.Chain.{either}
use Rattle.base.proofs.Bools.{never, by-test, and_left, and_right, and_both}
use Rattle.base.proofs.Numbers.{row_of, col-of, row_lt, col-lt, cell-lt}
use Rattle.base.proofs.Regions.{is-between}
use Rattle.base.proofs.Tabled.{length-tab, get_d-tab, tab-ext, fold-append}
use Rattle.rules.specs.Tests.{tiles_in}
use Rattle.rules.specs.Floats.{zero64, over, float_of}
use Rattle.rules.specs.Grid.{Kind, flat, gap}
use Rattle.rules.specs.Scores.{fraction, box_has, box_cell, box_cells, plus_term, mean_of, score_of, lift_falls, scored, plain_scores, whole_scores}
use Rattle.rules.specs.Places.{cell_of}
use Rattle.rules.specs.Probabilities.{region_of}
use Rattle.rules.specs.Board.{Panel, entry_in, Board, counts_of, board_of}
use Rattle.rules.specs.Promises.{panel}
use Rattle.rules.specs.declared.World.{World}
use Rattle.rules.specs.declared.Offset.{Offset}
use Rattle.rules.specs.declared.Span.{Span}
use Rattle.rules.proofs.Answered.{was-written}
use Rattle.rules.proofs.Said.{count_at-said}
use Rattle.places.proofs.Indices.{row-span, col-span, col-below}
use Rattle.stand.specs.Runs.{State, start, Call, Act, call, place_of, refusal_of, step, acted, Plan}
use Rattle.stand.proofs.Shared.{Sound, count_kept}
use Rattle.stand.proofs.Flat.{flat-shows, flat_sound}
use Rattle.stand.proofs.Walls.{lies, entry_row, entry-col}
use Rattle.stand.proofs.Calls.{Taken, Good, of_pieces, cell_by, accepts, put_by, puts, step_by, changed-is}
use Rattle.stand.proofs.Plans.{pieces, good_of}
use Rattle.stand.proofs.Stands.{flat-may, moved_by, opening, plan-fine, run-start}
use Rattle.stand_forced.specs.Moves.{Move, played, acts_of}
use Rattle.stand_forced.proofs.Moves.{as-acts}
use Rattle.score_stand.specs.Rescoring.{scores_in, round_of, RescoresRound}

-- ---- a mean of terms that are the same on its cells

module _ (f g : ℕ → Float) where
  sum-ext : (n : ℕ) (test : ℕ → Bool) (cell : ℕ → ℕ) → ((i : ℕ) → i < n → test i ≡ true → f (cell i) ≡ g (cell i))
      → (a : Float) → fold (plus_term f) a (those n test cell) ≡ fold (plus_term g) a (those n test cell)
  unfolding those fold
  sum-ext zero test cell same a = refl
  sum-ext (suc n) test cell same a =
      fold-append (plus_term f) a (those n test cell) _
      ∙ by-test (test n)
      (λ e. rw (e, sum-ext n test cell (λ i l. same i (omega arith)) a, same n (omega arith) e))
      (λ e. rw (e, sum-ext n test cell (λ i l. same i (omega arith)) a))
      ∙ sym (fold-append (plus_term g) a (those n test cell) _)

  mean-ext : (rows cols r c : ℕ) → ((i : ℕ) → i < 9 → box_has rows cols r c i ≡ true → f (box_cell cols r c i) ≡ g (box_cell cols r c i))
      → mean_of f (box_cells rows cols r c) ≡ mean_of g (box_cells rows cols r c)
  unfolding mean_of box_cells
  mean-ext rows cols r c same =
      ap (λ (x : Float). over x (float_of (length (those 9 (box_has rows cols r c) (box_cell cols r c))))) (sum-ext 9 (box_has rows cols r c) (box_cell cols r c) same zero64)

-- ---- the plain scores of two spans, on a plane of whole scores

module _ (rows cols n : ℕ) (before after : List ℕ) (rs cs : Span) where
  -- the score of a cell that the spans don't have is what it was
  abbrev Others : Type 0
  Others = (k : ℕ) → k < rows * cols → lift_falls rs cs (k / cols) (k % cols) ≡ false → score_of rows cols (fraction before n) k ≡ score_of rows cols (fraction after n) k

  pub rest-stays : Others → plain_scores rows cols after n rs cs (whole_scores rows cols before n) ≡ whole_scores rows cols after n
  unfolding plain_scores whole_scores scored
  rest-stays others =
      ap (λ (m : ℕ). tab m cell) (length-tab (rows * cols) old)
      ∙ tab-ext (rows * cols) cell (score_of rows cols (fraction after n))
      (λ k k<.
      by-test (lift_falls rs cs (k / cols) (k % cols))
      (λ e. rw e)
      (λ e. rw (e, get_d-tab (rows * cols) old k nan k<) (others k k< e)))
    where
      old : ℕ → Float
      old = score_of rows cols (fraction before n)

      cell : ℕ → Float
      cell k = pick (lift_falls rs cs (k / cols) (k % cols)) (score_of rows cols (fraction after n) k) (get_or (tab (rows * cols) old) k nan)

-- ---- round a cell that changes

-- a row or column that a region shows, which starts up to two before this one, is at most two away from it
nearby : (x y d e : ℕ) → d < 3 → e < 3 → 2 ≤ x + d → y ≡ x + d - 2 + e → gap x y ≤ 2
nearby x y d e p q h at = omega arith

-- a cell that the box has starts at row and column 0 at the least
box_in : (rows cols r c i : ℕ) → box_has rows cols r c i ≡ true → (2 ≤ r + i / 3) × (2 ≤ c + i % 3)
box_in rows cols r c i has =
    let three = and_left _ (ltb (c + i % 3 - 2) cols) has in (
      leb-true 2 (r + i / 3) (and_left _ (ltb (r + i / 3 - 2) rows) (and_left _ (leb 2 (c + i % 3)) three)),
      leb-true 2 (c + i % 3) (and_right (leb 2 (r + i / 3) && ltb (r + i / 3 - 2) rows) _ three),
    )

-- spans that have every cell at most two rows and columns away from cell k
abbrev HasRound : ℕ → ℕ → ℕ → Span → Span → Type 0
HasRound rows cols k rs cs = (r c : ℕ) → r < rows → c < cols → gap r (k / cols) ≤ 2 → gap c (k % cols) ≤ 2 → lift_falls rs cs r c ≡ true

module _ (rows cols : ℕ) (tiles p : List ℕ) (k v : ℕ) (long : length p ≡ rows * cols) where
  -- the counts before and after
  abbrev old : List ℕ
  old = counts_of (flat rows cols) tiles p

  abbrev new : List ℕ
  new = counts_of (flat rows cols) tiles (set p k v)

  -- a count that starts at s stays, unless the region shows the cell
  count-stays : (s : ℕ) → s < rows * cols → ((i : ℕ) → i < 9 → k / cols ≡ s / cols + i / 3 → k % cols ≡ s % cols + i % 3 → ⊥) → get_or old s 0 ≡ get_or new s 0
  count-stays s s< hidden =
      count_at-said (flat rows cols) tiles p s long s<
      ∙ by-test ((flat rows cols).whole s)
      (λ inside.
      ap (λ (n : ℕ). pick ((flat rows cols).whole s) n (tiles_in tiles))
      (count_kept (flat rows cols) tiles p k v s (λ i i< here. let at = flat-shows rows cols k s i i< inside here in hidden i i< at.0 at.1)))
      (λ past. rw past)
      ∙ sym (count_at-said (flat rows cols) tiles (set p k v) s (length-set p k v ∙ long) s<)

  -- none of the regions of a box shows the cell, where it is further than two rows or columns away
  box-stays : (n r c : ℕ) → r < rows → c < cols → (gap r (k / cols) ≤ 2 → gap c (k % cols) ≤ 2 → ⊥) → (i : ℕ) → i < 9 → box_has rows cols r c i ≡ true
      → fraction old n (box_cell cols r c i) ≡ fraction new n (box_cell cols r c i)
  unfolding fraction
  box-stays n r c r< c< far i i< has =
      let b = box_in rows cols r c i has in
      let r₀< : r + i / 3 - 2 < rows = omega arith in
      let c₀< : c + i % 3 - 2 < cols = omega arith in
      ap (λ (m : ℕ). over (float_of m) (float_of n))
      (count-stays (box_cell cols r c i) (cell-lt r₀< c₀<)
      (λ q q< er ec.
      far
      (nearby r (k / cols) (i / 3) (q / 3) (omega arith) (omega arith) b.0 (er ∙ ap (λ (x : ℕ). x + q / 3) (row_of (r + i / 3 - 2) c₀<)))
      (nearby c (k % cols) (i % 3) (q % 3) (omega arith) (omega arith) b.1 (ec ∙ ap (λ (x : ℕ). x + q % 3) (col-of (r + i / 3 - 2) c₀<)))))

  pub round-suffices : (n : ℕ) (rs cs : Span) → 0 < cols → HasRound rows cols k rs cs → plain_scores rows cols new n rs cs (whole_scores rows cols old n) ≡ whole_scores rows cols new n
  round-suffices n rs cs wide round =
      rest-stays rows cols n old new rs cs
      (λ i i< out.
      let r< : i / cols < rows = row_lt i rows cols wide i< in
      let c< : i % cols < cols = col-lt i cols wide in
      mean-ext (fraction old n) (fraction new n) rows cols (i / cols) (i % cols)
      (box-stays n (i / cols) (i % cols) r< c< (λ a b. never (lift_falls rs cs (i / cols) (i % cols)) (round (i / cols) (i % cols) r< c< a b) out)))

-- ---- after a call

-- the spans round a place that is on the board have them
round-has : (j : Panel) (w : World) → lies j w ≡ true → HasRound j.rows j.cols (entry_in j w) (round_of j w).rows (round_of j w).cols
unfolding region_of
round-has j w on r c r< c< rowwise colwise =
    let x : gap r (cell_of w j.offset).0 ≤ 2 = subst (λ (n : ℕ). gap r n ≤ 2) (entry_row j w on) rowwise in
    let y : gap c (cell_of w j.offset).1 ≤ 2 = subst (λ (n : ℕ). gap c n ≤ 2) (entry-col j w on) colwise in
    rw (row-span j.rows j.cols w j.offset on 2, col-span j.rows j.cols w j.offset on 2)
    (and_both _ _ (is-between _ _ r (omega arith) (omega arith)) (is-between _ _ c (omega arith) (omega arith)))

-- on a flat panel, whose board is what its pieces say: an accepted call, and any
module _ (j : Panel) (flatly : j.kind ≡ flat) (p : List ℕ) (good : Good j p) (c : Call) where
  abbrev Scored : Board → Type 0
  Scored b =
      let n = tiles_in j.tiles in
      let round = round_of j (place_of c) in
      plain_scores j.rows j.cols b.counts n round.rows round.cols (whole_scores j.rows j.cols (of_pieces j p).counts n)
      ≡ whole_scores j.rows j.cols b.counts n

  accepted-scored : Taken j p c → Scored (of_pieces j (puts j p c))
  unfolding board_of
  accepted-scored t =
      let n = tiles_in j.tiles in
      let round = round_of j (place_of c) in
      let wide : 0 < j.cols = omega (arith, col-below j.rows j.cols (place_of c) j.offset t.on.board) in
      subst
      (λ (K : Kind).
      plain_scores j.rows j.cols (counts_of (K j.rows j.cols) j.tiles (puts j p c)) n round.rows round.cols
      (whole_scores j.rows j.cols (counts_of (K j.rows j.cols) j.tiles p) n)
      ≡ whole_scores j.rows j.cols (counts_of (K j.rows j.cols) j.tiles (puts j p c)) n)
      (sym flatly)
      (round-suffices j.rows j.cols j.tiles p (cell_by j c) (put_by c) good.long n round.rows round.cols wide (round-has j (place_of c) t.on.board))

  pub call-scored : Scored (step j (of_pieces j p) c)
  unfolding board_of
  call-scored =
      subst Scored (sym (step_by j (of_pieces j p) c))
      (either Scored (refusal_of j (of_pieces j p) c)
      (λ e.
      let t = accepts j (of_pieces j p) c e in
      subst Scored (sym (changed-is j (subst (λ (K : Kind). Sound (K j.rows j.cols)) (sym flatly) (flat_sound _ _)) p c good t)) (accepted-scored t))
      (rest-stays j.rows j.cols (tiles_in j.tiles) _ _ _ _ (λ k k< out. refl)))

-- after any moves on a panel of the calls: the scores round the place of a lay or a lift are scored, and all scores are those of the board
pub near-suffices : (rows cols : ℕ) (tiles : List ℕ) (offset : Offset) (moves : List Move) (c : Call) (left : List Float)
    → let s = played (start (panel rows cols tiles offset)) moves in
    RescoresRound (acted s (call c)) (place_of c) (scores_in s) (Ok tt) left
    → left ≡ scores_in (acted s (call c))
near-suffices rows cols tiles offset moves c left p =
    (was-written _ _ _ p).1
    ∙ subst (λ (s : State). Round s) (sym (as-acts this flat_sound moves (flat-may acts) ∙ run-start this flat_sound acts (flat-may acts)))
    (call-scored t.panel (plan-fine this acts).kind (pieces t) (good_of (plan-fine this acts)) c)
  where
    this : Panel
    this = panel rows cols tiles offset

    acts : List Act
    acts = acts_of (start this) moves

    t : Plan
    t = moved_by (opening this) acts

    Round : State → Type 0
    Round s =
        let after = acted s (call c) in
        let round = round_of s.panel (place_of c) in
        plain_scores s.panel.rows s.panel.cols after.board.counts (tiles_in s.panel.tiles) round.rows round.cols (scores_in s) ≡ scores_in after
