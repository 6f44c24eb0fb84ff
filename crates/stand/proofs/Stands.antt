-- Demand 3. After any run of lay, lift and widening from a fresh board, refused ones included, the panel is the one that the accepted acts
-- say, and the board is what they say of the wall: its weights and counts are those that the standing pieces alone say. For every panel
-- whose kind of grid is sound, and can be widened if the run widens it, as the flat one is and can (`flat_sound`, `flat-embeds`); for all
-- arguments, the number of colours that each act names among them; nothing else is asked.
--     stands          panel and board, as one equation
--     pieces-stand, weights-stand, counts-stand   the parts of the board in the words of the demand
--     all-stand       no piece is lost: each that is told stands on the last panel
--     says_all        the board of a run is what its pieces say
--     same-panel, calls-stand     where nothing is widened: the panel is the first one
--     flat-stands     the theorem for the panels of the calls, with nothing asked
--     from-fresh      the board that an accepted call of fresh leaves is the one from which the runs start
-- Act by act, on plans: an act moves the plan of the accepted ones, and the board is that of the plan. Assumes nothing.
use Prim.Native.Nat.{ℕ, zero, suc, ◌+◌, ◌*◌, ◌<◌, ◌≤◌}
use mathlib.Core.Path.{◌≡◌, refl, sym, ◌∙◌, ap, subst}
use mathlib.Core.Bool.{Bool, true, false, ◌&&◌}
use mathlib.Core.List.{List, [], ◌∷◌, map}
use native.Mathlib.Omega.{arith}
use lib.Dec.{leb, ltb, eqb}
use lib.ListN.{get_or}
use Rattle.std.specs.Prelude.{Ok}
use borrow.Author.Tests.{leb-true, leb-false, ne_eqb}
use Rattle.base.specs.Counting.{pick, sum, tally}
use Rattle.base.specs.Tables.{fold}
use Rattle.base.specs.Refusal.{unless_refused}
use Rattle.base.proofs.Bools.{never, by-test}
use Rattle.base.proofs.Numbers.{within-is}
use Rattle.rules.specs.Bounds.{max_colours, bare}
use Rattle.rules.specs.Tests.{tiles_in, on_board}
use Rattle.rules.specs.Grid.{Kind, flat, laid_on}
use Rattle.rules.specs.Fit.{pattern, fit_count}
use Rattle.rules.specs.Board.{Panel, shape_of, entry_in, Board, share, board_of}
use Rattle.rules.specs.Promises.{panel, Freshens}
use Rattle.rules.specs.declared.World.{World}
use Rattle.rules.specs.declared.Offset.{Offset}
use Rattle.rules.proofs.Answered.{was-written}
use Rattle.stand.specs.Runs.{State, fresh, start, Call, Act, call, widen, refusal_in, acted, run, accepted_in, Plan, says, told, pieces_on, state_of, within_one, exactly_two}
use Rattle.rules.proofs.Said.{weight-at, count_at-said}
use Rattle.stand.proofs.Shared.{SoundKind}
use Rattle.stand.proofs.Widened.{GridsEmbed}
use Rattle.stand.proofs.Flat.{flat_sound, flat-embeds}
use Rattle.stand.proofs.Calls.{Good, fresh-of}
use Rattle.stand.proofs.Plans.{on-place, state_at, Fine, good_of, laid-lies, Asked, moved_to, moved-fine, acted-is}

-- what acts ask, where a widening asks A: nothing, where none of them widens
abbrev pub WhereWidened : Type 0 → List Act → Type 0
WhereWidened A [] = Unit
WhereWidened A (call c ∷ acts) = WhereWidened A acts
WhereWidened A (widen count p lent ∷ acts) = A × WhereWidened A acts

-- what they ask of a kind of grid for demand 3
abbrev pub Widenable : Kind → List Act → Type 0
Widenable kind acts = WhereWidened (GridsEmbed kind) acts

pub asked : (A : Type 0) (a : Act) (acts : List Act) → WhereWidened A (a ∷ acts) → Asked A a × WhereWidened A acts
asked A (call c) acts may = (tt, may)
asked A (widen count p lent) acts may = may

pub calls-may : (kind : Kind) (calls : List Call) → Widenable kind (map call calls)
calls-may kind [] = tt
calls-may kind (c ∷ calls) = calls-may kind calls

pub all-may : (A : Type 0) → A → (acts : List Act) → WhereWidened A acts
all-may A h [] = tt
all-may A h (call c ∷ acts) = all-may A h acts
all-may A h (widen count p lent ∷ acts) = (h, all-may A h acts)

pub flat-may : (acts : List Act) → Widenable flat acts
flat-may = all-may (GridsEmbed flat) flat-embeds

-- a sum of shares, as numbers of pieces
one-share : (on : Bool) (d : ℕ) → pick on (share d) 0 ≡ 3 * pick (on && leb d 1) 1 0 + pick (on && eqb d 2) 1 0
one-share false d = refl
one-share true d =
    by-test (leb d 1)
    (λ e. rw (e, ne_eqb d 2 (λ q. far q (leb-true d 1 e))))
    (λ e. by-test (leb d 2)
    (λ f. let two : d ≡ 2 = omega (arith, leb-false d 1 e, leb-true d 2 f) in rw two)
    (λ f. rw (e, f, ne_eqb d 2 (λ q. past q (leb-false d 2 f)))))
  where
    far : d ≡ 2 → d ≤ 1 → ⊥
    far q h = omega arith

    past : d ≡ 2 → 2 < d → ⊥
    past q h = omega arith

shares : (n : ℕ) (on : ℕ → Bool) (d : ℕ → ℕ)
    → sum n (λ i. pick (on i) (share (d i)) 0) ≡ 3 * tally n (λ i. on i && leb (d i) 1) + tally n (λ i. on i && eqb (d i) 2)
unfolding sum tally
shares zero on d = refl
shares (suc n) on d =
    let a : sum n (λ i. pick (on i) (share (d i)) 0) ≡ 3 * tally n (λ i. on i && leb (d i) 1) + tally n (λ i. on i && eqb (d i) 2) = shares n on d in
    let b : pick (on n) (share (d n)) 0 ≡ 3 * pick (on n && leb (d n) 1) 1 0 + pick (on n && eqb (d n) 2) 1 0 = one-share (on n) (d n) in
    omega arith

-- the plan after a run
abbrev pub moved_by : Plan → List Act → Plan
moved_by t acts = fold moved_to t acts

module _ (j : Panel) where
  -- a bare wall
  abbrev pub opening : Plan
  opening = record { panel = j; wall = λ v. bare }

  pub opening-fine : Fine j opening
  opening-fine =
      record {
        kind = refl;
        tiles = refl;
        coloured = λ v. within-is 1 (max_colours + 1) 1 (omega arith) (omega arith);
        inside = λ v off. refl;
        backed = λ v e. never false e refl;
      }

  pub run-fine : (t : Plan) (acts : List Act) → Fine j t → Fine j (moved_by t acts)
  unfolding fold
  run-fine t [] fine = fine
  run-fine t (a ∷ acts) fine = run-fine (moved_to t a) acts (moved-fine t a fine)

  pub plan-fine : (acts : List Act) → Fine j (moved_by opening acts)
  plan-fine acts = run-fine opening acts opening-fine

  pub start_is : start j ≡ state_at opening
  unfolding pieces_on
  start_is = ap (λ (b : Board). record { panel = j; board = b }) (fresh-of j)

module _ (j : Panel) (sound : SoundKind j.kind) where
  pub run_is : (t : Plan) (acts : List Act) → Fine j t → Widenable j.kind acts → run (state_at t) acts ≡ state_at (moved_by t acts)
  unfolding run fold
  run_is t [] fine may = refl
  run_is t (a ∷ acts) fine may =
      let h = asked (GridsEmbed j.kind) a acts may in
      ap (λ (s : State). run s acts) (acted-is t a fine sound h.0) ∙ run_is (moved_to t a) acts (moved-fine t a fine) h.1

  -- what the accepted acts say is what the run leaves
  first_said : (t : Plan) (a : Act) (n : ℕ) (later : List Act)
      → fold says t (unless_refused n (a ∷ later) later) ≡ fold says (unless_refused n (says t a) t) later
  unfolding fold
  first_said t a zero later = refl
  first_said t a (suc n) later = refl

  told_is : (t : Plan) (acts : List Act) → Fine j t → Widenable j.kind acts → fold says t (accepted_in (state_at t) acts) ≡ moved_by t acts
  unfolding accepted_in fold
  told_is t [] fine may = refl
  told_is t (a ∷ acts) fine may =
      let h = asked (GridsEmbed j.kind) a acts may in
      first_said t a (refusal_in (state_at t) a) (accepted_in (acted (state_at t) a) acts)
      ∙ ap (λ (s : State). fold says (moved_to t a) (accepted_in s acts)) (acted-is t a fine sound h.0)
      ∙ told_is (moved_to t a) acts (moved-fine t a fine) h.1

  -- from a fresh board
  pub run-start : (acts : List Act) → Widenable j.kind acts → run (start j) acts ≡ state_at (moved_by (opening j) acts)
  run-start acts may = ap (λ (s : State). run s acts) (start_is j) ∙ run_is (opening j) acts (opening-fine j) may

  told-start : (acts : List Act) → Widenable j.kind acts → told j (accepted_in (start j) acts) ≡ moved_by (opening j) acts
  unfolding told
  told-start acts may = ap (λ (s : State). told j (accepted_in s acts)) (start_is j) ∙ told_is (opening j) acts (opening-fine j) may

  -- Demand 3. "From a fresh board, with only lay, lift and widening touching it, after any run of those, refused ones included": the panel
  -- and the board are those of the plan that the accepted ones tell.
  pub stands : (acts : List Act) → Widenable j.kind acts → run (start j) acts ≡ state_of (told j (accepted_in (start j) acts))
  unfolding state_of
  stands acts may = run-start acts may ∙ ap state_of (sym (told-start acts may))

  module _ (acts : List Act) (may : Widenable j.kind acts) where
    -- the panel and the board after the run
    abbrev pub last : Panel
    last = (run (start j) acts).panel

    abbrev pub final : Board
    final = (run (start j) acts).board

    -- what holds of the state of the plan told holds of the state after the run
    at-end : (P : State → Type 0) → P (state_at (moved_by (opening j) acts)) → P (run (start j) acts)
    at-end P h = subst P (sym (run-start acts may)) h

    -- the tiles and the kind of the panel stay
    pub tiles-stay : last.tiles ≡ j.tiles
    tiles-stay = at-end (λ s. s.panel.tiles ≡ j.tiles) (plan-fine j acts).tiles

    pub kind-stays : last.kind ≡ j.kind
    kind-stays = at-end (λ s. s.panel.kind ≡ j.kind) (plan-fine j acts).kind

    -- "the pieces standing are those the accepted calls say", "in wall coordinates"
    pub pieces-stand : (v : World) → on_board last.rows last.cols v last.offset ≡ true
        → get_or final.pieces (entry_in last v) 0 ≡ (told j (accepted_in (start j) acts)).wall v
    unfolding board_of
    pieces-stand v =
        at-end
        (λ s.
        on_board s.panel.rows s.panel.cols v s.panel.offset ≡ true
        → get_or s.board.pieces (entry_in s.panel v) 0 ≡ (told j (accepted_in (start j) acts)).wall v)
        (λ on. on-place _ _ v on ∙ ap (λ (t : Plan). t.wall v) (sym (told-start acts may)))

    -- and each of them stands: no piece is lost
    pub all-stand : (v : World) → ltb bare ((told j (accepted_in (start j) acts)).wall v) ≡ true → on_board last.rows last.cols v last.offset ≡ true
    all-stand v e =
        at-end (λ s. on_board s.panel.rows s.panel.cols v s.panel.offset ≡ true)
        (laid-lies (plan-fine j acts) v (ap (λ (t : Plan). ltb bare (t.wall v)) (sym (told-start acts may)) ∙ e))

    -- the board of a run is what its pieces say
    pub says_all : final ≡ board_of (shape_of last) last.tiles final.pieces
    unfolding board_of
    says_all = at-end (λ s. s.board ≡ board_of (shape_of s.panel) s.panel.tiles s.board.pieces) refl

    pub pieces-good : Good last final.pieces
    unfolding board_of
    pieces-good = at-end (λ s. Good s.panel s.board.pieces) (good_of (plan-fine j acts))

    -- "each weight is 1, plus 3 per piece at most one cell away, plus 1 per piece exactly two away"
    pub weights-stand : (k : ℕ) → k < last.rows * last.cols
        → get_or final.weights k 0 ≡ 1 + 3 * within_one last final.pieces k + exactly_two last final.pieces k
    unfolding board_of within_one exactly_two
    weights-stand k k< =
        ap (λ (b : Board). get_or b.weights k 0) says_all
        ∙ weight-at (shape_of last) final.pieces k pieces-good.long k<
        ∙ omega (arith, shares (last.rows * last.cols) (laid_on final.pieces) (λ i. (shape_of last).apart i k))

    -- "each count is the number of tiles that fit its region, or all tiles where the region passes the edge"
    pub counts-stand : (s : ℕ) → s < last.rows * last.cols
        → get_or final.counts s 0 ≡ pick ((shape_of last).whole s) (fit_count last.tiles (pattern (shape_of last) final.pieces s)) (tiles_in last.tiles)
    unfolding board_of
    counts-stand s s< =
        ap (λ (b : Board). get_or b.counts s 0) says_all ∙ count_at-said (shape_of last) last.tiles final.pieces s pieces-good.long s<

-- ---- "with size, tiles and offset fixed": runs of lay and lift alone

calls-panel : (s : State) (calls : List Call) → (run s (map call calls)).panel ≡ s.panel
unfolding run fold
calls-panel s [] = refl
calls-panel s (c ∷ calls) = calls-panel (acted s (call c)) calls

pub same-panel : (j : Panel) (calls : List Call) → (run (start j) (map call calls)).panel ≡ j
same-panel j calls = calls-panel (start j) calls

pub calls-stand : (j : Panel) → SoundKind j.kind → (calls : List Call)
    → (run (start j) (map call calls)).board ≡ board_of (shape_of j) j.tiles (pieces_on j (told j (accepted_in (start j) (map call calls))).wall)
unfolding state_of
calls-stand j sound calls =
    ap (λ (s : State). s.board) e
    ∙ ap (λ (i : Panel). board_of (shape_of i) i.tiles (pieces_on i (told j (accepted_in (start j) (map call calls))).wall))
    (sym (ap (λ (s : State). s.panel) e) ∙ same-panel j calls)
  where
    e : run (start j) (map call calls) ≡ state_of (told j (accepted_in (start j) (map call calls)))
    e = stands j sound (map call calls) (calls-may j.kind calls)

-- "From a fresh board": whatever the lent planes held, what an accepted call of fresh leaves is the board from which the runs start
pub from-fresh : (j : Panel) (old left : Board) → Freshens j.rows j.cols (tiles_in j.tiles) old (Ok tt) left → left ≡ fresh j
from-fresh j old left f = (was-written _ _ _ f).1

-- the theorem for the panels of the calls, whose grid is flat
pub flat-stands : (rows cols : ℕ) (tiles : List ℕ) (offset : Offset) (acts : List Act)
    → let j = panel rows cols tiles offset in run (start j) acts ≡ state_of (told j (accepted_in (start j) acts))
flat-stands rows cols tiles offset acts = stands (panel rows cols tiles offset) flat_sound acts (flat-may acts)
