-- A plan, its panel and what stands at each wall coordinate, and one act on the board that its pieces make.
--     on-place, on-put, on-wider    the pieces of a panel on which the wall stands: at a place, with one more, on a wider panel
--     Fine      what holds of every plan that a run makes
--     acted-is  an act leaves the board of what it says, or the board of the plan as it was where it is refused
-- Assumes nothing.
use Prim.Native.Nat.{ℕ, ◌+◌, ◌*◌, ◌<◌}
use mathlib.Core.Path.{◌≡◌, refl, sym, ◌∙◌, ap, subst}
use mathlib.Core.Bool.{true, false}
use mathlib.Core.List.{List}
use native.Mathlib.Omega.{arith}
use lib.Dec.{ltb}
use lib.ListN.{length, get_or, set, length-set}
use lib.Seq.{get_or-set_same, get_or-set_other}
use Rattle.base.specs.Counting.{pick, within}
use Rattle.base.specs.Refusal.{unless_refused}
use Rattle.base.proofs.Bools.{never, by-test, pick_yes, pick_no}
use Rattle.base.proofs.Chain.{through, either, once}
use Rattle.base.proofs.Tabled.{length-tab, get_d-tab, is-tab}
use Rattle.rules.specs.Bounds.{max_colours, bare}
use Rattle.rules.specs.Grid.{Kind}
use Rattle.rules.specs.Places.{same_place, new_rows, new_cols, copied}
use Rattle.rules.specs.Board.{Panel, entry_in, Board, board_of}
use Rattle.rules.specs.Widening.{wider, widened_pieces, widened, after_widen}
use Rattle.rules.specs.declared.World.{World}
use Rattle.rules.specs.declared.Pads.{Pads}
use Rattle.stand.specs.Runs.{State, Call, lay, lift, place_of, Act, call, widen, count_of, refusal_in, acted, Plan, says, wall_of, pieces_on}
use Rattle.stand.proofs.Shared.{Sound, SoundKind}
use Rattle.stand.proofs.Moved.{New}
use Rattle.stand.proofs.Widened.{embedded, GridsEmbed, spread-is, widened_is}
use Rattle.stand.proofs.Walls.{lies, cell_in, one_place, place-itself, place-back, wall-cell, lies-wider, entry-wider, wall-wider}
use Rattle.stand.proofs.Calls.{InBounds, Named, Taken, accepts, taken, Widening, widen-accepts, widen-taken, Good, of_pieces, put_by, changed, step_by, changed-is, largest, put-coloured}

-- ---- the pieces of a panel on which the wall stands

-- what stands at each place when x is put at w
abbrev pub put : (World → ℕ) → World → ℕ → World → ℕ
put wall w x v = pick (same_place v w) x (wall v)

module _ (j : Panel) (wall : World → ℕ) where
  pub on-long : length (pieces_on j wall) ≡ j.rows * j.cols
  unfolding pieces_on
  on-long = length-tab (j.rows * j.cols) (λ k. wall (wall_of j k))

  pub on-cell : (k : ℕ) → k < j.rows * j.cols → get_or (pieces_on j wall) k 0 ≡ wall (wall_of j k)
  unfolding pieces_on
  on-cell k k< = get_d-tab (j.rows * j.cols) (λ i. wall (wall_of j i)) k 0 k<

  pub on-place : (v : World) → lies j v ≡ true → get_or (pieces_on j wall) (entry_in j v) 0 ≡ wall v
  on-place v on = on-cell (entry_in j v) (cell_in j v on) ∙ ap wall (place-back j v on)

  -- a value put at a place on the board is set in its cell
  on-put : (w : World) (x : ℕ) → lies j w ≡ true → set (pieces_on j wall) (entry_in j w) x ≡ pieces_on j (put wall w x)
  unfolding pieces_on
  on-put w x on =
      is-tab 0 (set (pieces_on j wall) (entry_in j w) x) (j.rows * j.cols) (λ k. put wall w x (wall_of j k)) (length-set (pieces_on j wall) (entry_in j w) x ∙ on-long)
      (λ k k<.
      by-test (same_place (wall_of j k) w)
      (λ e.
      let here : k ≡ entry_in j w = sym (wall-cell j k) ∙ ap (entry_in j) (one_place (wall_of j k) w e) in
      let k<p : entry_in j w < length (pieces_on j wall) = omega (arith, on-long, cell_in j w on) in
      ap (λ (i : ℕ). get_or (set (pieces_on j wall) (entry_in j w) x) i 0) here
      ∙ get_or-set_same (pieces_on j wall) (entry_in j w) x 0 k<p
      ∙ sym (pick_yes _ _ _ e))
      (λ e.
      get_or-set_other (pieces_on j wall) (entry_in j w) k x 0 (λ h. never _ (same k h) e)
      ∙ on-cell k k<
      ∙ sym (pick_no _ _ _ e)))
    where
      same : (k : ℕ) → k ≡ entry_in j w → same_place (wall_of j k) w ≡ true
      same k h = ap (λ (v : World). same_place v w) (ap (wall_of j) h ∙ place-back j w on) ∙ place-itself w

  -- where no piece stands off the board, on the wider one stand the moved pieces
  on-wider : (p : Pads) → ((v : World) → lies j v ≡ false → wall v ≡ bare) → pieces_on (wider j p) wall ≡ widened_pieces j.rows j.cols p (pieces_on j wall)
  unfolding widened_pieces copied pieces_on
  on-wider p inside = spread-is j.rows j.cols p (pieces_on j wall) (λ k. bare) (λ k. wall (wall_of (wider j p) k)) old new
    where
      old : (k : ℕ) → k < j.rows * j.cols → wall (wall_of (wider j p) (embedded j.cols p k)) ≡ get_or (pieces_on j wall) k 0
      old k k< = ap wall (wall-wider j p k k<) ∙ sym (on-cell k k<)

      new : (k : ℕ) → k < new_rows j.rows p * new_cols j.cols p → New (j.rows * j.cols) (embedded j.cols p) k → wall (wall_of (wider j p) k) ≡ bare
      new k k< none =
          let v : World = wall_of (wider j p) k in
          by-test (lies j v)
          (λ on. absurd (none (entry_in j v) (cell_in j v on) (sym (entry-wider j p v on) ∙ wall-cell (wider j p) k)))
          (λ off. inside v off)

-- ---- what holds of every plan that a run from the panel j makes

-- the pieces of a plan, and its state as its pieces alone say it
abbrev pub pieces : Plan → List ℕ
pieces t = pieces_on t.panel t.wall

abbrev pub state_at : Plan → State
state_at t = record { panel = t.panel; board = of_pieces t.panel (pieces t) }

abbrev on : Panel → Board → State
on j b = record { panel = j; board = b }

-- the kind and the tiles stay; all pieces are colours, stand on the board, and where one stands the panel is in bounds
pub record Fine (j : Panel) (t : Plan) : Type 0 where
  pub kind : t.panel.kind ≡ j.kind
  pub tiles : t.panel.tiles ≡ j.tiles
  pub coloured : (v : World) → within 1 (max_colours + 1) (t.wall v) ≡ true
  pub inside : (v : World) → lies t.panel v ≡ false → t.wall v ≡ bare
  pub backed : (v : World) → ltb bare (t.wall v) ≡ true → InBounds t.panel × Named t.panel.tiles max_colours

module _ {j : Panel} {t : Plan} (fine : Fine j t) where
  pub good_of : Good t.panel (pieces t)
  good_of =
      record {
        long = on-long t.panel t.wall;
        coloured = λ k k<. rw (on-cell t.panel t.wall k k<) (fine.coloured (wall_of t.panel k));
        backed = λ k k< e. fine.backed (wall_of t.panel k) (ap (λ (x : ℕ). ltb bare x) (sym (on-cell t.panel t.wall k k<)) ∙ e);
      }

  -- "no piece is lost": where one stands lies on the board
  pub laid-lies : (v : World) → ltb bare (t.wall v) ≡ true → lies t.panel v ≡ true
  laid-lies v e = by-test (lies t.panel v) (λ on. on) (λ off. never _ e (ap (λ (x : ℕ). ltb bare x) (fine.inside v off)))

-- ---- one act

-- what an act asks, where a widening asks A
abbrev pub Asked : Type 0 → Act → Type 0
Asked A (call c) = Unit
Asked A (widen count p lent) = A

-- an act is accepted on the board of a plan
abbrev pub Accepted : Plan → Act → Type 0
Accepted t (call c) = Taken t.panel (pieces t) c
Accepted t (widen count p lent) = Widening t.panel (pieces t) count p lent

pub act-accepts : (t : Plan) (a : Act) → refusal_in (state_at t) a ≡ 0 → Accepted t a
unfolding board_of
act-accepts t (call c) e = accepts t.panel (state_at t).board c e
act-accepts t (widen count p lent) e = widen-accepts t.panel (state_at t).board count p lent e

pub act-taken : {j : Panel} (t : Plan) (a : Act) → Fine j t → Accepted t a → refusal_in (state_at t) a ≡ 0
act-taken t (call c) fine h = taken t.panel (pieces t) (good_of fine) c h
act-taken t (widen count p lent) fine h = widen-taken t.panel (pieces t) (good_of fine) count p lent h

-- what a call says is put at its place
abbrev pub put_in : Plan → Call → Plan
put_in t c = record { panel = t.panel; wall = put t.wall (place_of c) (put_by c) }

pub says-put : (t : Plan) (c : Call) → says t (call c) ≡ put_in t c
says-put t (lay count w colour) = refl
says-put t (lift count w) = refl

put-fine : {j : Panel} (t : Plan) (c : Call) → Fine j t → Taken t.panel (pieces t) c → Fine j (put_in t c)
put-fine t c fine h =
    record {
      kind = fine.kind;
      tiles = fine.tiles;
      coloured =
          λ v.
          by-test (same_place v (place_of c))
          (λ e. rw e (put-coloured t.panel (pieces t) c h))
          (λ e. rw e (fine.coloured v));
      inside =
          λ v off.
          by-test (same_place v (place_of c))
          (λ e. never (lies t.panel v) (ap (lies t.panel) (one_place v (place_of c) e) ∙ h.on.board) off)
          (λ e. rw e (fine.inside v off));
      backed = λ v e. (h.panel, largest (count_of c) h.named);
    }

says-fine : {j : Panel} (t : Plan) (a : Act) → Fine j t → Accepted t a → Fine j (says t a)
says-fine {j} t (call c) fine h = subst (Fine j) (sym (says-put t c)) (put-fine t c fine h)
says-fine {j} t (widen count p lent) fine h =
    record {
      kind = fine.kind;
      tiles = fine.tiles;
      coloured = fine.coloured;
      inside =
          λ v off.
          fine.inside v (by-test (lies t.panel v) (λ on. never (lies (wider t.panel p) v) (lies-wider t.panel p v on) off) (λ e. e));
      backed = λ v e. (h.wide, largest count h.named);
    }

-- ---- what an act leaves

-- the state that an accepted act leaves
abbrev done : State → Act → State
done s (call c) = record { panel = s.panel; board = changed s.panel s.board c }
done s (widen count p lent) = record { panel = wider s.panel p; board = widened s.panel p s.board }

pub acted-by : (s : State) (a : Act) → acted s a ≡ unless_refused (refusal_in s a) (done s a) s
unfolding after_widen
acted-by s (call c) =
    ap (on s.panel) (step_by s.panel s.board c)
    ∙ sym (through (refusal_in s (call c)) (on s.panel) _ (changed s.panel s.board c) s.board (λ e. refl))
acted-by s (widen count p lent) = once (refusal_in s (widen count p lent)) (on (wider s.panel p)) (widened s.panel p s.board) lent s

done-is : {j : Panel} (t : Plan) (a : Act) → Fine j t → SoundKind j.kind → Asked (GridsEmbed j.kind) a → Accepted t a → done (state_at t) a ≡ state_at (says t a)
done-is {j} t (call c) fine sound asked h =
    ap (on t.panel)
    (changed-is t.panel (subst (λ (k : Kind). Sound (k t.panel.rows t.panel.cols)) (sym fine.kind) (sound _ _)) (pieces t) c (good_of fine) h
    ∙ ap (of_pieces t.panel) (on-put t.panel t.wall (place_of c) (put_by c) h.on.board))
    ∙ ap state_at (sym (says-put t c))
done-is {j} t (widen count p lent) fine sound widens h =
    ap (on (wider t.panel p))
    (widened_is t.panel p (pieces t) (subst GridsEmbed (sym fine.kind) widens) (on-long t.panel t.wall)
    ∙ ap (of_pieces (wider t.panel p)) (sym (on-wider t.panel t.wall p fine.inside)))

-- the plan after an act
abbrev pub moved_to : Plan → Act → Plan
moved_to t a = unless_refused (refusal_in (state_at t) a) (says t a) t

module _ {j : Panel} (t : Plan) (a : Act) (fine : Fine j t) where
  pub moved-fine : Fine j (moved_to t a)
  moved-fine = either (Fine j) (refusal_in (state_at t) a) (λ e. says-fine t a fine (act-accepts t a e)) fine

  pub acted-is : SoundKind j.kind → Asked (GridsEmbed j.kind) a → acted (state_at t) a ≡ state_at (moved_to t a)
  acted-is sound asked =
      acted-by (state_at t) a ∙ through (refusal_in (state_at t) a) state_at _ (says t a) t (λ e. done-is t a fine sound asked (act-accepts t a e))
