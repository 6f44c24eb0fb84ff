-- The auditor's question: a piece is laid on the plan and later lifted; how do you know the plan is as if that piece had never lain there?
--     as-if-never    whatever acts come before, between and after, widenings and refused ones included, panel and board are those of the
--                    same acts without the piece's; those between name the number of colours that the piece was laid with
--     flat-never     the same for the panels of the calls, with nothing asked
--     laid-widened-lifted    a piece laid, the panel widened, the piece lifted: the panel is widened, and no more
--     lifted-at-once   a piece laid and lifted at once leaves the very board that was there
--     same-pieces    two runs that leave the same panel and pieces leave the same board, whatever was laid and lifted on the way
-- The two runs are followed side by side: at every moment the plan without the piece is the other's with that place bare.
-- Assumes nothing.
use Prim.Native.Nat.{ℕ, ◌+◌, ◌<◌, ◌≤◌}
use mathlib.Core.Path.{◌≡◌, refl, sym, ◌∙◌, ap, subst}
use mathlib.Core.Bool.{true, false}
use mathlib.Core.List.{List, [], ◌∷◌, ◌++◌, append-nil}
use native.Mathlib.Omega.{arith}
use lib.Dec.{ltb}
use lib.ListN.{length, get_or}
use borrow.Author.Tests.{ltb-false, not-true}
use Rattle.base.specs.Tables.{fold}
use Rattle.base.proofs.Bools.{never, by-test, pick_yes, pick_no}
use Rattle.base.proofs.Chain.{has_new, either, together}
use Rattle.base.proofs.Counted.{every-is, every-at}
use Rattle.base.proofs.Numbers.{within_low, within-high, within-is}
use Rattle.base.proofs.Tabled.{fold-append}
use Rattle.rules.specs.Bounds.{max_colours, bare}
use Rattle.rules.specs.Tests.{on_wall, pieces_stored, piece_stored}
use Rattle.rules.specs.Grid.{Kind}
use Rattle.rules.specs.Places.{same_place}
use Rattle.rules.specs.Board.{Panel, shape_of, entry_in, Board, board_of, after_lay, after_lift}
use Rattle.rules.specs.Promises.{panel}
use Rattle.rules.specs.declared.World.{World}
use Rattle.rules.specs.declared.Offset.{Offset}
use Rattle.rules.specs.declared.Pads.{Pads}
use Rattle.stand.specs.Runs.{State, start, Call, lay, lift, place_of, Act, call, widen, count_in, refusal_in, acted, run, Plan, says, pieces_on, Naming, elsewhere}
use Rattle.stand.proofs.Shared.{SoundKind}
use Rattle.stand.proofs.Widened.{GridsEmbed}
use Rattle.stand.proofs.Flat.{flat_sound}
use Rattle.stand.proofs.Walls.{lies, cell_in, one_place, place-itself}
use Rattle.stand.proofs.Calls.{Named, Taken, other, put_by, put_low}
use Rattle.stand.proofs.Plans.{put, on-long, on-cell, on-place, pieces, state_at, Fine, laid-lies, Accepted, act-accepts, act-taken, says-put, moved_to, moved-fine}
use Rattle.stand.proofs.Stands.{Widenable, flat-may, opening, moved_by, run-fine, plan-fine, run-start, says_all}

-- ---- two walls that differ at one place

abbrev on : Panel → (World → ℕ) → Plan
on j wall = record { panel = j; wall = wall }

-- plans of one panel on which the same stands everywhere
same-wall : (j : Panel) {a b : World → ℕ} → ((v : World) → a v ≡ b v) → on j a ≡ on j b
same-wall j h = λ i. record { panel = j; wall = λ v. h v i }

-- the plan with the place w bare
abbrev without : World → Plan → Plan
without w t = on t.panel (put t.wall w bare)

-- what was put there before does not matter
put-over : (wall : World → ℕ) (w u : World) (x : ℕ) → same_place u w ≡ true → (v : World) → put (put wall u x) w bare v ≡ put wall w bare v
put-over wall w u x e v =
    by-test (same_place v w)
    (λ f. rw f)
    (λ f. let g : same_place v u ≡ false = ap (same_place v) (one_place u w e) ∙ f in rw (f, g))

-- what is put at another place stays
put-past : (wall : World → ℕ) (w u : World) (x : ℕ) → same_place u w ≡ false → (v : World) → put (put wall w bare) u x v ≡ put (put wall u x) w bare v
put-past wall w u x e v =
    by-test (same_place v w)
    (λ f.
    by-test (same_place v u)
    (λ g. never (same_place u w) (ap (λ (z : World). same_place z w) (sym (one_place v u g)) ∙ f) e)
    (λ g. rw (f, g)))
    (λ f. rw f)

-- an act that does not name the place w
abbrev Apart : World → Act → Type 0
Apart w (call c) = same_place (place_of c) w ≡ false
Apart w (widen count p lent) = Unit

says-apart : (w : World) (t : Plan) (a : Act) → Apart w a → says (without w t) a ≡ without w (says t a)
says-apart w t (call c) e =
    says-put (without w t) c ∙ same-wall t.panel (put-past t.wall w (place_of c) (put_by c) e) ∙ ap (without w) (sym (says-put t c))
says-apart w t (widen count p lent) e = refl

-- it is accepted on the one where it is accepted on the other, if all pieces have colours of the count that it names
accepted-apart : (w : World) (j : Panel) (m n : World → ℕ) (a : Act) → Apart w a → ((v : World) → same_place v w ≡ false → n v ≡ m v)
    → pieces_stored (pieces_on j n) (count_in a) ≡ true → Accepted (on j m) a → Accepted (on j n) a
accepted-apart w j m n (call c) e same stored h =
    other j (pieces_on j m) (pieces_on j n) c stored
    (on-place j n (place_of c) h.on.board ∙ same (place_of c) e ∙ sym (on-place j m (place_of c) h.on.board))
    h
accepted-apart w j m n (widen count p lent) e same stored h =
    record { panel = h.panel; wide = h.wide; named = h.named; stored = stored; lengths = h.lengths }

-- ---- the number of colours that the acts between name

-- all pieces have colours of so many
abbrev Few : ℕ → Plan → Type 0
Few count t = (v : World) → t.wall v ≤ count + 1

module _ (count : ℕ) where
  few-stored : {j : Panel} (t : Plan) → Fine j t → Few count t → pieces_stored (pieces t) count ≡ true
  unfolding pieces_stored
  few-stored t fine few =
      every-is (piece_stored (pieces t) count) (length (pieces t))
      (λ k k<.
      rw (on-cell t.panel t.wall k (omega (arith, on-long t.panel t.wall)))
      (within-is 1 (count + 1) _ (within_low 1 (max_colours + 1) _ (fine.coloured _)) (few _)))

  stored-few : {j : Panel} (t : Plan) → Fine j t → pieces_stored (pieces t) count ≡ true → Few count t
  unfolding pieces_stored
  stored-few t fine stored v =
      by-test (lies t.panel v)
      (λ on.
      let here : get_or (pieces t) (entry_in t.panel v) 0 ≡ t.wall v = on-place t.panel t.wall v on in
      let k< : entry_in t.panel v < length (pieces t) = omega (arith, on-long t.panel t.wall, cell_in t.panel v on) in
      omega (arith, within-high 1 (count + 1) _ (every-at (piece_stored (pieces t) count) (length (pieces t)) stored (entry_in t.panel v) k<)))
      (λ off. omega (arith, fine.inside v off))

  moved-few : (t : Plan) (a : Act) → count_in a ≡ count → Few count t → Few count (moved_to t a)
  moved-few t a names few = either (Few count) (refusal_in (state_at t) a) (λ z. said a names (act-accepts t a z)) few
    where
      said : (a : Act) → count_in a ≡ count → Accepted t a → Few count (says t a)
      said (call c) names h =
          subst (Few count) (sym (says-put t c))
          (λ v. by-test (same_place v (place_of c)) (λ e. rw e (omega (arith, put_low t.panel (pieces t) c h))) (λ e. rw e (few v)))
      said (widen n p lent) names h = few

  all-few : (t : Plan) (acts : List Act) → Naming count acts → Few count t → Few count (moved_by t acts)
  unfolding fold
  all-few t [] names few = few
  all-few t (a ∷ acts) (n, names) few = all-few (moved_to t a) acts names (moved-few t a n few)

-- ---- the plan with the place w bare

module _ (j : Panel) (w : World) where
  without-fine : (t : Plan) → Fine j t → Fine j (without w t)
  without-fine t fine =
      record {
        kind = fine.kind;
        tiles = fine.tiles;
        coloured = λ v. by-test (same_place v w) (λ e. rw e (within-is 1 (max_colours + 1) 1 (omega arith) (omega arith))) (λ e. rw e (fine.coloured v));
        inside = λ v off. by-test (same_place v w) (λ e. rw e) (λ e. rw e (fine.inside v off));
        backed =
            λ v laid.
            by-test (same_place v w)
            (λ e. never _ laid (ap (λ (x : ℕ). ltb 1 x) (pick_yes _ bare (t.wall v) e)))
            (λ e. fine.backed v (ap (λ (x : ℕ). ltb 1 x) (sym (pick_no _ bare (t.wall v) e)) ∙ laid));
      }

  -- making a bare place bare changes nothing
  bare-stays : (t : Plan) → Fine j t → ltb bare (t.wall w) ≡ false → without w t ≡ t
  bare-stays t fine off =
      same-wall t.panel
      (λ v.
      by-test (same_place v w)
      (λ e.
      let low : 1 ≤ t.wall w = within_low 1 (max_colours + 1) (t.wall w) (fine.coloured w) in
      let high : t.wall w ≤ 1 = ltb-false 1 (t.wall w) off in
      let same : 1 ≡ t.wall w = omega arith in
      pick_yes _ bare (t.wall v) e ∙ same ∙ ap t.wall (sym (one_place v w e)))
      (λ e. pick_no _ bare (t.wall v) e))

  -- a call at that place
  same-call : (t : Plan) (c : Call) → same_place (place_of c) w ≡ true → without w (moved_to t (call c)) ≡ without w t
  same-call t c e =
      either (λ r. without w r ≡ without w t) (refusal_in (state_at t) (call c))
      (λ z. ap (without w) (says-put t c) ∙ same-wall t.panel (put-over t.wall w (place_of c) (put_by c) e))
      refl

-- ---- the two runs side by side

module _ (j : Panel) (w : World) (count : ℕ) where
  without-few : (t : Plan) → Few count t → Few count (without w t)
  without-few t few v = by-test (same_place v w) (λ e. rw e (omega arith)) (λ e. rw e (few v))

  -- an act that does not name it is accepted on both or on neither
  other-act : (t : Plan) (a : Act) → Fine j t → Few count t → count_in a ≡ count → Apart w a → moved_to (without w t) a ≡ without w (moved_to t a)
  other-act t a fine few names e =
      together (without w) (refusal_in (state_at t) a) (refusal_in (state_at (without w t)) a)
      (λ z.
      act-taken (without w t) a fine'
      (accepted-apart w t.panel t.wall (put t.wall w bare) a e (λ v f. pick_no _ _ _ f)
      (rw names (few-stored count (without w t) fine' (without-few t few)))
      (act-accepts t a z)))
      (λ z.
      act-taken t a fine
      (accepted-apart w t.panel (put t.wall w bare) t.wall a e (λ v f. sym (pick_no _ _ _ f))
      (rw names (few-stored count t fine few))
      (act-accepts (without w t) a z)))
      (λ z. says-apart w t a e)
      refl
    where
      fine' : Fine j (without w t)
      fine' = without-fine j w t fine

  -- act by act
  beside : (t : Plan) (acts : List Act) → Fine j t → Few count t → Naming count acts → moved_by (without w t) (elsewhere w acts) ≡ without w (moved_by t acts)
  unfolding elsewhere fold
  beside t [] fine few names = refl
  beside t (call c ∷ acts) fine few (n, names) =
      let later : moved_by (without w (moved_to t (call c))) (elsewhere w acts) ≡ without w (moved_by (moved_to t (call c)) acts) =
      beside (moved_to t (call c)) acts (moved-fine t (call c) fine) (moved-few count t (call c) n few) names in
      by-test (same_place (place_of c) w)
      (λ e.
      ap (moved_by (without w t)) (pick_yes (same_place (place_of c) w) (elsewhere w acts) (call c ∷ elsewhere w acts) e)
      ∙ ap (λ (r : Plan). moved_by r (elsewhere w acts)) (sym (same-call j w t c e))
      ∙ later)
      (λ e.
      ap (moved_by (without w t)) (pick_no (same_place (place_of c) w) (elsewhere w acts) (call c ∷ elsewhere w acts) e)
      ∙ ap (λ (r : Plan). moved_by r (elsewhere w acts)) (other-act t (call c) fine few n e)
      ∙ later)
  beside t (widen m p lent ∷ acts) fine few (n, names) =
      ap (λ (r : Plan). moved_by r (elsewhere w acts)) (other-act t (widen m p lent) fine few n tt)
      ∙ beside (moved_to t (widen m p lent)) acts (moved-fine t (widen m p lent) fine) (moved-few count t (widen m p lent) n few) names

  -- after a lift the place is bare, whether it was taken or there was nothing to lift
  last-lift : on_wall w ≡ true → Named j.tiles count → (t : Plan) → Fine j t → Few count t → moved_to t (call (lift count w)) ≡ without w t
  last-lift wall named t fine few =
      by-test (ltb bare (t.wall w))
      (λ laid.
      let on : lies t.panel w ≡ true = laid-lies fine w laid in
      has_new _ (without w t) t
      (act-taken t (call (lift count w)) fine
      (record {
        panel = (fine.backed w laid).0;
        named = subst (λ (l : List ℕ). Named l count) (sym fine.tiles) named;
        stored = few-stored count t fine few;
        on = record { wall = wall; board = on };
        own = ap (λ (x : ℕ). ltb 1 x) (on-place t.panel t.wall w on) ∙ laid;
      })))
      (λ off. either {new = without w t} {old = t} (λ r. r ≡ without w t) (refusal_in (state_at t) (call (lift count w))) (λ z. refl) (sym (bare-stays j w t fine off)))

-- ---- what runs of several parts ask

pub may-both : (kind : Kind) (some others : List Act) → Widenable kind some → Widenable kind others → Widenable kind (some ++ others)
may-both kind [] others may more = more
may-both kind (call c ∷ some) others may more = may-both kind some others may more
may-both kind (widen count p lent ∷ some) others (widens, may) more = (widens, may-both kind some others may more)

may-elsewhere : (kind : Kind) (w : World) (acts : List Act) → Widenable kind acts → Widenable kind (elsewhere w acts)
unfolding elsewhere
may-elsewhere kind w [] may = tt
may-elsewhere kind w (call c ∷ acts) may =
    by-test (same_place (place_of c) w) (λ e. rw e (may-elsewhere kind w acts may)) (λ e. rw e (may-elsewhere kind w acts may))
may-elsewhere kind w (widen count p lent ∷ acts) (widens, may) = (widens, may-elsewhere kind w acts may)

module _ (j : Panel) (sound : SoundKind j.kind) where
  -- "A piece is laid on the plan and later lifted": the plan is as if that piece had never lain there. `before` and `after` are any acts;
  -- those between that name the piece's own place (a second lay there, an earlier lift) go with it. While the piece stands the acts
  -- name the number of colours that it was laid with: one that names fewer may be refused for the piece's sake.
  pub as-if-never : (before between after : List Act) (w : World) (count colour : ℕ)
      → Widenable j.kind before → Widenable j.kind between → Widenable j.kind after
      → refusal_in (run (start j) before) (call (lay count w colour)) ≡ 0
      → Naming count between
      → run (start j) (before ++ call (lay count w colour) ∷ between ++ call (lift count w) ∷ after)
      ≡ run (start j) (before ++ elsewhere w between ++ after)
  unfolding fold
  as-if-never before between after w count colour may-before may-between may-after lays names =
      run-start j sound (before ++ call (lay count w colour) ∷ between ++ call (lift count w) ∷ after)
      (may-both _ (before ++ call (lay count w colour) ∷ between) _ (may-both _ before _ may-before may-between) may-after)
      ∙ ap state_at
      (fold-append moved_to (opening j) (before ++ call (lay count w colour) ∷ between) (call (lift count w) ∷ after)
      ∙ ap (λ (r : Plan). moved_by r after)
      (ap (λ (r : Plan). moved_to r (call (lift count w))) (fold-append moved_to (opening j) before (call (lay count w colour) ∷ between))
      ∙ last-lift j w count h.on.wall named (moved_by q between) (run-fine j q between fine') (all-few count q between names few)
      ∙ sym (beside j w count q between fine' few names)
      ∙ ap (λ (r : Plan). moved_by r (elsewhere w between)) back
      ∙ sym (fold-append moved_to (opening j) before (elsewhere w between)))
      ∙ sym (fold-append moved_to (opening j) (before ++ elsewhere w between) after))
      ∙ sym
      (run-start j sound (before ++ elsewhere w between ++ after)
      (may-both _ (before ++ elsewhere w between) _ (may-both _ before _ may-before (may-elsewhere _ w between may-between)) may-after))
    where
      p : Plan
      p = moved_by (opening j) before

      fine : Fine j p
      fine = plan-fine j before

      lays' : refusal_in (state_at p) (call (lay count w colour)) ≡ 0
      lays' = ap (λ (s : State). refusal_in s (call (lay count w colour))) (sym (run-start j sound before may-before)) ∙ lays

      h : Taken p.panel (pieces p) (lay count w colour)
      h = act-accepts p (call (lay count w colour)) lays'

      named : Named j.tiles count
      named = subst (λ (l : List ℕ). Named l count) fine.tiles h.named

      -- the plan with the piece that is laid
      q : Plan
      q = moved_to p (call (lay count w colour))

      fine' : Fine j q
      fine' = moved-fine p (call (lay count w colour)) fine

      few : (v : World) → q.wall v ≤ count + 1
      few = moved-few count p (call (lay count w colour)) refl (stored-few count p fine h.stored)

      back : without w q ≡ p
      back =
          same-call j w p (lay count w colour) (place-itself w)
          ∙ bare-stays j w p fine (ap (λ (x : ℕ). ltb 1 x) (sym (on-place p.panel p.wall w h.on.board)) ∙ not-true _ h.own.1)

  -- a piece laid, the panel widened, the piece lifted: the widening alone
  pub laid-widened-lifted : (before : List Act) (w : World) (count colour : ℕ) (p : Pads) (lent : Board)
      → Widenable j.kind before → GridsEmbed j.kind
      → refusal_in (run (start j) before) (call (lay count w colour)) ≡ 0
      → run (start j) (before ++ call (lay count w colour) ∷ widen count p lent ∷ [] ++ call (lift count w) ∷ [])
      ≡ run (start j) (before ++ widen count p lent ∷ [])
  unfolding elsewhere
  laid-widened-lifted before w count colour p lent may widens lays =
      as-if-never before (widen count p lent ∷ []) [] w count colour may (widens, tt) tt lays (refl, tt)
      ∙ ap (run (start j)) (append-nil (before ++ widen count p lent ∷ []))

  module _ (acts : List Act) (may : Widenable j.kind acts) where
    -- a piece laid and lifted at once leaves the very board that was there, on the same panel
    pub lifted-at-once : (w : World) (count colour : ℕ) → refusal_in (run (start j) acts) (call (lay count w colour)) ≡ 0
        → let last = (run (start j) acts).panel in
        let final = (run (start j) acts).board in
        after_lift last count (after_lay last count final w colour) w ≡ final
    unfolding run fold elsewhere
    lifted-at-once w count colour lays =
        ap (λ (s : State). s.board)
        (sym
        (fold-append acted (start j) (acts ++ call (lay count w colour) ∷ []) (call (lift count w) ∷ [])
        ∙ ap (λ (s : State). acted s (call (lift count w))) (fold-append acted (start j) acts (call (lay count w colour) ∷ [])))
        ∙ as-if-never acts [] [] w count colour may tt tt lays tt
        ∙ ap (run (start j)) (append-nil (acts ++ []) ∙ append-nil acts))

    -- whatever was laid and lifted on the way, the board depends on the panel and the standing pieces alone
    pub same-pieces : (others : List Act) → Widenable j.kind others → (run (start j) acts).panel ≡ (run (start j) others).panel
        → (run (start j) acts).board.pieces ≡ (run (start j) others).board.pieces
        → (run (start j) acts).board ≡ (run (start j) others).board
    same-pieces others may' e f =
        says_all j sound acts may
        ∙ (λ i. board_of (shape_of (e i)) (e i).tiles (f i))
        ∙ sym (says_all j sound others may')

-- the auditor's question on the panels of the calls, whose grid is flat
pub flat-never : (rows cols : ℕ) (tiles : List ℕ) (offset : Offset) (before between after : List Act) (w : World) (count colour : ℕ)
    → let j = panel rows cols tiles offset in
    refusal_in (run (start j) before) (call (lay count w colour)) ≡ 0
    → Naming count between
    → run (start j) (before ++ call (lay count w colour) ∷ between ++ call (lift count w) ∷ after)
    ≡ run (start j) (before ++ elsewhere w between ++ after)
flat-never rows cols tiles offset before between after w count colour =
    as-if-never (panel rows cols tiles offset) flat_sound before between after w count colour (flat-may before) (flat-may between) (flat-may after)
