-- Demand 3 with forced runs: a forced run is one more call in the runs over which the auditor's theorem speaks, refused ones included, and
-- counts as the lays that it made.
--     counts-so      what a forced run counts as, and a refused one, by evaluation
--     as-acts        moves from a fresh board leave what the acts leave that they count as
--     each-accepted  at any moment of such a run, the lays that a forced run counts as are each accepted, and leave what it leaves
--     moves-stand, flat-moves-stand    so panel and board are what the accepted acts say, as without forced runs
--     moves-counted, flat-moves-counted    and the counts are what the pieces say; a forced run then raises none (moves-raise-none,
--                    flat-moves-raise-none)
--     forced-stay, flat-forced-stay    the auditor's question: a piece is laid and later lifted. The plan is as if it had never lain there,
--                    with each forced run between replaced by the lays that it made: what it laid stays
--     can-stay       why it is replaced: without the piece the same run may lay less
--     forced-never, flat-forced-never    the same of a piece that a forced run laid: that run is replaced by its other lays
--     only-acts, only-run    where no forced run is made, all this is demand 3 as it was
-- Move by move, on the plans of demand 3; all else from its theorems. Assumes nothing.
use Rattle.std.specs.Prelude.{Option, None}
use Prim.Native.Nat.{ℕ, zero, suc, ◌≤◌}
use mathlib.Core.Path.{◌≡◌, refl, sym, ◌∙◌, ap, subst}
use mathlib.Core.List.{List, [], ◌∷◌, ◌++◌, map, map-append, append_assoc, append-nil}
use native.Mathlib.Nat.{le_refl}
use native.Mathlib.Omega.{arith}
use lib.IntN.{pos}
use lib.ListN.{length, replicate}
use Rattle.base.specs.Counting.{every, some, within}
use Rattle.base.specs.Tables.{tab, those, fold}
use Rattle.base.specs.Refusal.{refusal, unless_refused}
use Rattle.base.specs.Whole.{within_z}
use Rattle.base.proofs.Chain.{either, has_new}
use Rattle.base.proofs.Tabled.{fold-append}
use Rattle.rules.specs.Tests.{board_sides, has_length, tile_number_fits, whole_tiles, colour_count, none_above, pieces_stored, on_wall, offset_fits, on_board}
use Rattle.rules.specs.Sets.{colours_of}
use Rattle.rules.specs.Grid.{Kind, entry_or_past, flat}
use Rattle.rules.specs.Places.{cell_of}
use Rattle.rules.specs.Fit.{agrees, fits_tile, fit_count, has_fitting, allows, left_after}
use Rattle.rules.specs.Forced.{neighbour, admits, bounds_fit, forces_one, is_forced, forced_there, forced_round, is_queued, with_position, with_positions}
use Rattle.rules.specs.Board.{Panel, entry_in, raised, recounted, laid, lifted, fresh_board, after_lay, after_lift}
use Rattle.rules.specs.ForcedRun.{still_forced, queueing, taking, stepped, begun, run_out, after_run}
use Rattle.rules.specs.Promises.{panel}
use Rattle.rules.specs.declared.World.{World}
use Rattle.rules.specs.declared.Offset.{Offset}
use Rattle.rules.specs.declared.ForcedPosition.{ForcedPosition}
use Rattle.rules.proofs.Choices.{corner}
use Rattle.stand.specs.Runs.{State, start, lay, lift, Act, call, widen, refusal_in, acted, run, accepted_in, Plan, told, state_of, Naming, elsewhere}
use Rattle.stand.specs.Choices.{count_at, Counted}
use Rattle.stand.proofs.Shared.{Sound, SoundKind}
use Rattle.stand.proofs.Flat.{flat_sound}
use Rattle.stand.proofs.Plans.{pieces, state_at, Fine, good_of}
use Rattle.stand.proofs.Stands.{Widenable, flat-may, opening, opening-fine, moved_by, run-fine, plan-fine, start_is, run_is, run-start, stands, kind-stays}
use Rattle.stand.proofs.Never.{may-both, as-if-never}
use Rattle.stand.proofs.Choices.{run-counted}
use Rattle.stand_forced.specs.Moves.{Move, act, forced, refusal_by, moved, played, lays_of, counted_as, acts_of, NamingAll}
use Rattle.stand_forced.proofs.Lays.{forced-raises-none, forced-lays}
use Rattle.rules.specs.declared.BoundingBox.{BoundingBox}

-- ---- two cases, by evaluation

-- two cells side by side, and two tiles, each of one colour: the colour of one cell forces that of the other
abbrev pair : Panel
pair = panel 1 2 (replicate 9 1 ++ replicate 9 2) (record { 0 = pos 0; 1 = pos 0 })

-- a forced run beside a piece counts as the lay that it makes; one that is refused, for it names 31 colours, counts as none
pub counts-so : (acts_of (start pair) (act (call (lay 2 corner 1)) ∷ forced 2 corner None 1 ∷ [])
    ≡ call (lay 2 corner 1) ∷ call (lay 2 (record { 0 = pos 0; 1 = pos 1 }) 1) ∷ [])
    × (acts_of (start pair) (act (call (lay 2 corner 1)) ∷ forced 31 corner None 1 ∷ []) ≡ call (lay 2 corner 1) ∷ [])
unfolding acts_of lays_of fold refusal within within_z every some tab those fresh_board board_sides has_length tile_number_fits whole_tiles colour_count none_above pieces_stored on_wall offset_fits on_board after_lay laid raised recounted fit_count left_after allows has_fitting fits_tile agrees flat entry_or_past cell_of colours_of forces_one is_forced forced_there forced_round neighbour admits bounds_fit is_queued with_position with_positions still_forced queueing taking stepped begun run_out after_run
counts-so = (refl, refl)

-- a piece laid, the forced run, the piece lifted: its neighbour stays. The forced run alone lays nothing
pub can-stay : ((played (start pair) (act (call (lay 2 corner 1)) ∷ forced 2 corner None 1 ∷ act (call (lift 2 corner)) ∷ [])).board.pieces ≡ 1 ∷ 2 ∷ [])
    × ((played (start pair) (forced 2 corner None 1 ∷ [])).board.pieces ≡ 1 ∷ 1 ∷ [])
unfolding played fold refusal within within_z every some tab those fresh_board board_sides has_length tile_number_fits whole_tiles colour_count none_above pieces_stored on_wall offset_fits on_board after_lay after_lift laid lifted raised recounted fit_count left_after allows has_fitting fits_tile agrees flat entry_or_past cell_of colours_of forces_one is_forced forced_there forced_round neighbour admits bounds_fit is_queued with_position with_positions still_forced queueing taking stepped begun run_out after_run
can-stay = (refl, refl)

-- ---- moves one after the other

acts-append : (s : State) (some others : List Move) → acts_of s (some ++ others) ≡ acts_of s some ++ acts_of (played s some) others
unfolding acts_of played fold
acts-append s [] others = refl
acts-append s (m ∷ some) others =
    ap (λ (acts : List Act). counted_as s m ++ acts) (acts-append (moved s m) some others) ∙ sym (append_assoc (counted_as s m) _ _)

-- without forced runs
pub only-acts : (s : State) (acts : List Act) → acts_of s (map act acts) ≡ acts
unfolding acts_of
only-acts s [] = refl
only-acts s (a ∷ acts) = ap (λ (later : List Act). a ∷ later) (only-acts (acted s a) acts)

pub only-run : (s : State) (acts : List Act) → played s (map act acts) ≡ run s acts
unfolding played run fold
only-run s [] = refl
only-run s (a ∷ acts) = only-run (acted s a) acts

-- lays that name so many colours, and acts of two parts
names-lays : {count few : ℕ} → few ≡ count → (entries : List ForcedPosition) → Naming count (lays_of few entries)
unfolding lays_of
names-lays n [] = tt
names-lays n (e ∷ entries) = (n, names-lays n entries)

names-both : (count : ℕ) (some others : List Act) → Naming count some → Naming count others → Naming count (some ++ others)
names-both count [] others h k = k
names-both count (a ∷ some) others (p, h) k = (p, names-both count some others h k)

-- the acts that moves count as name the colours that the moves name
names-all : (count : ℕ) (s : State) (moves : List Move) → NamingAll count moves → Naming count (acts_of s moves)
unfolding acts_of
names-all count s [] names = tt
names-all count s (act a ∷ moves) (n, names) = (n, names-all count (acted s a) moves names)
names-all count s (forced few place bounds budget ∷ moves) (n, names) =
    names-both count (counted_as s (forced few place bounds budget)) _
    (either (Naming count) (refusal_by s (forced few place bounds budget)) (λ e. names-lays n (run_out s.panel few bounds s.board place budget).lain) tt)
    (names-all count (moved s (forced few place bounds budget)) moves names)

-- the lays before an entry, its own, and those after it
lays-parts : (count : ℕ) (xs : List ForcedPosition) (e : ForcedPosition) (ys : List ForcedPosition)
    → lays_of count (xs ++ e ∷ ys) ≡ lays_of count xs ++ call (lay count e.coordinates e.colour) ∷ lays_of count ys
unfolding lays_of
lays-parts count xs e ys = map-append _ xs (e ∷ ys)

-- lays ask nothing of the grid
lays-may : (kind : Kind) (count : ℕ) (entries : List ForcedPosition) → Widenable kind (lays_of count entries)
unfolding lays_of
lays-may kind count [] = tt
lays-may kind count (e ∷ entries) = lays-may kind count entries

-- what acts of two parts ask, each part asks
may-parts : (kind : Kind) (some others : List Act) → Widenable kind (some ++ others) → Widenable kind some × Widenable kind others
may-parts kind [] others may = (tt, may)
may-parts kind (call c ∷ some) others may = may-parts kind some others may
may-parts kind (widen count p lent ∷ some) others (widens, may) = let r = may-parts kind some others may in ((widens, r.0), r.1)

-- ---- acts that are all accepted

accepted-few : (s : State) (acts : List Act) → length (accepted_in s acts) ≤ length acts
unfolding accepted_in
accepted-few s [] = omega arith
accepted-few s (a ∷ acts) =
    let few = accepted-few (acted s a) acts in
    either (λ (l : List Act). length l ≤ suc (length acts)) (refusal_in s a) (λ e. omega arith) (omega arith)

-- if no fewer are accepted than there are, the first is, and no fewer of the others
first-accepted : (n : ℕ) (a : Act) (later acts : List Act) → length later ≤ length acts → suc (length acts) ≤ length (unless_refused n (a ∷ later) later)
    → (n ≡ 0) × (length acts ≤ length later)
first-accepted zero a later acts few all = (refl, omega arith)
first-accepted (suc n) a later acts few all = absurd (omega arith)

-- so each is accepted at its moment
at-its-moment : (s : State) (some : List Act) (a : Act) (others : List Act) → length (some ++ a ∷ others) ≤ length (accepted_in s (some ++ a ∷ others))
    → refusal_in (run s some) a ≡ 0
unfolding accepted_in run fold
at-its-moment s [] a others all = (first-accepted (refusal_in s a) a (accepted_in (acted s a) others) others (accepted-few (acted s a) others) all).0
at-its-moment s (x ∷ some) a others all =
    at-its-moment (acted s x) some a others
    (first-accepted (refusal_in s x) x (accepted_in (acted s x) (some ++ a ∷ others)) (some ++ a ∷ others) (accepted-few (acted s x) (some ++ a ∷ others)) all).1

-- ---- a forced run counts as its lays

module _ (j : Panel) (sound : SoundKind j.kind) where
  -- on the board of a plan
  forced-counts : (t : Plan) → Fine j t → (count : ℕ) (place : World) (bounds : Option BoundingBox) (budget : ℕ)
      → let s = state_at t in
      let m = forced count place bounds budget in
      (accepted_in s (counted_as s m) ≡ counted_as s m) × (run s (counted_as s m) ≡ moved s m)
  unfolding after_run accepted_in run fold
  forced-counts t fine count place bounds budget = at (refusal_by s (forced count place bounds budget)) refl
    where
      s : State
      s = state_at t

      made : List Act
      made = lays_of count (run_out t.panel count bounds s.board place budget).lain

      level : Sound (t.panel.kind t.panel.rows t.panel.cols)
      level = subst (λ (k : Kind). Sound (k t.panel.rows t.panel.cols)) (sym fine.kind) (sound _ _)

      at : (n : ℕ) → refusal_by s (forced count place bounds budget) ≡ n
          → (accepted_in s (unless_refused n made []) ≡ unless_refused n made [])
          × (run s (unless_refused n made []) ≡ record { panel = t.panel; board = unless_refused n (run_out t.panel count bounds s.board place budget).board s.board })
      at zero e = forced-lays t.panel level count bounds (pieces t) (good_of fine) place budget e budget
      at (suc n) e = (refl, refl)

  counts : (t : Plan) → Fine j t → (m : Move) → run (state_at t) (counted_as (state_at t) m) ≡ moved (state_at t) m
  unfolding run fold
  counts t fine (act a) = refl
  counts t fine (forced count place bounds budget) = (forced-counts t fine count place bounds budget).1

  played-is : (t : Plan) (moves : List Move) → Fine j t → Widenable j.kind (acts_of (state_at t) moves)
      → played (state_at t) moves ≡ run (state_at t) (acts_of (state_at t) moves)
  unfolding played acts_of run fold
  played-is t [] fine may = refl
  played-is t (m ∷ moves) fine may =
      let s : State = state_at t in
      let now : List Act = counted_as s m in
      let parts = may-parts j.kind now (acts_of (moved s m) moves) may in
      let next : Plan = moved_by t now in
      let same : moved s m ≡ state_at next = sym (counts t fine m) ∙ run_is j sound t now fine parts.0 in
      ap (λ (x : State). played x moves) same
      ∙ played-is next moves (run-fine j t now fine) (subst (λ (x : State). Widenable j.kind (acts_of x moves)) same parts.1)
      ∙ ap (λ (x : State). run x (acts_of x moves)) (sym same)
      ∙ ap (λ (x : State). run x (acts_of (moved s m) moves)) (sym (counts t fine m))
      ∙ sym (fold-append acted s now (acts_of (moved s m) moves))

  -- ---- from a fresh board

  pub as-acts : (moves : List Move) → Widenable j.kind (acts_of (start j) moves) → played (start j) moves ≡ run (start j) (acts_of (start j) moves)
  as-acts moves =
      subst (λ (s : State). Widenable j.kind (acts_of s moves) → played s moves ≡ run s (acts_of s moves)) (sym (start_is j))
      (played-is (opening j) moves (opening-fine j))

  -- "Demand 3 counts each lay made here as a lay"
  pub each-accepted : (moves : List Move) → Widenable j.kind (acts_of (start j) moves) → (count : ℕ) (place : World) (bounds : Option BoundingBox) (budget : ℕ)
      → let s = played (start j) moves in
      let m = forced count place bounds budget in
      (accepted_in s (counted_as s m) ≡ counted_as s m) × (run s (counted_as s m) ≡ moved s m)
  each-accepted moves may count place bounds budget =
      subst (λ (s : State). let m = forced count place bounds budget in (accepted_in s (counted_as s m) ≡ counted_as s m) × (run s (counted_as s m) ≡ moved s m))
      (sym (as-acts moves may ∙ run-start j sound (acts_of (start j) moves) may))
      (forced-counts (moved_by (opening j) (acts_of (start j) moves)) (plan-fine j (acts_of (start j) moves)) count place bounds budget)

  -- demand 3, over lays, lifts, widenings and forced runs
  pub moves-stand : (moves : List Move) → Widenable j.kind (acts_of (start j) moves)
      → played (start j) moves ≡ state_of (told j (accepted_in (start j) (acts_of (start j) moves)))
  moves-stand moves may = as-acts moves may ∙ stands j sound (acts_of (start j) moves) may

  -- request 9: the counts are those of demand 3
  pub moves-counted : (moves : List Move) → Widenable j.kind (acts_of (start j) moves) → Counted (played (start j) moves)
  moves-counted moves may = subst Counted (sym (as-acts moves may)) (run-counted j sound (acts_of (start j) moves) may)

  pub moves-raise-none : (moves : List Move) → Widenable j.kind (acts_of (start j) moves) → (count : ℕ) (place : World) (bounds : Option BoundingBox) (budget : ℕ)
      → let s = played (start j) moves in (v : World) → count_at (moved s (forced count place bounds budget)) v ≤ count_at s v
  moves-raise-none moves may count place bounds budget v =
      let s : State = played (start j) moves in
      let kind : s.panel.kind ≡ j.kind = ap (λ (x : State). x.panel.kind) (as-acts moves may) ∙ kind-stays j sound (acts_of (start j) moves) may in
      forced-raises-none s.panel count bounds s.board place (subst SoundKind (sym kind) sound _ _) (moves-counted moves may) budget (entry_in s.panel v)

  -- ---- the auditor's question

  -- moves count as acts, one of them the lay of a piece that is lifted after them all: the plan is that of the acts without the piece's
  lifted-later : (before among after : List Move) (some others : List Act) (w : World) (count colour : ℕ)
      → let there = played (start j) before in
      acts_of there among ≡ some ++ call (lay count w colour) ∷ others
      → Widenable j.kind (acts_of (start j) before) → Widenable j.kind some → Widenable j.kind others
      → refusal_in (run there some) (call (lay count w colour)) ≡ 0
      → Naming count others
      → played (start j) (before ++ among ++ act (call (lift count w)) ∷ after)
      ≡ played (start j) (before ++ map act (some ++ elsewhere w others) ++ after)
  unfolding played run fold
  lifted-later before among after some others w count colour counted may-before may-some may-others lays names =
      fold-append moved (start j) (before ++ among) (act (call (lift count w)) ∷ after)
      ∙ ap (λ (s : State). played s after)
      (ap (λ (s : State). acted s (call (lift count w)))
      (as-acts (before ++ among) (subst (Widenable j.kind) (sym parts) (may-both j.kind first _ may-first may-others))
      ∙ ap (run (start j)) parts)
      ∙ sym (fold-append acted (start j) (first ++ call (lay count w colour) ∷ others) (call (lift count w) ∷ []))
      ∙ as-if-never j sound first others [] w count colour may-first may-others tt
      (ap (λ (s : State). refusal_in s (call (lay count w colour))) (sym same) ∙ lays) names
      ∙ ap (run (start j)) (append-nil (first ++ elsewhere w others))
      ∙ fold-append acted (start j) first (elsewhere w others)
      ∙ ap (λ (s : State). run s (elsewhere w others)) (sym same)
      ∙ sym (fold-append acted there some (elsewhere w others))
      ∙ sym (only-run there (some ++ elsewhere w others))
      ∙ sym (fold-append moved (start j) before (map act (some ++ elsewhere w others))))
      ∙ sym (fold-append moved (start j) (before ++ map act (some ++ elsewhere w others)) after)
    where
      there : State
      there = played (start j) before

      first : List Act
      first = acts_of (start j) before ++ some

      may-first : Widenable j.kind first
      may-first = may-both j.kind (acts_of (start j) before) some may-before may-some

      same : run there some ≡ run (start j) first
      same = ap (λ (s : State). run s some) (as-acts before may-before) ∙ sym (fold-append acted (start j) (acts_of (start j) before) some)

      parts : acts_of (start j) (before ++ among) ≡ first ++ call (lay count w colour) ∷ others
      parts =
          acts-append (start j) before among
          ∙ ap (λ (acts : List Act). acts_of (start j) before ++ acts) counted
          ∙ sym (append_assoc (acts_of (start j) before) some (call (lay count w colour) ∷ others))

  -- "A piece is laid on the plan and later lifted": the plan is that of the same moves without the piece's, where the forced runs between are
  -- the lays that they made, but for those at the piece's own place. `before` and `after` are any moves; those between name the number of
  -- colours that the piece was laid with.
  pub forced-stay : (before between after : List Move) (w : World) (count colour : ℕ)
      → let there = played (start j) before in
      let made = acts_of (acted there (call (lay count w colour))) between in
      Widenable j.kind (acts_of (start j) before) → Widenable j.kind made
      → refusal_in there (call (lay count w colour)) ≡ 0
      → NamingAll count between
      → played (start j) (before ++ act (call (lay count w colour)) ∷ between ++ act (call (lift count w)) ∷ after)
      ≡ played (start j) (before ++ map act (elsewhere w made) ++ after)
  unfolding acts_of run fold
  forced-stay before between after w count colour may-before may-between lays names =
      lifted-later before (act (call (lay count w colour)) ∷ between) after [] _ w count colour refl may-before tt may-between lays (names-all count _ between names)

  -- the same of a piece that a forced run laid: the run is replaced by the lays that it made before and after the piece. It names the number
  -- of colours that the moves between name.
  pub forced-never : (before between after : List Move) (count : ℕ) (place : World) (bounds : Option BoundingBox) (budget : ℕ)
      (xs : List ForcedPosition) (e : ForcedPosition) (ys : List ForcedPosition)
      → let there = played (start j) before in
      let m = forced count place bounds budget in
      let w = e.coordinates in
      let made = acts_of (moved there m) between in
      Widenable j.kind (acts_of (start j) before) → Widenable j.kind made
      → refusal_by there m ≡ 0
      → (run_out there.panel count bounds there.board place budget).lain ≡ xs ++ e ∷ ys
      → NamingAll count between
      → played (start j) (before ++ m ∷ between ++ act (call (lift count w)) ∷ after)
      ≡ played (start j) (before ++ map act (lays_of count xs ++ elsewhere w (lays_of count ys ++ made)) ++ after)
  unfolding acts_of
  forced-never before between after count place bounds budget xs e ys may-before may-between accepted lain names =
      lifted-later before (m ∷ between) after (lays_of count xs) (lays_of count ys ++ made) e.coordinates count e.colour
      (ap (λ (acts : List Act). acts ++ made) counted ∙ append_assoc (lays_of count xs) (piece ∷ lays_of count ys) made)
      may-before (lays-may j.kind count xs) (may-both j.kind (lays_of count ys) made (lays-may j.kind count ys) may-between)
      (at-its-moment there (lays_of count xs) piece (lays_of count ys) (subst (λ (acts : List Act). length acts ≤ length (accepted_in there acts)) counted all))
      (names-both count (lays_of count ys) made (names-lays refl ys) (names-all count (moved there m) between names))
    where
      there : State
      there = played (start j) before

      m : Move
      m = forced count place bounds budget

      made : List Act
      made = acts_of (moved there m) between

      piece : Act
      piece = call (lay count e.coordinates e.colour)

      counted : counted_as there m ≡ lays_of count xs ++ piece ∷ lays_of count ys
      counted = has_new (refusal_by there m) _ [] accepted ∙ ap (lays_of count) lain ∙ lays-parts count xs e ys

      all : length (counted_as there m) ≤ length (accepted_in there (counted_as there m))
      all = rw (each-accepted before may-before count place bounds budget).0 (le_refl _)

-- ---- the panels of the calls, whose grid is flat, with nothing asked

module _ (rows cols : ℕ) (tiles : List ℕ) (offset : Offset) where
  abbrev this : Panel
  this = panel rows cols tiles offset

  pub flat-moves-stand : (moves : List Move) → played (start this) moves ≡ state_of (told this (accepted_in (start this) (acts_of (start this) moves)))
  flat-moves-stand moves = moves-stand this flat_sound moves (flat-may (acts_of (start this) moves))

  pub flat-moves-counted : (moves : List Move) → Counted (played (start this) moves)
  flat-moves-counted moves = moves-counted this flat_sound moves (flat-may (acts_of (start this) moves))

  pub flat-moves-raise-none : (moves : List Move) (count : ℕ) (place : World) (bounds : Option BoundingBox) (budget : ℕ)
      → let s = played (start this) moves in (v : World) → count_at (moved s (forced count place bounds budget)) v ≤ count_at s v
  flat-moves-raise-none moves = moves-raise-none this flat_sound moves (flat-may (acts_of (start this) moves))

  pub flat-forced-stay : (before between after : List Move) (w : World) (count colour : ℕ)
      → let there = played (start this) before in
      let made = acts_of (acted there (call (lay count w colour))) between in
      refusal_in there (call (lay count w colour)) ≡ 0
      → NamingAll count between
      → played (start this) (before ++ act (call (lay count w colour)) ∷ between ++ act (call (lift count w)) ∷ after)
      ≡ played (start this) (before ++ map act (elsewhere w made) ++ after)
  flat-forced-stay before between after w count colour =
      forced-stay this flat_sound before between after w count colour (flat-may (acts_of (start this) before))
      (flat-may (acts_of (acted (played (start this) before) (call (lay count w colour))) between))

  pub flat-forced-never : (before between after : List Move) (count : ℕ) (place : World) (bounds : Option BoundingBox) (budget : ℕ)
      (xs : List ForcedPosition) (e : ForcedPosition) (ys : List ForcedPosition)
      → let there = played (start this) before in
      let m = forced count place bounds budget in
      let w = e.coordinates in
      let made = acts_of (moved there m) between in
      refusal_by there m ≡ 0
      → (run_out there.panel count bounds there.board place budget).lain ≡ xs ++ e ∷ ys
      → NamingAll count between
      → played (start this) (before ++ m ∷ between ++ act (call (lift count w)) ∷ after)
      ≡ played (start this) (before ++ map act (lays_of count xs ++ elsewhere w (lays_of count ys ++ made)) ++ after)
  flat-forced-never before between after count place bounds budget xs e ys =
      forced-never this flat_sound before between after count place bounds budget xs e ys (flat-may (acts_of (start this) before))
      (flat-may (acts_of (moved (played (start this) before) (forced count place bounds budget)) between))
