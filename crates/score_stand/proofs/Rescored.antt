-- Demand 3 for plain scores. After any run of lay, lift, widening and forced runs from a fresh board, refused ones included, a scoring of the
-- whole board leaves the scores of the board that the standing pieces alone say.
--     scores-stand, flat-scores-stand    the theorem; for the panels of the calls nothing is asked
--     rescoring-accepted  the scoring is refused for the size, the number of tiles and the length of the lent plane alone
--     scores-never        the auditor's question: with a piece that was laid and later lifted, the scores are those without it
--     laid-lifted-rescored    "lay a piece, lift it, rescore, and every score is what it was"
-- From the theorems on boards: a scoring asks the counts alone. Assumes nothing.
use Prim.Native.Nat.{ℕ, ◌*◌}
use mathlib.Core.Path.{◌≡◌, sym, ◌∙◌, ap, subst}
use mathlib.Core.Bool.{true}
use mathlib.Core.List.{List, [], ◌∷◌, ◌++◌, map, append_assoc, append-nil}
use lib.ListN.{length}
use lib.Ieee.{Float}
use Rattle.std.specs.Prelude.{Ok}
use borrow.Author.Tests.{eq-eqb}
use Rattle.base.specs.Refusal.{refusal}
use Rattle.base.proofs.Chain.{none-fails}
use Rattle.rules.specs.Tests.{board_sides, has_length, tile_number_fits, tiles_in}
use Rattle.rules.specs.Scores.{whole_score_checks}
use Rattle.rules.specs.Board.{Panel, board_of}
use Rattle.rules.specs.Promises.{panel}
use Rattle.rules.specs.declared.World.{World}
use Rattle.rules.specs.declared.Offset.{Offset}
use Rattle.rules.proofs.Answered.{was-written}
use Rattle.rules.proofs.Said.{counts-long}
use Rattle.stand.specs.Runs.{State, start, lay, lift, call, refusal_in, acted, accepted_in, Plan, told, state_of, elsewhere}
use Rattle.stand.proofs.Shared.{SoundKind, count_low}
use Rattle.stand.proofs.Calls.{low-plane}
use Rattle.stand.proofs.Flat.{flat_sound}
use Rattle.stand.proofs.Plans.{on-long}
use Rattle.stand.proofs.Stands.{Widenable, flat-may}
use Rattle.stand_forced.specs.Moves.{Move, act, played, acts_of, NamingAll}
use Rattle.stand_forced.proofs.Moves.{moves-stand, flat-forced-stay}
use Rattle.score_stand.specs.Rescoring.{Rescores, scores_in}

-- a state has its scores, whatever the plane held
pub its-scores : (s : State) (old left : List Float) → Rescores s old (Ok tt) left → left ≡ scores_in s
its-scores s old left p = (was-written _ _ _ p).1

-- so equal states have equal ones
same-scores : (s others : State) (old older left again : List Float) → s ≡ others → Rescores s old (Ok tt) left → Rescores others older (Ok tt) again → left ≡ again
same-scores s others old older left again e p q = its-scores s old left p ∙ ap scores_in e ∙ sym (its-scores others older again q)

-- a scoring of it is refused for the size, the number of tiles and the length of the plane alone
abbrev Scorable : State → List Float → Type 0
Scorable s old =
    board_sides s.panel.rows s.panel.cols ≡ true → tile_number_fits (tiles_in s.panel.tiles) ≡ true → length old ≡ s.panel.rows * s.panel.cols
    → refusal (whole_score_checks old s.board.counts s.panel.rows s.panel.cols (tiles_in s.panel.tiles)) ≡ 0

told-scorable : (t : Plan) (old : List Float) → Scorable (state_of t) old
unfolding state_of board_of has_length
told-scorable t old sides number long =
    let s : State = state_of t in
    none-fails (whole_score_checks old s.board.counts s.panel.rows s.panel.cols (tiles_in s.panel.tiles)) (
      sides,
      (eq-eqb _ _ long, (eq-eqb _ _ (counts-long _ _ _ ∙ on-long _ _), (number, low-plane _ _ (count_low _ _ _)))),
    )

module _ (j : Panel) (sound : SoundKind j.kind) where
  -- demand 3, where the plane was rescored after the last call
  pub scores-stand : (moves : List Move) → Widenable j.kind (acts_of (start j) moves) → (old left : List Float)
      → Rescores (played (start j) moves) old (Ok tt) left
      → left ≡ scores_in (state_of (told j (accepted_in (start j) (acts_of (start j) moves))))
  scores-stand moves may old left p = its-scores (played (start j) moves) old left p ∙ ap scores_in (moves-stand j sound moves may)

  -- and it can be rescored: the counts of such a board are never above the number of tiles
  pub rescoring-accepted : (moves : List Move) → Widenable j.kind (acts_of (start j) moves) → (old : List Float) → Scorable (played (start j) moves) old
  rescoring-accepted moves may old =
      subst (λ (s : State). Scorable s old) (sym (moves-stand j sound moves may)) (told-scorable (told j (accepted_in (start j) (acts_of (start j) moves))) old)

-- ---- the panels of the calls, whose grid is flat, with nothing asked

module _ (rows cols : ℕ) (tiles : List ℕ) (offset : Offset) where
  abbrev this : Panel
  this = panel rows cols tiles offset

  pub flat-scores-stand : (moves : List Move) (old left : List Float) → Rescores (played (start this) moves) old (Ok tt) left
      → left ≡ scores_in (state_of (told this (accepted_in (start this) (acts_of (start this) moves))))
  flat-scores-stand moves = scores-stand this flat_sound moves (flat-may (acts_of (start this) moves))

  -- a piece is laid and later lifted: scored at the end, the board has the scores of the same moves without the piece's, where the forced runs
  -- between are the lays that they made
  pub scores-never : (before between after : List Move) (w : World) (count colour : ℕ) (old older left again : List Float)
      → let there = played (start this) before in
      let made = acts_of (acted there (call (lay count w colour))) between in
      refusal_in there (call (lay count w colour)) ≡ 0
      → NamingAll count between
      → Rescores (played (start this) (before ++ act (call (lay count w colour)) ∷ between ++ act (call (lift count w)) ∷ after)) old (Ok tt) left
      → Rescores (played (start this) (before ++ map act (elsewhere w made) ++ after)) older (Ok tt) again
      → left ≡ again
  scores-never before between after w count colour old older left again lays names =
      same-scores _ _ old older left again (flat-forced-stay rows cols tiles offset before between after w count colour lays names)

  -- in the works' words: lay a piece, lift it, rescore, and every score is what it was
  pub laid-lifted-rescored : (moves : List Move) (w : World) (count colour : ℕ) (old older left again : List Float)
      → refusal_in (played (start this) moves) (call (lay count w colour)) ≡ 0
      → Rescores (played (start this) moves) old (Ok tt) left
      → Rescores (played (start this) (moves ++ act (call (lay count w colour)) ∷ act (call (lift count w)) ∷ [])) older (Ok tt) again
      → again ≡ left
  unfolding acts_of elsewhere
  laid-lifted-rescored moves w count colour old older left again lays p q =
      scores-never moves [] [] w count colour older old again left lays tt
      (subst (λ (l : List Move). Rescores (played (start this) l) older (Ok tt) again) (sym (append_assoc moves (act (call (lay count w colour)) ∷ []) (act (call (lift count w)) ∷ []))) q)
      (subst (λ (l : List Move). Rescores (played (start this) l) old (Ok tt) left) (sym (append-nil (moves ++ []) ∙ append-nil moves)) p)
