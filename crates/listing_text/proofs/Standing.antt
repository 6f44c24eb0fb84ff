-- Demand 3 of the listing program: its steps are the calls of a run from the fresh board, so the planes that it prints are what the pieces
-- standing after them say. Step by step, then by the theorem on runs. Assumes nothing.
use Prim.Native.Nat.{ℕ}
use mathlib.Core.Path.{◌≡◌, refl, sym, ◌∙◌, ap, subst}
use mathlib.Core.List.{List, [], ◌∷◌, map, map-map}
use Rattle.base.specs.Tables.{fold}
use Rattle.rules.specs.Board.{Panel, shape_of, Board, board_of}
use Rattle.rules.specs.Promises.{panel}
use Rattle.rules.specs.declared.Offset.{Offset}
use Rattle.stand.specs.Runs as Runs·
use Rattle.stand.proofs.Flat.{flat_sound}
use Rattle.stand.proofs.Stands.{calls-stand}
use Rattle.listing_job.specs.Form.{Step, lay, lift}
use Rattle.listing_steps.specs.Steps.{place_at, board_past, board_in}
use Rattle.listing_text.specs.Printed.{fresh_for}

-- the call of a step, which names the job's number of colours
abbrev call_of : ℕ → Step → Runs·.Call
call_of count (lay row col colour) = Runs·.lay count (place_at row col) colour
call_of count (lift row col) = Runs·.lift count (place_at row col)

-- the acts of the steps
abbrev acts_of : ℕ → List Step → List Runs·.Act
acts_of count l = map (λ s. Runs·.call (call_of count s)) l

step_is : (j : Panel) (count : ℕ) (b : Board) (s : Step) → board_past j count b s ≡ Runs·.step j b (call_of count s)
unfolding board_past
step_is j count b (lay row col colour) = refl
step_is j count b (lift row col) = refl

run_is : (j : Panel) (count : ℕ) (b : Board) (l : List Step) → board_in j count b l ≡ (Runs·.run (record { panel = j; board = b }) (acts_of count l)).board
unfolding board_in Runs·.run fold
run_is j count b [] = refl
run_is j count b (s ∷ l) =
    ap (λ (c : Board). board_in j count c l) (step_is j count b s) ∙ run_is j count (Runs·.step j b (call_of count s)) l

-- the program's panels are flat
module _ (rows cols : ℕ) (tiles : List ℕ) (offset : Offset) (count : ℕ) (l : List Step) where
  abbrev j : Panel
  j = panel rows cols tiles offset

  -- what the accepted steps say of the wall
  abbrev said : List Runs·.Act → List ℕ
  said acts = Runs·.pieces_on j (Runs·.told j (Runs·.accepted_in (Runs·.start j) acts)).wall

  printed-are : board_in j count (fresh_for j) l ≡ board_of (shape_of j) tiles (said (acts_of count l))
  unfolding fresh_for
  printed-are =
      run_is j count (fresh_for j) l
      ∙ subst (λ (acts : List Runs·.Act). (Runs·.run (Runs·.start j) acts).board ≡ board_of (shape_of j) tiles (said acts)) (map-map Runs·.call (call_of count) l)
      (calls-stand j flat_sound (map (call_of count) l))

  -- the pieces after the steps are those that the accepted ones say
  pub printed-told : (board_in j count (fresh_for j) l).pieces
      ≡ Runs·.pieces_on j (Runs·.told j (Runs·.accepted_in (Runs·.start j) (map (λ s. Runs·.call (call_of count s)) l))).wall
  unfolding board_of
  printed-told = ap (λ (b : Board). b.pieces) printed-are

  -- the planes after the steps are those that the standing pieces make
  pub printed-stands : board_in j count (fresh_for j) l ≡ board_of (shape_of j) tiles (board_in j count (fresh_for j) l).pieces
  printed-stands = printed-are ∙ ap (board_of (shape_of j) tiles) (sym printed-told)
