-- Document 02, request 9, in the answers of the listing call: laying never opens a choice.
--     lay-answers     a colour that a listing answers after a lay, the same listing answers before it
--     lift-answers    a colour that a listing answers before a lift, the same listing answers after it
--     can-shorten     what answers are, on one board: one that a lay shortens, and a refused one
-- The two theorems say too that the other listing is not refused. By one piece less: the checks pass as they did, and no colour leaves the list.
-- Assumes nothing.
use Prim.Native.Nat.{ℕ, zero, suc, ◌+◌, ◌*◌, ◌<◌, ◌≤◌}
use mathlib.Core.Path.{◌≡◌, refl, sym, ◌∙◌, ap, subst}
use mathlib.Core.Bool.{Bool, true, false}
use mathlib.Core.Logic.{⊎_elim}
use mathlib.Core.List.{List, [], ◌∷◌}
use native.Mathlib.Omega.{arith}
use lib.Dec.{eqb}
use lib.IntN.{pos}
use lib.ListN.{length, get_or, set, length-set}
use lib.Seq.{set-set, set-get_or}
use borrow.Author.Tests.{ltb-false, eqb-true}
use Rattle.base.specs.Counting.{every, some, tally, within}
use Rattle.base.specs.Tables.{tab}
use Rattle.base.specs.Refusal.{refusal}
use Rattle.base.specs.Whole.{within_z}
use Rattle.base.proofs.Bools.{never}
use Rattle.base.proofs.Counted.{every-at}
use Rattle.base.proofs.Numbers.{lt-or-le, within_low}
use Rattle.base.proofs.Chain.{all_pass, none-fails, either}
use Rattle.rules.specs.Bounds.{bare}
use Rattle.rules.specs.Tests.{board_sides, has_length, tile_number_fits, whole_tiles, colour_count, none_above, pieces_stored, piece_stored, on_wall, offset_fits, on_board}
use Rattle.rules.specs.Answers.{answered}
use Rattle.rules.specs.Sets.{has, bits_of}
use Rattle.rules.specs.Grid.{entry_or_past, flat}
use Rattle.rules.specs.Places.{cell_of}
use Rattle.rules.specs.Fit.{agrees, fits_tile, fit_count, has_fitting, allows, left_after, lists, listing_checks, found_at, listing}
use Rattle.rules.specs.Board.{Panel, Board, shape_of, entry_in, recounted, laid, lifted, fresh_board, lay_checks, lift_checks, after_lay, after_lift}
use Rattle.rules.specs.Promises.{panel}
use Rattle.rules.specs.declared.World.{World}
use Rattle.rules.specs.declared.TileBitset.{TileBitset}
use Rattle.fit.specs.Choices.{answers, asked}
use Rattle.rules.proofs.Fewer.{lists-fewer, under-lift, put-stored}
use Rattle.rules.proofs.Choices.{lay-off}
use Rattle.places.proofs.Indices.{entry-below}
use Rattle.bitset_colours.proofs.Digits.{bits-lt, bits-has, has-zero, has-past}

-- ---- what answers are, on one board: and one that gets shorter

-- the two chequer tiles on a board of three rows and columns
abbrev chequer : Panel
chequer = panel 3 3 (1 ∷ 2 ∷ 1 ∷ 2 ∷ 1 ∷ 2 ∷ 1 ∷ 2 ∷ 1 ∷ 2 ∷ 1 ∷ 2 ∷ 1 ∷ 2 ∷ 1 ∷ 2 ∷ 1 ∷ 2 ∷ []) (record { 0 = pos 0; 1 = pos 0 })

abbrev place : ℕ → ℕ → World
place r c = record { 0 = pos r; 1 = pos c }

abbrev bare_board : Board
bare_board = fresh_board 9 2

abbrev centre : Board
centre = after_lay chequer 2 bare_board (place 1 1) 1

-- in the corner 1 and 2 are answered, and with 1 laid in the middle 1 alone; a listing that names one colour is refused and answers none
pub can-shorten : (answers (asked chequer 2 (place 0 0) bare_board.pieces) 1 ≡ true)
    × (answers (asked chequer 2 (place 0 0) bare_board.pieces) 2 ≡ true)
    × (answers (asked chequer 2 (place 0 0) centre.pieces) 1 ≡ true)
    × (answers (asked chequer 2 (place 0 0) centre.pieces) 2 ≡ false)
    × (answers (asked chequer 1 (place 0 0) bare_board.pieces) 1 ≡ false)
unfolding listing refusal within within_z every some tally tab fresh_board board_sides has_length tile_number_fits whole_tiles colour_count none_above pieces_stored on_wall offset_fits on_board after_lay laid recounted fit_count fits_tile agrees left_after allows has_fitting flat entry_or_past cell_of has bits_of
can-shorten = (refl, refl, refl, refl, refl)

-- ---- the two theorems

-- an answer with a colour is no refusal
told : (n : ℕ) (s : TileBitset) (t : ℕ) → answers (answered n s) t ≡ true → (n ≡ 0) × (has s.bits t ≡ true)
told zero s t e = (refl, e)
told (suc n) s t e = never false e refl

-- a set made of more colours has those of one made of fewer
more-has : (n : ℕ) (f g : ℕ → Bool) (t : ℕ) → (f t ≡ true → g t ≡ true) → has (bits_of n f) t ≡ true → has (bits_of n g) t ≡ true
more-has n f g zero h e = never (has (bits_of n f) 0) e (has-zero (bits_of n f))
more-has n f g (suc k) h e =
    ⊎_elim
    (λ (past : n < suc k). never (has (bits_of n f) (suc k)) e (has-past n (bits_of n f) (suc k) (bits-lt n f) past))
    (λ (low : suc k ≤ n). bits-has n g (suc k) (omega arith) low ∙ h (sym (bits-has n f (suc k) (omega arith) low) ∙ e))
    (lt-or-le n (suc k))

-- a listing on any board of the panel: the number of colours that it names, and its place
module _ (j : Panel) (n : ℕ) (v : World) where
  -- one piece less
  one_less : (p : List ℕ) (k t : ℕ) → answers (asked j n v p) t ≡ true → answers (asked j n v (set p k bare)) t ≡ true
  unfolding listing has_length
  one_less p k t e =
      let w = told (refusal (listing_checks p j.rows j.cols j.tiles n v j.offset)) _ t e in
      let h = all_pass (listing_checks p j.rows j.cols j.tiles n v j.offset) refl w.0 in
      let long : eqb (length (set p k bare)) (j.rows * j.cols) ≡ true = ap (λ (m : ℕ). eqb m (j.rows * j.cols)) (length-set p k bare) ∙ h.0.1.0 in
      let rest = h.0.1.1 in
      let stored : pieces_stored (set p k bare) n ≡ true = put-stored p n k bare rest.1.1.1 (omega arith) (omega arith) in
      let passes : refusal (listing_checks (set p k bare) j.rows j.cols j.tiles n v j.offset) ≡ 0 =
      none-fails (listing_checks (set p k bare) j.rows j.cols j.tiles n v j.offset)
      ((h.0.0, (long, (rest.0, (rest.1.0, (rest.1.1.0, stored))))), h.1) in
      ap (λ (m : ℕ). answers (answered m (found_at (shape_of j) j.tiles (set p k bare) n (entry_in j v))) t) passes
      ∙ more-has n (lists (shape_of j) j.tiles p (entry_in j v)) (lists (shape_of j) j.tiles (set p k bare) (entry_in j v)) t
      (lists-fewer (shape_of j) j.tiles (under-lift p k) (entry_in j v) t) w.1

  -- a call of lay or lift that names so many colours, and its place
  module _ (count : ℕ) (b : Board) (place : World) where
    abbrev here : ℕ
    here = entry_in j place

    -- what is stored where an accepted lay finds no piece
    bare-there : (colour : ℕ) → refusal (lay_checks j count b place colour) ≡ 0 → get_or b.pieces here 0 ≡ bare
    unfolding has_length pieces_stored
    bare-there colour accepted =
        let h = all_pass (lay_checks j count b place colour) refl accepted in
        let long : length b.pieces ≡ j.rows * j.cols = eqb-true _ _ (search) in
        let k< : here < j.rows * j.cols = entry-below j.rows j.cols place j.offset (search) in
        let stored = every-at (piece_stored b.pieces count) (length b.pieces) (search) here (omega arith) in
        omega (arith, within_low 1 (count + 1) (get_or b.pieces here 0) stored, ltb-false 1 (get_or b.pieces here 0) (lay-off j count b place colour accepted))

    pub lift-answers : (t : ℕ) → answers (asked j n v b.pieces) t ≡ true → answers (asked j n v (after_lift j count b place).pieces) t ≡ true
    unfolding after_lift lifted
    lift-answers t e =
        either (λ (c : Board). answers (asked j n v c.pieces) t ≡ true) (refusal (lift_checks j count b place)) (λ accepted. one_less b.pieces here t e) e

    pub lay-answers : (colour t : ℕ) → answers (asked j n v (after_lay j count b place colour).pieces) t ≡ true → answers (asked j n v b.pieces) t ≡ true
    unfolding after_lay laid
    lay-answers colour t =
        either (λ (c : Board). answers (asked j n v c.pieces) t ≡ true → answers (asked j n v b.pieces) t ≡ true) (refusal (lay_checks j count b place colour))
        (λ accepted e.
        subst (λ (p : List ℕ). answers (asked j n v p) t ≡ true)
        (set-set b.pieces here (colour + 1) bare ∙ ap (set b.pieces here) (sym (bare-there colour accepted)) ∙ set-get_or b.pieces here 0)
        (one_less (set b.pieces here (colour + 1)) here t e))
        (λ e. e)
