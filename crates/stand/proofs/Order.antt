-- "So the board equals one where only the standing pieces were laid, in any order": for any run, widenings included, and any order of the
-- pieces that stand after it, laid on a fresh board of the last panel by the rule of lay they leave the board of the run (any_order); and so
-- they do by the call, each lay accepted, if all name the largest number of colours (any-order-laid), or any number in bounds that has those
-- of the tiles and the pieces (any-order-named).
-- Laid row by row they leave the plane bit by bit; two neighbours in the list lie on two cells, so they can change places. Assumes nothing.
use Prim.Native.Nat.{ℕ, zero, suc, ◌+◌, ◌*◌, ◌<◌, ◌≤◌}
use mathlib.Core.Path.{◌≡◌, refl, sym, ◌∙◌, ap, subst}
use mathlib.Core.Bool.{Bool, true, false, not}
use mathlib.Core.Logic.{◌≢◌}
use mathlib.Core.List.{List, [], ◌∷◌, ◌++◌}
use native.Mathlib.Nat.{le_refl}
use native.Mathlib.Numerals.{add-one}
use native.Mathlib.Omega.{arith}
use lib.Dec.{ltb}
use lib.ListN.{length, get_or}
use lib.Seq.{get_or-set_same, get_or-set_other, set_comm}
use borrow.Author.Tests.{ltb-true, ltb-false, lt-ltb, not-true}
use Rattle.base.specs.Counting.{pick}
use Rattle.base.specs.Tables.{tab, those, fold}
use Rattle.base.proofs.Bools.{never}
use Rattle.base.proofs.Chain.{has_new}
use Rattle.base.proofs.Counted.{every-is, every-at}
use Rattle.base.proofs.Numbers.{within_low, within-high, within-is}
use Rattle.base.proofs.Tabled.{length-tab, get_d-tab, is-tab}
use Rattle.base.proofs.Swept.{swept, swept_none, swept-above, swept-turn, swept-skip, swept_all}
use Rattle.rules.specs.Bounds.{max_colours, bare}
use Rattle.rules.specs.Tests.{colour_count, none_above, pieces_stored, piece_stored}
use Rattle.rules.specs.Grid.{Kind, laid_on, colour_on}
use Rattle.rules.specs.Board.{Panel, shape_of, entry_in, Board}
use Rattle.stand.specs.Runs.{State, fresh, start, Call, lay, Act, call, refusal_of, step, run, accepted_in, Piece, wall_of, standing, Reordered, none, keep, swap, twice, laid_all, lays}
use Rattle.stand.proofs.Shared.{Sound, SoundKind}
use Rattle.stand.proofs.Walls.{cell_in, sides-in, wall-on, wall-cell}
use Rattle.stand.proofs.Calls.{InBounds, Named, Taken, other, taken, Good, of_pieces, puts, changed, step_by, changed-is, nothing, fresh-of, nothing-good, puts-good, puts-stored}
use Rattle.stand.proofs.Stands.{Widenable, kind-stays, says_all, pieces-good}

-- where a piece stands, so many colours may be named of the tiles and the pieces
abbrev May : Panel → List ℕ → ℕ → Type 0
May j p count = (k : ℕ) → k < j.rows * j.cols → laid_on p k ≡ true → Named j.tiles count × (pieces_stored p count ≡ true)

-- a panel with the board that its pieces say
abbrev pub with_pieces : Panel → List ℕ → State
with_pieces j p = record { panel = j; board = of_pieces j p }

module _ (j : Panel) (count : ℕ) where
  abbrev laying : Piece → Call
  laying x = lay count x.place x.colour

  abbrev cell : Piece → ℕ
  cell x = entry_in j x.place

  -- each of these lays is taken, from the pieces q on, and they leave the pieces r
  abbrev pub Lays : List ℕ → List Piece → List ℕ → Type 0
  Lays q [] r = q ≡ r
  Lays q (x ∷ xs) r = Taken j q (laying x) × Lays (puts j q (laying x)) xs r

  pub then-lays : (q : List ℕ) (xs : List Piece) (r : List ℕ) (ys : List Piece) (s : List ℕ) → Lays q xs r → Lays r ys s → Lays q (xs ++ ys) s
  then-lays q [] r ys s e l = subst (λ (m : List ℕ). Lays m ys s) (sym e) l
  then-lays q (x ∷ xs) r ys s (t, k) l = (t, then-lays (puts j q (laying x)) xs r ys s k l)

  -- the lays leave colours of the count that they name
  lays-stored : (q : List ℕ) (xs : List Piece) (r : List ℕ) → Lays q xs r → pieces_stored q count ≡ true → pieces_stored r count ≡ true
  lays-stored q [] r e s = subst (λ (m : List ℕ). pieces_stored m count ≡ true) e s
  lays-stored q (x ∷ xs) r (t, l) s = lays-stored (puts j q (laying x)) xs r l (puts-stored j q (laying x) t)

  nothing_stored : pieces_stored (nothing j) count ≡ true
  unfolding pieces_stored
  nothing_stored =
      every-is (piece_stored (nothing j) count) (length (nothing j))
      (λ k k<.
      rw (get_d-tab (j.rows * j.cols) (λ i. bare) k 0 (omega (arith, length-tab (j.rows * j.cols) (λ i. bare))))
      (within-is 1 (count + 1) 1 (omega arith) (omega arith)))

  -- ---- the lays in another order

  -- two lays that are taken one after the other are on two cells
  two_cells : (q : List ℕ) (x y : Piece) → Good j q → Taken j q (laying x) → Taken j (puts j q (laying x)) (laying y) → cell y ≢ cell x
  two_cells q x y good tx ty e =
      let here : get_or (puts j q (laying x)) (cell y) 0 ≡ x.colour + 1 =
      rw e (get_or-set_same q (cell x) (x.colour + 1) 0 (omega (arith, good.long, cell_in j x.place tx.on.board))) in
      let low : 1 ≤ x.colour = within_low 1 count x.colour tx.own.0 in
      never (ltb 1 (get_or (puts j q (laying x)) (cell y) 0)) (lt-ltb 1 (get_or (puts j q (laying x)) (cell y) 0) (omega arith)) (not-true _ ty.own.1)

  reorder : (q : List ℕ) (ys xs : List Piece) (r : List ℕ) → Reordered ys xs → Good j q → Lays q xs r → Lays q ys r
  reorder q ys xs r none good l = l
  reorder q ys xs r (keep x {ps} {qs} h) good (t, l) = (t, reorder (puts j q (laying x)) ps qs r h (puts-good j q (laying x) good t) l)
  reorder q ys xs r (swap y x ps) good (tx, (ty, l)) =
      let ne : cell y ≢ cell x = two_cells q x y good tx ty in (
        first y x tx.stored ne ty,
        (
          other j q (puts j q (laying y)) (laying x) (puts-stored j q (laying y) (first y x tx.stored ne ty)) (get_or-set_other q (cell y) (cell x) (y.colour + 1) 0 (λ e. ne (sym e))) tx,
          subst (λ (m : List ℕ). Lays m ps r) (set_comm q (cell x) (cell y) (x.colour + 1) (y.colour + 1) (λ e. ne (sym e))) l,
        ),
      )
    where
      -- the second lay, made first
      first : (y x : Piece) → pieces_stored q count ≡ true → cell y ≢ cell x → Taken j (puts j q (laying x)) (laying y) → Taken j q (laying y)
      first y x s ne ty = other j (puts j q (laying x)) q (laying y) s (sym (get_or-set_other q (cell x) (cell y) (x.colour + 1) 0 ne)) ty
  reorder q ys xs r (twice {ps} {qs} {rs} h i) good l = reorder q ps qs r h good (reorder q qs rs r i good l)

  -- ---- the lays row by row

  module _ (p : List ℕ) (good : Good j p) (may : May j p count) where
    abbrev stored : ℕ → ℕ
    stored k = get_or p k 0

    abbrev piece : ℕ → Piece
    piece k = record { place = wall_of j k; colour = colour_on p k }

    -- the pieces below cell n laid, and no other
    abbrev up_to : ℕ → List ℕ
    up_to n = swept 0 n stored (nothing j)

    bare-at : (n : ℕ) → n < j.rows * j.cols → get_or (up_to n) n 0 ≡ bare
    bare-at n n< =
        swept-above 0 n stored (nothing j) n (omega (arith, length-tab (j.rows * j.cols) (λ k. bare))) (le_refl n)
        ∙ get_d-tab (j.rows * j.cols) (λ k. bare) n 0 n<

    next-taken : (n : ℕ) → n < j.rows * j.cols → laid_on p n ≡ true → pieces_stored (up_to n) count ≡ true → Taken j (up_to n) (laying (piece n))
    unfolding pieces_stored
    next-taken n n< on s =
        let panel : InBounds j = (good.backed n n< on).0 in
        let m = may n n< on in
        let low : 1 < stored n = ltb-true 1 (stored n) on in
        let high : stored n ≤ count + 1 =
        within-high 1 (count + 1) (stored n) (every-at (piece_stored p count) (length p) m.1 n (omega (arith, good.long))) in
        let here : get_or (up_to n) (cell (piece n)) 0 ≡ bare = rw (wall-cell j n) (bare-at n n<) in
        record {
          panel = panel;
          named = m.0;
          stored = s;
          on = wall-on j n (sides-in j.rows j.cols panel.sides) panel.offset n<;
          own = (within-is 1 count (colour_on p n) (omega arith) (omega arith), ap (λ (x : ℕ). not (ltb 1 x)) here);
        }

    row-by-row : (n : ℕ) → n ≤ j.rows * j.cols → Lays (nothing j) (those n (laid_on p) piece) (up_to n)
    unfolding those
    row-by-row zero h = swept_none 0 stored (nothing j)
    row-by-row (suc n) h =
        let before : Lays (nothing j) (those n (laid_on p) piece) (up_to n) = row-by-row n (omega arith) in
        then-lays (nothing j) (those n (laid_on p) piece) (up_to n) (pick (laid_on p n) (piece n ∷ []) []) (up_to (suc n))
        before
        (one_more (lays-stored (nothing j) (those n (laid_on p) piece) (up_to n) before nothing_stored) (laid_on p n) refl)
      where
        long : length (nothing j) ≡ j.rows * j.cols
        long = length-tab (j.rows * j.cols) (λ k. bare)

        one_more : pieces_stored (up_to n) count ≡ true → (t : Bool) → laid_on p n ≡ t → Lays (up_to n) (pick t (piece n ∷ []) []) (up_to (suc n))
        one_more s true on = (
          next-taken n h on s,
          rw (wall-cell j n, ← add-one n)
              (swept-turn 0 (up_to n) (nothing j) n stored (colour_on p n + 1) (omega (arith, long)) refl (omega (arith, ltb-true 1 (stored n) on))),
        )
        one_more s false off =
            rw (← add-one n)
            (swept-skip 0 (up_to n) (nothing j) n (n + 1) stored (omega arith)
            (λ k a b c.
            let same : k ≡ n = omega arith in
            let low : 1 ≤ stored n = within_low 1 (max_colours + 1) (stored n) (good.coloured n h) in
            let high : stored n ≤ 1 = ltb-false 1 (stored n) off in
            rw same (omega (arith, get_d-tab (j.rows * j.cols) (λ i. bare) n 0 h)))
            refl)

    all_laid : Lays (nothing j) (standing j p) p
    unfolding standing
    all_laid =
        subst (Lays (nothing j) (standing j p))
        (swept_all 0 (j.rows * j.cols) stored (nothing j) (omega (arith, length-tab (j.rows * j.cols) (λ k. bare)))
        ∙ ap (λ (n : ℕ). tab n stored) (length-tab (j.rows * j.cols) (λ k. bare))
        ∙ sym (is-tab 0 p (j.rows * j.cols) stored good.long (λ k k<. refl)))
        (row-by-row (j.rows * j.cols) (le_refl _))

  -- ---- as a run

  pub as-run : Sound (shape_of j) → (q : List ℕ) (xs : List Piece) (r : List ℕ) → Good j q → Lays q xs r
      → (accepted_in (with_pieces j q) (lays count xs) ≡ lays count xs) × (run (with_pieces j q) (lays count xs) ≡ with_pieces j r)
  unfolding accepted_in run fold lays
  as-run sound q [] r good e = (refl, ap (with_pieces j) e)
  as-run sound q (x ∷ xs) r good (t, l) =
      let rest = as-run sound (puts j q (laying x)) xs r (puts-good j q (laying x) good t) l in (
        has_new _ (call (laying x) ∷ later) later yes'
            ∙ ap (λ (cs : List Act). call (laying x) ∷ cs) (ap (λ (s : State). accepted_in s (lays count xs)) left ∙ rest.0),
        ap (λ (s : State). run s (lays count xs)) left ∙ rest.1,
      )
    where
      yes' : refusal_of j (of_pieces j q) (laying x) ≡ 0
      yes' = taken j q good (laying x) t

      later : List Act
      later = accepted_in (record { panel = j; board = step j (of_pieces j q) (laying x) }) (lays count xs)

      left : ◌≡◌ {A = State} (record { panel = j; board = step j (of_pieces j q) (laying x) }) (with_pieces j (puts j q (laying x)))
      left =
          ap (λ (b : Board). record { panel = j; board = b })
          (step_by j (of_pieces j q) (laying x)
          ∙ has_new _ (changed j (of_pieces j q) (laying x)) (of_pieces j q) yes'
          ∙ changed-is j sound q (laying x) good t)

  -- ---- by the rule of lay alone

  by-rule : Sound (shape_of j) → (q : List ℕ) (xs : List Piece) (r : List ℕ) → Good j q → Lays q xs r → laid_all j (of_pieces j q) xs ≡ of_pieces j r
  unfolding laid_all fold
  by-rule sound q [] r good e = ap (of_pieces j) e
  by-rule sound q (x ∷ xs) r good (t, l) =
      ap (λ (b : Board). laid_all j b xs) (changed-is j sound q (laying x) good t)
      ∙ by-rule sound (puts j q (laying x)) xs r (puts-good j q (laying x) good t) l

-- ---- any good pieces

-- the largest number of colours may always be named
largest-may : (j : Panel) (p : List ℕ) → Good j p → May j p max_colours
unfolding pieces_stored
largest-may j p good k k< on = (
  (good.backed k k< on).1,
  every-is (piece_stored p max_colours) (length p) (λ i i<. good.coloured i (omega (arith, good.long))),
)

module _ (j : Panel) (sound : Sound (shape_of j)) (p : List ℕ) (good : Good j p) (pieces : List Piece) (order : Reordered pieces (standing j p)) where
  -- the pieces laid in this order
  laid_so : (count : ℕ) → May j p count → Lays j count (nothing j) pieces p
  laid_so count may = reorder j count (nothing j) pieces (standing j p) p order (nothing-good j) (all_laid j count p good may)

  ruled : laid_all j (fresh j) pieces ≡ of_pieces j p
  ruled = ap (λ (b : Board). laid_all j b pieces) (fresh-of j) ∙ by-rule j max_colours sound (nothing j) pieces p (nothing-good j) (laid_so max_colours (largest-may j p good))

  called : (count : ℕ) → May j p count
      → (accepted_in (start j) (lays count pieces) ≡ lays count pieces) × (run (start j) (lays count pieces) ≡ with_pieces j p)
  called count may =
      let done = as-run j count sound (nothing j) pieces p (nothing-good j) (laid_so count may) in
      let from : start j ≡ with_pieces j (nothing j) = ap (λ (b : Board). record { panel = j; board = b }) (fresh-of j) in (
        ap (λ (s : State). accepted_in s (lays count pieces)) from ∙ done.0,
        ap (λ (s : State). run s (lays count pieces)) from ∙ done.1,
      )

-- ---- the pieces of a run

module _ (j : Panel) (sound : SoundKind j.kind) (acts : List Act) (may : Widenable j.kind acts) (pieces : List Piece) where
  -- the panel after the run, and the pieces that it leaves
  abbrev last : Panel
  last = (run (start j) acts).panel

  abbrev left : List ℕ
  left = (run (start j) acts).board.pieces

  sound-last : Sound (shape_of last)
  sound-last = subst (λ (kind : Kind). Sound (kind last.rows last.cols)) (sym (kind-stays j sound acts may)) (sound _ _)

  good : Good last left
  good = pieces-good j sound acts may

  module _ (order : Reordered pieces (standing last left)) where
    at_last : (count : ℕ) → May last left count
        → (accepted_in (start last) (lays count pieces) ≡ lays count pieces) × (run (start last) (lays count pieces) ≡ run (start j) acts)
    at_last count named =
        let done = called last sound-last left good pieces order count named in
        (done.0, done.1 ∙ ap (λ (b : Board). record { panel = last; board = b }) (sym (says_all j sound acts may)))

    -- "So the board equals one where only the standing pieces were laid, in any order": laid by the rule
    pub any_order : laid_all last (fresh last) pieces ≡ (run (start j) acts).board
    any_order = ruled last sound-last left good pieces order ∙ sym (says_all j sound acts may)

    -- laid by the call; each of those lays is accepted
    pub any-order-laid : (accepted_in (start last) (lays max_colours pieces) ≡ lays max_colours pieces) × (run (start last) (lays max_colours pieces) ≡ run (start j) acts)
    any-order-laid = at_last max_colours (largest-may last left good)

    -- the same with any number of colours that is in bounds and has those of the tiles and of the pieces
    pub any-order-named : (count : ℕ) → colour_count count ≡ true → none_above last.tiles count ≡ true → pieces_stored left count ≡ true
        → (accepted_in (start last) (lays count pieces) ≡ lays count pieces) × (run (start last) (lays count pieces) ≡ run (start j) acts)
    any-order-named count n t s = at_last count (λ k k< on. (record { within = n; cells = t }, s))
