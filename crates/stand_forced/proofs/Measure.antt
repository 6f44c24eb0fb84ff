-- The budget. A cell may still be taken if it is bare and either waits or lists a colour. Each taking leaves one such cell fewer: the cell
-- taken, while a cell that comes to wait lists a colour, and did so before (document 02, request 9).
--     taken-once    so no place is taken twice: once taken, it never waits again
--     never-more    entries taken and cells that may still be taken are together never more than the cells that were bare at first
--     few-taken     so no more entries are taken than there were bare cells
--     never-spent   and a budget of that many is never spent; nor is one of nine times as many (nine-times), nor the largest (largest-budget)
--     same-enough   two such budgets leave the same run
-- All of accepted runs; a refused one answers its refusal. Assumes nothing.
use Rattle.std.specs.Prelude.{Option, Ok}
use Prim.Native.Nat.{ℕ, zero, suc, ◌+◌, ◌*◌, ◌<◌, ◌≤◌}
use mathlib.Core.Path.{◌≡◌, refl, sym, ◌∙◌, ap, subst}
use mathlib.Core.Bool.{Bool, true, false, not, ◌&&◌, ◌||◌}
use mathlib.Core.Logic.{◌⊎◌, inl, inr, ⊎_elim}
use mathlib.Core.List.{List, [], ◌∷◌}
use native.Mathlib.Omega.{arith}
use borrow.Author.Tests.{ltb-true, lt-ltb, eqb-true, eqb-false}
use lib.Dec.{ltb, eqb}
use lib.ListN.{length, set, length-set}
use lib.Seq.{get_or-set_same, get_or-set_other}
use Rattle.base.specs.Counting.{tally}
use Rattle.base.specs.Refusal.{refusal}
use Rattle.base.proofs.Bools.{never, by-test, and_left, and_right, and_both, and-no-left, and-no-right, or_left, or_right, not-is-true, not-is-false}
use Rattle.base.proofs.Counted.{tally-le, tally-less, tally-fewer}
use Rattle.base.proofs.Each.{Each, each-so}
use Rattle.base.proofs.Numbers.{lt-or-le, mul-le, within_low}
use Rattle.rules.specs.Bounds.{max_board_side}
use Rattle.rules.specs.Grid.{laid_on}
use Rattle.rules.specs.Places.{same_place}
use Rattle.rules.specs.Answers.{Answer, answered, end_by}
use Rattle.rules.specs.declared.RanOut.{RanOut}
use Rattle.rules.specs.declared.RunEnd.{RunEnd}
use Rattle.rules.specs.declared.RunEnd.TheVariants as RunEnd·
use Rattle.rules.specs.Forced.{listed_at, forced_there, forced_round, is_queued, with_positions}
use Rattle.rules.specs.Board.{Panel, Board, shape_of, entry_in, laid}
use Rattle.rules.specs.ForcedRun.{Run, forced_by, run_checks, taking, stepped, run_out, running}
use Rattle.rules.specs.declared.World.{World}
use Rattle.rules.specs.declared.ForcedPosition.{ForcedPosition}
use Rattle.rules.proofs.Fewer.{under-lay}
use Rattle.rules.proofs.Queues.{each-with, each-forced}
use Rattle.rules.proofs.ForcedRun.{by-step, steps-full, steps-none, steps_next, begun-room, stays}
use Rattle.stand.specs.Runs.{wall_of}
use Rattle.stand.proofs.Walls.{lies, one_place, place-itself, cell_in, place-back, wall-cell, sides-in}
use Rattle.stand_forced.specs.Moves.{bare_cells}
use Rattle.rules.proofs.Listed.{listed-less, still-in}
use Rattle.stand_forced.proofs.Steps.{After, by-taking, all-taken}
use Rattle.stand_forced.proofs.Waiting.{Entered, enters, Apart, Waits, forced-one, keeps, next-kept, drop-is}
use Rattle.rules.specs.declared.BoundingBox.{BoundingBox}

-- ---- what waits

-- each entry of a queue is queued
each-queued : (l : List ForcedPosition) → Each (λ e. is_queued e.coordinates l ≡ true) l
unfolding is_queued
each-queued [] = tt
each-queued (e ∷ l) = (
  or_left _ _ (place-itself e.coordinates),
  each-so (λ x. is_queued x.coordinates l ≡ true) (λ x. is_queued x.coordinates (e ∷ l) ≡ true)
      (λ x q. or_right (same_place e.coordinates x.coordinates) _ q) l (each-queued l),
)

-- what holds of the place of each entry holds of a place that is queued
queued-so : (P : World → Type 0) (v : World) (l : List ForcedPosition) → Each (λ e. P e.coordinates) l → is_queued v l ≡ true → P v
unfolding is_queued
queued-so P v [] h q = never false q refl
queued-so P v (e ∷ l) (p, h) q =
    by-test (same_place e.coordinates v)
    (λ same. subst P (one_place e.coordinates v same) p)
    (λ other. queued-so P v l h (rw other at q))

-- ---- the cells that may still be taken

module _ (j : Panel) (count : ℕ) where
  -- the colours listed at cell k
  abbrev listed_on : ℕ → List ℕ → List ℕ
  listed_on k p = listed_at (shape_of j) j.tiles p count k

  -- cell k is bare, and it waits or lists a colour
  abbrev may : List ℕ → List ForcedPosition → ℕ → Bool
  may p l k = not (laid_on p k) && (is_queued (wall_of j k) l || ltb 0 (length (listed_on k p)))

  unfoldable pub may_be_taken : List ℕ → List ForcedPosition → ℕ
  may_be_taken p l = tally (length p) (may p l)

  few-may : (p : List ℕ) (l : List ForcedPosition) → may_be_taken p l ≤ bare_cells p
  unfolding may_be_taken bare_cells
  few-may p l = tally-less (may p l) (λ k. not (laid_on p k)) (length p) (λ k k<. and_left (not (laid_on p k)) _)

  module _ (p : List ℕ) (e : ForcedPosition) (rest : List ForcedPosition) (w : Waits j count p e) (long : length p ≡ j.rows * j.cols) where
    abbrev here : ℕ
    here = entry_in j e.coordinates

    in_p : here < length p
    in_p = omega (arith, cell_in j e.coordinates w.on.board)

    -- the cell of an entry that waits may be taken
    here-may : may p (e ∷ rest) here ≡ true
    unfolding is_queued
    here-may =
        and_both _ _ (not-is-true _ w.off)
        (or_left _ _ (or_left _ _ (ap (same_place e.coordinates) (place-back j e.coordinates w.on.board) ∙ place-itself e.coordinates)))

    -- dropped, it leaves a cell that neither waits nor lists a colour
    drop-gone : is_queued e.coordinates rest ≡ false → listed_on here p ≡ [] → may p rest here ≡ false
    drop-gone alone none =
        and-no-right (not (laid_on p here)) _
        (or-neither _ _ (ap (λ (v : World). is_queued v rest) (place-back j e.coordinates w.on.board) ∙ alone) (ap (λ (l : List ℕ). ltb 0 (length l)) none))
      where
        or-neither : (x y : Bool) → x ≡ false → y ≡ false → (x || y) ≡ false
        or-neither x y f g = rw (f, g)

    drop-before : (k : ℕ) → may p rest k ≡ true → may p (e ∷ rest) k ≡ true
    unfolding is_queued
    drop-before k on =
        and_both _ _ (and_left (not (laid_on p k)) _ on)
        (or-more (same_place e.coordinates (wall_of j k)) (is_queued (wall_of j k) rest) _ (and_right (not (laid_on p k)) _ on))
      where
        or-more : (x y z : Bool) → (y || z) ≡ true → ((x || y) || z) ≡ true
        or-more true y z h = refl
        or-more false y z h = h

    -- laid, it leaves a cell with a piece; and what waits then waited before, or lists a colour
    module _ (x : ℕ) (high : 1 < x) (l : List ForcedPosition)
        (from : (v : World) → is_queued v l ≡ true → (is_queued v rest ≡ true) ⊎ (0 < length (listed_on (entry_in j v) (set p here x)))) where
      abbrev q : List ℕ
      q = set p here x

      lay-gone : may q l here ≡ false
      lay-gone = and-no-left _ _ (not-is-false _ (ap (λ (y : ℕ). ltb 1 y) (get_or-set_same p here x 0 in_p) ∙ lt-ltb 1 x high))

      lists-some : (k : ℕ) → 0 < length (listed_on k q) → (is_queued (wall_of j k) (e ∷ rest) || ltb 0 (length (listed_on k p))) ≡ true
      lists-some k some =
          or_right (is_queued (wall_of j k) (e ∷ rest)) _
          (lt-ltb 0 (length (listed_on k p)) (omega (arith, listed-less (shape_of j) j.tiles count k (under-lay p here x w.off))))

      lay-before : (k : ℕ) → may q l k ≡ true → may p (e ∷ rest) k ≡ true
      unfolding is_queued
      lay-before k on =
          by-test (eqb k here)
          (λ same. subst (λ (i : ℕ). may p (e ∷ rest) i ≡ true) (sym (eqb-true k here same)) here-may)
          (λ other.
          and_both _ _
          (ap (λ (y : ℕ). not (ltb 1 y)) (sym (get_or-set_other p here k x 0 (eqb-false k here other))) ∙ and_left (not (laid_on q k)) _ on)
          (by-test (is_queued (wall_of j k) l)
          (λ waits.
          ⊎_elim
          (λ old. or_left _ _ (or_right (same_place e.coordinates (wall_of j k)) _ old))
          (λ new. lists-some k (subst (λ (i : ℕ). 0 < length (listed_on i q)) (wall-cell j k) new))
          (from (wall_of j k) waits))
          (λ idle. lists-some k (ltb-true 0 _ (rw idle at (and_right (not (laid_on q k)) _ on))))))

  -- a place that waits after an adding waited before, or lists a colour
  waits-from : (p : List ℕ) (rest : List ForcedPosition) (bounds : Option BoundingBox) (place v : World)
      → is_queued v (with_positions rest (forced_round j.kind p j.rows j.cols j.tiles count place j.offset bounds)) ≡ true
      → (is_queued v rest ≡ true) ⊎ (0 < length (listed_on (entry_in j v) p))
  unfolding forced_there
  waits-from p rest bounds place v =
      queued-so From v _
      (each-with (λ e. From e.coordinates) rest _
      (each-so (λ e. is_queued e.coordinates rest ≡ true) (λ e. From e.coordinates) (λ e q. inl q) rest (each-queued rest))
      (each-forced j.kind p j.rows j.cols j.tiles count place j.offset bounds (λ e. From e.coordinates)
      (λ u forced. inr (omega (arith, forced-one j count p u bounds forced)))))
    where
      From : World → Type 0
      From u = (is_queued u rest ≡ true) ⊎ (0 < length (listed_on (entry_in j u) p))

-- ---- at every moment of an accepted run

module _ (j : Panel) (count : ℕ) (bounds : Option BoundingBox) (b : Board) (place : World) (enter : Entered j count b.pieces) where
  abbrev at : ℕ → Run
  at n = run_out j count bounds b place n

  abbrev may_at : Run → ℕ → Bool
  may_at s k = may j count s.board.pieces s.queue k

  abbrev left : Run → ℕ
  left s = may_be_taken j count s.board.pieces s.queue

  -- an entry is taken, and then the run is s: its cell may not be taken again, nor may any cell that might not be taken before
  record Takes (n : ℕ) (e : ForcedPosition) (s : Run) : Type 0 where
    once : s.taken ≡ (at n).taken + 1
    same : length s.board.pieces ≡ length (at n).board.pieces
    in-grid : entry_in j e.coordinates < length (at n).board.pieces
    was : may_at (at n) (entry_in j e.coordinates) ≡ true
    gone : may_at s (entry_in j e.coordinates) ≡ false
    before : (k : ℕ) → may_at s k ≡ true → may_at (at n) k ≡ true

  takes : (n : ℕ) (e : ForcedPosition) (rest : List ForcedPosition) → (at n).queue ≡ e ∷ rest → Takes n e (taking j count bounds (at n) e rest)
  unfolding laid
  takes n e rest q =
      by-taking j count bounds (Takes n e) (at n) e rest
      (λ drop.
      record {
        once = refl;
        same = refl;
        in-grid = in_p j count p e rest w long;
        was = back k (here-may j count p e rest w long);
        gone = drop-gone j count p e rest w long next.1.0 ((drop-is j count (at n).board e w).0 drop);
        before = λ i on. back i (drop-before j count p e rest w long i on);
      })
      (λ still l full a.
      let some : 1 < e.colour + 1 = omega (arith, within_low 1 count e.colour (still-in j count (at n).board e still)) in
      record {
        once = refl;
        same = length-set p k (e.colour + 1);
        in-grid = in_p j count p e rest w long;
        was = back k (here-may j count p e rest w long);
        gone = lay-gone j count p e rest w long (e.colour + 1) some l (from l a);
        before = λ i on. back i (lay-before j count p e rest w long (e.colour + 1) some l (from l a) i on);
      })
    where
      p : List ℕ
      p = (at n).board.pieces

      k : ℕ
      k = entry_in j e.coordinates

      next : Each (Waits j count p) (e ∷ rest) × Apart (e ∷ rest)
      next = next-kept j count (at n) (keeps j count bounds b place enter n) q

      w : Waits j count p e
      w = next.0.0

      long : length p ≡ j.rows * j.cols
      long = (keeps j count bounds b place enter n).long

      back : (i : ℕ) → may j count p (e ∷ rest) i ≡ true → may_at (at n) i ≡ true
      back i on = subst (λ (l : List ForcedPosition). may j count p l i ≡ true) (sym q) on

      from : (l : List ForcedPosition) → After j count bounds (at n) e rest l → (v : World) → is_queued v l ≡ true
          → (is_queued v rest ≡ true) ⊎ (0 < length (listed_on j count (entry_in j v) (set p k (e.colour + 1))))
      from l a v waits =
          ⊎_elim
          (λ z. inl (subst (λ (m : List ForcedPosition). is_queued v m ≡ true) z waits))
          (λ z. waits-from j count _ rest bounds e.coordinates v (subst (λ (m : List ForcedPosition). is_queued v m ≡ true) z waits))
          a

  fewer : (n : ℕ) (e : ForcedPosition) (s : Run) → Takes n e s → left s < left (at n)
  unfolding may_be_taken
  fewer n e s h =
      subst (λ (m : ℕ). tally m (may_at s) < left (at n)) (sym h.same)
      (tally-fewer (may_at s) (may_at (at n)) (length (at n).board.pieces) (entry_in j e.coordinates) h.in-grid h.gone h.was (λ k l. h.before k))

  sums : (n : ℕ) → (at n).taken + left (at n) ≤ bare_cells b.pieces
  unfolding run_out
  sums zero =
      subst (λ (s : Run). s.taken + left s ≤ bare_cells b.pieces) (sym (begun-room j count bounds b place))
      (omega (arith, few-may j count b.pieces (with_positions [] (forced_by j count bounds b place))))
  sums (suc n) =
      by-step j count bounds (λ s. s.taken + left s ≤ bare_cells b.pieces) (at n) (λ f. sums n) (λ q. sums n)
      (λ e rest f q.
      let h = takes n e rest q in
      omega (arith, sums n, fewer n e (taking j count bounds (at n) e rest) h, h.once))

  -- while an entry waits, a cell may still be taken
  waits-low : {e : ForcedPosition} {rest : List ForcedPosition} (n : ℕ) → (at n).queue ≡ e ∷ rest → (at n).taken < bare_cells b.pieces
  waits-low {e} {rest} n q = omega (arith, sums n, fewer n e (taking j count bounds (at n) e rest) (takes n e rest q))

  -- so after as many steps as there were bare cells the run has ended
  ended : stepped j count bounds (at (bare_cells b.pieces)) ≡ at (bare_cells b.pieces)
  ended = at-end (at n).full (at n).queue refl refl
    where
      n : ℕ
      n = bare_cells b.pieces

      at-end : (full : Bool) (l : List ForcedPosition) → (at n).full ≡ full → (at n).queue ≡ l → stepped j count bounds (at n) ≡ at n
      at-end true l f q = steps-full j count bounds (at n) f
      at-end false [] f q = steps-none j count bounds (at n) f q
      at-end false (e ∷ rest) f q = absurd (omega (arith, waits-low n q, all-taken j count bounds b place n f q))

  -- a cell that may be taken later might be taken before
  step-before : (n k : ℕ) → may_at (at (suc n)) k ≡ true → may_at (at n) k ≡ true
  unfolding run_out
  step-before n k =
      by-step j count bounds (λ s. may_at s k ≡ true → may_at (at n) k ≡ true) (at n) (λ f on. on) (λ q on. on) (λ e rest f q. (takes n e rest q).before k)

  later-before : (m n k : ℕ) → m ≤ n → may_at (at n) k ≡ true → may_at (at m) k ≡ true
  later-before m zero k h on = let z : 0 ≡ m = omega arith in subst (λ (i : ℕ). may_at (at i) k ≡ true) z on
  later-before m (suc n) k h on =
      ⊎_elim
      (λ (l : n < m). let z : suc n ≡ m = omega arith in subst (λ (i : ℕ). may_at (at i) k ≡ true) z on)
      (λ (l : m ≤ n). later-before m n k l (step-before n k on))
      (lt-or-le n m)

  -- what waits may be taken
  queued-may : (n : ℕ) (v : World) → lies j v ≡ true → is_queued v (at n).queue ≡ true → may_at (at n) (entry_in j v) ≡ true
  queued-may n v on q =
      and_both _ _
      (not-is-true _
      (queued-so (λ u. laid_on (at n).board.pieces (entry_in j u) ≡ false) v (at n).queue
      (each-so (Waits j count (at n).board.pieces) (λ e. laid_on (at n).board.pieces (entry_in j e.coordinates) ≡ false) (λ e w. w.off) (at n).queue
      (keeps j count bounds b place enter n).wait)
      q))
      (or_left _ _ (ap (λ (u : World). is_queued u (at n).queue) (place-back j v on) ∙ q))

  once-only : {e : ForcedPosition} {rest : List ForcedPosition} (m n : ℕ) → (at m).full ≡ false → (at m).queue ≡ e ∷ rest → m < n
      → is_queued e.coordinates (at n).queue ≡ false
  unfolding run_out
  once-only {e} {rest} m n f q later =
      by-test (is_queued e.coordinates (at n).queue)
      (λ again.
      never (may_at (at (suc m)) (entry_in j e.coordinates))
      (later-before (suc m) n (entry_in j e.coordinates) later
      (queued-may n e.coordinates (next-kept j count (at m) (keeps j count bounds b place enter m) q).0.0.on.board again))
      (ap (λ (s : Run). may_at s (entry_in j e.coordinates)) (steps_next j count bounds (at m) e rest f q) ∙ (takes m e rest q).gone))
      (λ out. out)

-- the answer of a run that is spent, with so many taken and so many laid
abbrev pub spent_with : ℕ → ℕ → Answer RanOut
spent_with taken laid = Ok (record { end = RunEnd·.Spent; taken = taken; laid = laid })

not-spent : {taken lain t u : ℕ} (end : RunEnd) → (end ≡ RunEnd·.Spent → ⊥) → Ok (record { end = end; taken = taken; laid = lain }) ≡ spent_with t u → ⊥
not-spent {taken} {lain} {t} {u} end h a =
    let e : ◌≡◌ {A = RanOut} (record { end = end; taken = taken; laid = lain }) (record { end = RunEnd·.Spent; taken = t; laid = u }) = cc in
    h (ap (λ (r : RanOut). r.end) e)

-- it is given by an accepted run in which an entry waits
spent-by : (n : ℕ) (full : Bool) (l : List ForcedPosition) (taken laid t u : ℕ)
    → answered n (record { end = end_by full l; taken = taken; laid = laid }) ≡ spent_with t u
    → (n ≡ 0) × (full ≡ false) × (e : ForcedPosition) × (rest : List ForcedPosition) × (l ≡ e ∷ rest)
spent-by zero true l taken lain t u a = absurd (not-spent RunEnd·.Full (λ z. let x : ◌≡◌ {A = ℕ} 0 1 = cc in omega arith) a)
spent-by zero false [] taken lain t u a = absurd (not-spent RunEnd·.Done (λ z. let x : ◌≡◌ {A = ℕ} 0 1 = cc in omega arith) a)
spent-by zero false (e ∷ rest) taken lain t u a = (refl, refl, e, rest, refl)
spent-by (suc n) full l taken lain t u a = absurd (let z : ◌≡◌ {A = ℕ} 0 1 = cc in omega arith)

module _ (j : Panel) (count : ℕ) (bounds : Option BoundingBox) (b : Board) (place : World) where
  module _ (budget : ℕ) (accepted : refusal (run_checks j count b place bounds budget) ≡ 0) where
    enter : Entered j count b.pieces
    enter = enters j count b place bounds budget accepted

    -- the place of an entry that is taken never waits again
    pub taken-once : {e : ForcedPosition} {rest : List ForcedPosition} (m n : ℕ) → (run_out j count bounds b place m).full ≡ false
        → (run_out j count bounds b place m).queue ≡ e ∷ rest → m < n → is_queued e.coordinates (run_out j count bounds b place n).queue ≡ false
    taken-once = once-only j count bounds b place enter

    pub never-more : (n : ℕ) → let s = run_out j count bounds b place n in s.taken + may_be_taken j count s.board.pieces s.queue ≤ bare_cells b.pieces
    never-more = sums j count bounds b place enter

    pub few-taken : (n : ℕ) → (run_out j count bounds b place n).taken ≤ bare_cells b.pieces
    few-taken n = omega (arith, never-more n)

    pub same-enough : (m n : ℕ) → bare_cells b.pieces ≤ m → bare_cells b.pieces ≤ n → run_out j count bounds b place m ≡ run_out j count bounds b place n
    same-enough m n more enough =
        let still = ended j count bounds b place enter in
        stays j count bounds b place (bare_cells b.pieces) m still more ∙ sym (stays j count bounds b place (bare_cells b.pieces) n still enough)

  -- a budget that is spent is smaller than the bare cells
  spent-low : (budget t l : ℕ) → running j count b place bounds budget ≡ spent_with t l → (budget < bare_cells b.pieces) × Entered j count b.pieces
  unfolding running
  spent-low budget t l spent =
      let s : Run = run_out j count bounds b place budget in
      let h = spent-by (refusal (run_checks j count b place bounds budget)) s.full s.queue s.taken (length s.lain) t l spent in
      let accepted = enters j count b place bounds budget h.0 in
      (omega (arith, waits-low j count bounds b place accepted budget h.4, all-taken j count bounds b place budget h.1 h.4), accepted)

  -- as many entries as there are bare cells are never spent
  pub never-spent : (budget t l : ℕ) → bare_cells b.pieces ≤ budget → running j count b place bounds budget ≡ spent_with t l → ⊥
  never-spent budget t l enough spent = omega (arith, (spent-low budget t l spent).0)

  -- "With a budget of at least nine times the bare cells, the end is never spent"
  pub nine-times : (budget t l : ℕ) → 9 * bare_cells b.pieces ≤ budget → running j count b place bounds budget ≡ spent_with t l → ⊥
  nine-times budget t l enough = never-spent budget t l (omega arith)

  pub largest-budget : (t l : ℕ) → running j count b place bounds 4096 ≡ spent_with t l → ⊥
  unfolding bare_cells
  largest-budget t l spent =
      let h = spent-low 4096 t l spent in
      let sides = sides-in j.rows j.cols h.1.panel.sides in
      let few : j.rows * j.cols ≤ max_board_side * max_board_side = mul-le sides.rows-low sides.cols-low in
      omega (arith, h.0, h.1.long, tally-le (λ k. not (laid_on b.pieces k)) (length b.pieces))
