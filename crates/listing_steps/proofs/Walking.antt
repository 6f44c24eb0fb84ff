-- Laws of the walk along the steps: the number of what a call answers, what a step somewhere in the list is, where the next one starts, and
-- the loop that takes one after the other. Its invariant is that what is left to do, from the board and the page as they are, comes to the
-- whole.
-- Assumes nothing.
use Prim.Native.Nat.{ℕ, suc, ◌+◌, ◌<◌, ◌≤◌}
use mathlib.Core.Path.{◌≡◌, refl, sym, ◌∙◌, ap, subst}
use mathlib.Core.Bool.{true, false}
use mathlib.Core.List.{List, [], ◌∷◌, ◌++◌}
use lib.IntN.{pos}
use mir.Syntax.{w32}
use mir.Val.{to_z}
use native.Mathlib.Omega.{arith}
use lib.Dec.{eqb}
use lib.ListN.{length, get_or, drop, drop_of_length-le}
use lib.Seq.{get_or-drop}
use borrow.Author.Tests.{eqb-true, eqb-false, ne_eqb}
use Rattle.std.specs.Prelude.{Ok, Err}
use Rattle.base.specs.Tables.{fold}
use Rattle.base.proofs.Bools.{by-test, never}
use Rattle.base.specs.Refusal.{◌unless◌, refusal, Gives}
use Rattle.base.proofs.Signs.{counted}
use Rattle.rules.specs.Board.{Panel, Board, lay_checks, laying, after_lay, lift_checks, lifting, after_lift}
use Rattle.rules.specs.Promises.{Lays, Lifts}
use Rattle.rules.specs.declared.World.{World}
use Rattle.rules.specs.Answers.{Answer, answered, checked, number_of, number}
use Rattle.listing_numbers.specs.Input.{max_number}
use Rattle.listing_job.specs.Form.{Step, lay, lift, Steps, misformed, steps, and_then, steps_in, is_whole, list_of, step_end}
use Rattle.listing_job.proofs.Forming.{Starts, lay_by, lift_by, lays, lifts, step-at, not-cut, other_at, end-lay, end-lift}
use Rattle.listing_lines.specs.Lines.{number_line}
use Rattle.listing_lines.specs.Pages.{Prints}
use Rattle.listing_lines.proofs.Written.{writes-none, writes_then, writes_as}
use Rattle.listing_steps.specs.Steps.{place_at, answer_to, board_past, answers_text, board_in}
use Rattle.rules.proofs.Answered.{by-number}
use Rattle.rules.proofs.Numbers.{up-to-ten, told-number}
use Rattle.listing_steps.specs.Walks.{Walks, step_at, steps_from, Stepped, Ran}

-- ---- the number of an answer

-- what a call answers has the number that its checks give, whatever it is called with
pub lay-number-of : (j : Panel) (count : ℕ) (b : Board) (place : World) (colour : ℕ)
    → number_of (laying j count b place colour) ≡ refusal (lay_checks j count b place colour)
lay-number-of j count b place colour =
    let cs = lay_checks j count b place colour in told-number (refusal cs) tt (up-to-ten cs refl)

pub lift-number-of : (j : Panel) (count : ℕ) (b : Board) (place : World) → number_of (lifting j count b place) ≡ refusal (lift_checks j count b place)
lift-number-of j count b place =
    let cs = lift_checks j count b place in told-number (refusal cs) tt (up-to-ten cs refl)

-- and every answer is the one that its number names
pub number-answered : (a : Answer Unit) → answered (number_of a) tt ≡ a
unfolding refusal
number-answered (Ok tt) = refl
number-answered (Err r) = sym (by-number (number r unless false) refl)

step-number-of : (j : Panel) (count : ℕ) (b : Board) (s : Step) → number_of (answered {A = Unit {0}} (answer_to j count b s) tt) ≡ answer_to j count b s
unfolding answer_to
step-number-of j count b (lay row col colour) = lay-number-of j count b (place_at row col) colour
step-number-of j count b (lift row col) = lift-number-of j count b (place_at row col)

-- ---- the step somewhere in the list
first_of : (s : Step) (x : Steps) → is_whole (and_then s x) ≡ true → (list_of (and_then s x) ≡ s ∷ list_of x) × (is_whole x ≡ true)
first_of s misformed t = never false t refl
first_of s (steps l) t = (refl, refl)

-- what follows a step: where it ends, what it is, and what is left
pub record Follows (ns : List ℕ) (p : ℕ) : Type 0 where
  pub fits : step_end ns p ≤ length ns
  pub splits : steps_from ns p ≡ step_at ns p ∷ steps_from ns (step_end ns p)
  pub whole : is_whole (steps_in (drop (step_end ns p) ns)) ≡ true

module _ (ns : List ℕ) (p : ℕ) (h : p < length ns) (t : is_whole (steps_in (drop p ns)) ≡ true) where
  follow : (n w : ℕ) (make : List ℕ → Step) → Starts n w make → get_or ns p 0 ≡ n → p + suc w ≡ step_end ns p → make (drop (suc p) ns) ≡ step_at ns p → Follows ns p
  follow n w make s e f g =
      let k : p + suc w ≤ length ns = not-cut ns p h n w make s e t in
      let at : steps_in (drop p ns) ≡ and_then (make (drop (suc p) ns)) (steps_in (drop (p + suc w) ns)) = step-at ns p h n w make s e k in
      let o = first_of (make (drop (suc p) ns)) (steps_in (drop (p + suc w) ns)) (sym (ap is_whole at) ∙ t) in
      record {
        fits = rw (← f) k;
        splits = ap list_of at ∙ o.0 ∙ ap (λ (q : Step). q ∷ steps_from ns (p + suc w)) g
            ∙ ap (λ (m : ℕ). step_at ns p ∷ steps_from ns m) f;
        whole = subst (λ (m : ℕ). is_whole (steps_in (drop m ns)) ≡ true) f o.1;
      }

  nth : (i : ℕ) → get_or (drop (suc p) ns) i 0 ≡ get_or ns (p + suc i) 0
  nth i = let e : suc p + i ≡ p + suc i = omega arith in get_or-drop (suc p) ns i 0 ∙ ap (λ (k : ℕ). get_or ns k 0) e

  pub at-lay : get_or ns p 0 ≡ 1 → step_at ns p ≡ lay (get_or ns (p + 1) 0) (get_or ns (p + 2) 0) (get_or ns (p + 3) 0)
  unfolding step_at
  at-lay e = rw e

  pub at-lift : (get_or ns p 0 ≡ 1 → ⊥) → step_at ns p ≡ lift (get_or ns (p + 1) 0) (get_or ns (p + 2) 0)
  unfolding step_at
  at-lift a = rw (ne_eqb (get_or ns p 0) 1 a)

  follows-lay : get_or ns p 0 ≡ 1 → Follows ns p
  follows-lay e = follow 1 3 lay_by lays e (end-lay ns p h e) (rw (nth 0, nth 1, nth 2) (sym (at-lay e)))

  pub is-lift : (get_or ns p 0 ≡ 1 → ⊥) → get_or ns p 0 ≡ 2
  is-lift a =
      by-test (eqb (get_or ns p 0) 2) (λ u. eqb-true (get_or ns p 0) 2 u)
      (λ u. never true refl (sym t ∙ ap is_whole (other_at ns p h a (eqb-false (get_or ns p 0) 2 u))))

  follows-lift : (get_or ns p 0 ≡ 1 → ⊥) → Follows ns p
  follows-lift a = follow 2 2 lift_by lifts (is-lift a) (end-lift ns p h a (is-lift a)) (rw (nth 0, nth 1) (sym (at-lift a)))

  pub follows : Follows ns p
  follows = by-test (eqb (get_or ns p 0) 1) (λ u. follows-lay (eqb-true (get_or ns p 0) 1 u)) (λ u. follows-lift (eqb-false (get_or ns p 0) 1 u))

  -- the numbers that a step reads are there
  pub three : p + 2 < length ns
  three =
      by-test (eqb (get_or ns p 0) 1)
      (λ u. let e : get_or ns p 0 ≡ 1 = eqb-true (get_or ns p 0) 1 u in omega (arith, not-cut ns p h 1 3 lay_by lays e t))
      (λ u. let a : get_or ns p 0 ≡ 1 → ⊥ = eqb-false (get_or ns p 0) 1 u in omega (arith, not-cut ns p h 2 2 lift_by lifts (is-lift a) t))

  pub four : get_or ns p 0 ≡ 1 → p + 3 < length ns
  four e = omega (arith, not-cut ns p h 1 3 lay_by lays e t)

-- ---- the loop over the steps
module _ (j : Panel) (count : ℕ) (ns : List ℕ) (b₀ : Board) (l₀ : List Step) (at : ℕ) (x : List ℕ) where
  pub record Running (p q : ℕ) (b : Board) (y : List ℕ) : Type 0 where
    pub walks : Walks ns p
    pub boards : board_in j count b (steps_from ns p) ≡ board_in j count b₀ l₀
    pub texts : (r : ℕ) (z : List ℕ) → Prints (answers_text j count b (steps_from ns p)) q y r z → Prints (answers_text j count b₀ l₀) at x r z

  pub running-turn : {p q r : ℕ} {b c : Board} {y z : List ℕ} → Running p q b y → p < length ns → Stepped j count b (step_at ns p) q y r c z → Running (step_end ns p) r c z
  unfolding board_in answers_text fold
  running-turn {p} {q} {r} {b} {c} {y} {z} w h s =
      let f : Follows ns p = follows ns p h w.walks.whole in
      record {
        walks = record { within = f.fits; whole = f.whole; small = w.walks.small };
        boards = ap (λ (d : Board). board_in j count d (steps_from ns (step_end ns p))) s.leaves ∙ ap (board_in j count b) (sym f.splits) ∙ w.boards;
        texts = λ r' z' g.
            w.texts r' z'
            (writes_as (ap (λ (d : Board). number_line (answer_to j count b (step_at ns p)) ++ answers_text j count d (steps_from ns (step_end ns p))) s.leaves ∙ ap (answers_text j count b) (sym f.splits))
            (writes_then s.writes g));
      }

  pub running-end : {p q : ℕ} {b : Board} {y : List ℕ} → Running p q b y → length ns ≤ p → Ran j count b₀ l₀ at x q b y
  unfolding board_in answers_text fold steps_in
  running-end {p} {q} {b} {y} w h =
      let e : steps_from ns p ≡ [] = ap (λ (l : List ℕ). list_of (steps_in l)) (drop_of_length-le ns {i = p} h) in
      record {
        leaves = ap (board_in j count b) (sym e) ∙ w.boards;
        writes = w.texts q y (writes_as (ap (answers_text j count b) (sym e)) (writes-none q y));
      }

pub running-on : {m p q : ℕ} {b : Board} {y : List ℕ} (j : Panel) (count : ℕ) (ns : List ℕ) (b₀ : Board) (l₀ : List Step) (at : ℕ) (x : List ℕ) → m ≡ p
    → Running j count ns b₀ l₀ at x p q b y → Running j count ns b₀ l₀ at x m q b y
running-on {q = q} {b = b} {y = y} j count ns b₀ l₀ at x e w = subst (λ (k : ℕ). Running j count ns b₀ l₀ at x k q b y) (sym e) w

pub running_none : (j : Panel) (count : ℕ) (ns : List ℕ) (b : Board) (p at : ℕ) (x : List ℕ) → Walks ns p → Running j count ns b (steps_from ns p) at x p at b x
running_none j count ns b p at x w = record { walks = w; boards = refl; texts = λ r z g. g }

-- ---- one step of the board's calls
pub took-lay : {a : Answer Unit} {w : World} {c : Board} (j : Panel) (count : ℕ) (b : Board) (s : Step) (row col colour : ℕ) → s ≡ lay row col colour → w ≡ place_at row col
    → Lays j count w colour b a c → Gives (answered (answer_to j count b s) tt) (board_past j count b s) a c
unfolding answer_to board_past
took-lay j count b s row col colour e p g =
    rw e
    (record {
      answered = g.answered ∙ ap (λ (v : World). checked (lay_checks j count b v colour)) p;
      leaves = g.leaves ∙ ap (λ (v : World). after_lay j count b v colour) p;
    })

pub took-lift : {a : Answer Unit} {w : World} {c : Board} (j : Panel) (count : ℕ) (b : Board) (s : Step) (row col : ℕ) → s ≡ lift row col → w ≡ place_at row col
    → Lifts j count w b a c → Gives (answered (answer_to j count b s) tt) (board_past j count b s) a c
unfolding answer_to board_past
took-lift j count b s row col e p g =
    rw e
    (record {
      answered = g.answered ∙ ap (λ (v : World). checked (lift_checks j count b v)) p;
      leaves = g.leaves ∙ ap (λ (v : World). after_lift j count b v) p;
    })

pub stepped : {a : Answer Unit} {n at r : ℕ} {x y : List ℕ} {c : Board} (j : Panel) (count : ℕ) (b : Board) (s : Step)
    → Gives (answered (answer_to j count b s) tt) (board_past j count b s) a c → n ≡ number_of a → Prints (number_line n) at x r y → Stepped j count b s at x r c y
stepped j count b s g q w =
    record { leaves = g.leaves; writes = writes_as (ap number_line (q ∙ ap number_of g.answered ∙ step-number-of j count b s)) w }

-- a number of the input as a coordinate
pub coordinate : {n : ℕ} → n ≤ max_number → to_z w32 n ≡ pos n
coordinate {n} h = let l : n < 1000001 = omega arith in (counted w32 l tt).is
