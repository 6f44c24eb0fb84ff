-- The loop of a forced run: at each turn the numbers, planes and entries are those of the run after so many steps as entries were taken.
--     loop-from, loop-turn    at the beginning, and after a turn
--     loop-end       where no entry may be taken, they are those of the run when its budget is spent
-- Assumes nothing.
use Prim.Native.Nat.{ℕ, zero, suc, ◌+◌, ◌<◌, ◌≤◌}
use mathlib.Core.Path.{◌≡◌, refl, sym, ◌∙◌, ap, subst}
use mathlib.Core.Bool.{Bool, true, false, not, ◌&&◌}
use mathlib.Core.Logic.{⊎_elim}
use mathlib.Core.List.{List, [], ◌∷◌}
use lib.ListN.{length}
use native.Mathlib.Numerals.{add-one}
use native.Mathlib.Omega.{arith}
use lib.Dec.{ltb}
use borrow.Author.Tests.{ltb-true, ltb-false, lt-ltb, not-true}
use Rattle.base.proofs.Bools.{never, by-test, and_left, and_right, and_both, not-is-true}
use Rattle.base.proofs.Numbers.{lt-or-le}
use Rattle.rules.specs.Bounds.{max_budget}
use Rattle.rules.specs.Board.{Panel, Board}
use Rattle.rules.specs.ForcedRun.{Run, stepped, begun, run_out}
use Rattle.std.specs.Prelude.{Option}
use Rattle.rules.specs.declared.World.{World}
use Rattle.rules.specs.declared.ForcedPosition.{ForcedPosition}
use Rattle.rules.proofs.ForcedRun.{steps-full, steps-none, stays}
use Rattle.board_run.specs.Running.{Going, Turning, Shows}
use Rattle.board_run.specs.declared.Progress.{Progress}
use Rattle.board_run.proofs.Going.{Goes, begun-goes, going_step}
use Rattle.board_run.proofs.Showing.{itself, shows-itself}
use Rattle.rules.specs.declared.BoundingBox.{BoundingBox}

nobody : (l : List ForcedPosition) → length l ≡ 0 → l ≡ []
nobody [] z = refl
nobody (e ∷ l) z = absurd (omega arith)

-- whether an entry may be taken
abbrev pub may_take : Progress → List ForcedPosition → ℕ → Bool
may_take p l budget = not p.full && ltb 0 (length l) && ltb p.taken budget

module _ (j : Panel) (count : ℕ) (bounds : Option BoundingBox) where
  -- so many steps of a run
  abbrev steps_from : ℕ → Run → Run
  steps_from zero s = s
  steps_from (suc n) s = stepped j count bounds (steps_from n s)

  from-begun : (b : Board) (place : World) (n : ℕ) → steps_from n (begun j count bounds b place) ≡ run_out j count bounds b place n
  unfolding run_out
  from-begun b place zero = refl
  from-begun b place (suc n) = ap (stepped j count bounds) (from-begun b place n)

  -- what a run leans on, of the numbers, planes and entries that are its own
  goes-shown : (s : Run) (b : Board) (l : List ForcedPosition) (p : Progress) → Shows s b l p → Goes j count bounds s → Going j count b l p.taken
  goes-shown s b l p shown g =
      rw (shown.queue, shown.taken) (subst (λ (x : Board). Going j count x s.queue s.taken) (sym shown.board) g)

  -- the state of the loop, with what it began with
  pub record Looping (b₀ : Board) (l₀ : List ForcedPosition) (p₀ : Progress) (budget : ℕ) (b : Board) (l : List ForcedPosition) (p : Progress) : Type 0 where
    pub going : Going j count b l p.taken
    pub fewer : p.laid ≤ p.taken
    pub within : p.taken ≤ budget
    pub shows : (s : Run) → Shows s b₀ l₀ p₀ → Shows (steps_from p.taken s) b l p

  module _ (b : Board) (l : List ForcedPosition) (p : Progress) (budget : ℕ) (place : World) (shown : Shows (begun j count bounds b place) b l p) where
    pub loop-from : Going j count b [] 0 → p.taken ≡ 0 → p.laid ≡ 0 → Looping b l p budget b l p
    loop-from g t n =
        record {
          going = goes-shown (begun j count bounds b place) b l p shown (begun-goes j count bounds b place g);
          fewer = omega arith;
          within = omega arith;
          shows = λ s h. subst (λ (n : ℕ). Shows (steps_from n s) b l p) (sym t) h;
        }

  module _ (b₀ : Board) (l₀ : List ForcedPosition) (p₀ : Progress) (budget : ℕ) (b : Board) (l : List ForcedPosition) (p : Progress) (loop : Looping b₀ l₀ p₀ budget b l p) where
    module _ (may : may_take p l budget ≡ true) where
      free : p.full ≡ false
      free = not-true p.full (and_left (not p.full) (ltb 0 (length l)) (and_left _ (ltb p.taken budget) may))

      waits : 0 < (length l)
      waits = ltb-true 0 (length l) (and_right (not p.full) (ltb 0 (length l)) (and_left _ (ltb p.taken budget) may))

      pub before-budget : p.taken < budget
      before-budget = ltb-true p.taken budget (and_right (not p.full && ltb 0 (length l)) (ltb p.taken budget) may)

      pub turning : budget ≤ max_budget → Turning j count b l p
      turning few =
          record { going = loop.going; waits = waits; free = free; small = omega (arith, before-budget); fewer = loop.fewer }

      pub loop-turn : (b' : Board) (l' : List ForcedPosition) (r : Progress) → r.taken ≡ p.taken + 1 → r.laid ≤ p.laid + 1
          → ((s : Run) → Shows s b l p → Shows (stepped j count bounds s) b' l' r) → Looping b₀ l₀ p₀ budget b' l' r
      loop-turn b' l' r t n turn =
          let own = turn (itself b l p) (shows-itself b l p) in
          record {
            going = goes-shown _ b' l' r own (going_step j count bounds (itself b l p) loop.going);
            fewer = omega (arith, loop.fewer);
            within = omega (arith, before-budget);
            shows = λ s h. subst (λ (n : ℕ). Shows (steps_from n s) b' l' r) (sym (t ∙ add-one p.taken)) (turn (steps_from p.taken s) (loop.shows s h));
          }

    -- where no entry may be taken, the run has ended, or the budget is spent
    pub loop-end : may_take p l budget ≡ false → (b₁ : Board) (place : World) → Shows (begun j count bounds b₁ place) b₀ l₀ p₀
        → Shows (run_out j count bounds b₁ place budget) b l p
    loop-end stop b₁ place shown = subst (λ (s : Run). Shows s b l p) (sym last) now
      where
        now : Shows (run_out j count bounds b₁ place p.taken) b l p
        now = subst (λ (s : Run). Shows s b l p) (from-begun b₁ place p.taken) (loop.shows (begun j count bounds b₁ place) shown)

        still : stepped j count bounds (run_out j count bounds b₁ place p.taken) ≡ run_out j count bounds b₁ place p.taken
            → run_out j count bounds b₁ place budget ≡ run_out j count bounds b₁ place p.taken
        still e = stays j count bounds b₁ place p.taken budget e loop.within

        none : (length l) ≡ 0 → (run_out j count bounds b₁ place p.taken).queue ≡ []
        none z = sym now.queue ∙ nobody l z

        last : run_out j count bounds b₁ place budget ≡ run_out j count bounds b₁ place p.taken
        last =
            by-test p.full
            (λ full. still (steps-full j count bounds _ (sym now.full ∙ full)))
            (λ free.
            by-test (ltb 0 (length l))
            (λ some.
            let spent : budget ≤ p.taken =
            ⊎_elim
            (λ (h : p.taken < budget).
            never (may_take p l budget) (and_both _ _ (and_both _ _ (not-is-true p.full free) some) (lt-ltb p.taken budget h)) stop)
            (λ (h : budget ≤ p.taken). h)
            (lt-or-le p.taken budget) in
            let all : budget ≡ p.taken = omega (arith, loop.within) in
            ap (run_out j count bounds b₁ place) all)
            (λ empty.
            let z : (length l) ≡ 0 = omega (arith, ltb-false 0 (length l) empty) in
            still (steps-none j count bounds _ (sym now.full ∙ free) (none z))))
