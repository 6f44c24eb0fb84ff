-- Laws of the job's form: a step at the start of a list and further on in it, the walk from step to step, and the bounds that a form
-- gives.
-- Assumes nothing.
use Prim.Native.Nat.{ℕ, zero, suc, ◌+◌, ◌-◌, ◌*◌, ◌<◌, ◌≤◌}
use mathlib.Core.Path.{◌≡◌, refl, sym, ◌∙◌, ap}
use mathlib.Core.Bool.{Bool, true, false, ◌&&◌}
use mathlib.Core.List.{List, [], ◌∷◌}
use mathlib.Core.Logic.{⊎_elim}
use native.Mathlib.Omega.{arith}
use lib.Dec.{leb, eqb}
use lib.ListN.{length, get_or, drop, length-drop, drop_of_length-le}
use lib.Seq.{drop-cons, drop-drop}
use Rattle.std.specs.Prelude.{Some, None}
use borrow.Author.Tests.{lt-leb, le-leb, ne_eqb, eqb-true, eqb-false}
use Rattle.base.specs.Counting.{pick, within}
use Rattle.base.proofs.Bools.{and_left, and_right, by-test, pick_yes, pick_no}
use Rattle.base.proofs.Numbers.{mul-le, within-high, lt-or-le}
use Rattle.listing_job.specs.Form.{Step, lay, lift, Steps, misformed, steps, and_then, steps_in, is_whole, step_end, max_sample, sides_up_to, head_fits, sample_cells, tail_fits, is_formed, sides_of, setup_of, form_of}
use Rattle.listing_job.specs.declared.Sides.{Sides}
use Rattle.listing_job.specs.declared.Setup.{Setup}

-- ---- a step at the start of a list: the number that it starts with, how many follow, what they make
pub record Starts (first width : ℕ) (make : List ℕ → Step) : Type 0 where
  pub cut : (l : List ℕ) → length l < width → steps_in (first ∷ l) ≡ misformed
  pub whole : (l : List ℕ) → width ≤ length l → steps_in (first ∷ l) ≡ and_then (make l) (steps_in (drop width l))

abbrev pub lay_by : List ℕ → Step
lay_by l = lay (get_or l 0 0) (get_or l 1 0) (get_or l 2 0)

abbrev pub lift_by : List ℕ → Step
lift_by l = lift (get_or l 0 0) (get_or l 1 0)

lay-cut : (l : List ℕ) → length l < 3 → steps_in (1 ∷ l) ≡ misformed
unfolding steps_in
lay-cut [] h = refl
lay-cut (r ∷ []) h = refl
lay-cut (r ∷ c ∷ []) h = refl
lay-cut (r ∷ c ∷ t ∷ l) h = absurd (omega arith)

lay-whole : (l : List ℕ) → 3 ≤ length l → steps_in (1 ∷ l) ≡ and_then (lay_by l) (steps_in (drop 3 l))
unfolding steps_in
lay-whole [] h = absurd (omega arith)
lay-whole (r ∷ []) h = absurd (omega arith)
lay-whole (r ∷ c ∷ []) h = absurd (omega arith)
lay-whole (r ∷ c ∷ t ∷ l) h = refl

lift-cut : (l : List ℕ) → length l < 2 → steps_in (2 ∷ l) ≡ misformed
unfolding steps_in
lift-cut [] h = refl
lift-cut (r ∷ []) h = refl
lift-cut (r ∷ c ∷ l) h = absurd (omega arith)

lift-whole : (l : List ℕ) → 2 ≤ length l → steps_in (2 ∷ l) ≡ and_then (lift_by l) (steps_in (drop 2 l))
unfolding steps_in
lift-whole [] h = absurd (omega arith)
lift-whole (r ∷ []) h = absurd (omega arith)
lift-whole (r ∷ c ∷ l) h = refl

pub lays : Starts 1 3 lay_by
lays = record { cut = lay-cut; whole = lay-whole }

pub lifts : Starts 2 2 lift_by
lifts = record { cut = lift-cut; whole = lift-whole }

other-first : (n : ℕ) (l : List ℕ) → (n ≡ 1 → ⊥) → (n ≡ 2 → ⊥) → steps_in (n ∷ l) ≡ misformed
unfolding steps_in
other-first zero l h k = refl
other-first (suc zero) l h k = absurd (h refl)
other-first (suc (suc zero)) l h k = absurd (k refl)
other-first (suc (suc (suc n))) l h k = refl

and-whole : (s : Step) (x : Steps) → is_whole (and_then s x) ≡ is_whole x
and-whole s misformed = refl
and-whole s (steps l) = refl

-- ---- a step further on in a list
unfoldable pub whole_from : List ℕ → ℕ → Bool
whole_from ns p = pick (leb p (length ns)) (is_whole (steps_in (drop p ns))) false

pub whole_is : (ns : List ℕ) (p : ℕ) → p ≤ length ns → whole_from ns p ≡ is_whole (steps_in (drop p ns))
unfolding whole_from
whole_is ns p h = rw (le-leb p (length ns) h)

whole-past : (ns : List ℕ) (p : ℕ) → length ns < p → whole_from ns p ≡ false
unfolding whole_from
whole-past ns p h = rw (lt-leb p (length ns) h)

module _ (ns : List ℕ) (p : ℕ) (h : p < length ns) where
  from_first : drop p ns ≡ get_or ns p 0 ∷ drop (suc p) ns
  from_first = drop-cons ns p 0 h

  left_over : length (drop (suc p) ns) ≡ length ns - suc p
  left_over = length-drop (suc p) ns

  module _ (n w : ℕ) (make : List ℕ → Step) (s : Starts n w make) (e : get_or ns p 0 ≡ n) where
    first-is : drop p ns ≡ n ∷ drop (suc p) ns
    first-is = from_first ∙ ap (λ (k : ℕ). k ∷ drop (suc p) ns) e

    cut_at : length ns < p + suc w → steps_in (drop p ns) ≡ misformed
    cut_at k = ap steps_in first-is ∙ s.cut (drop (suc p) ns) (omega (arith, left_over))

    pub step-at : p + suc w ≤ length ns → steps_in (drop p ns) ≡ and_then (make (drop (suc p) ns)) (steps_in (drop (p + suc w) ns))
    step-at k =
        let m : suc p + w ≡ p + suc w = omega arith in
        ap steps_in first-is ∙ s.whole (drop (suc p) ns) (omega (arith, left_over))
        ∙ ap (λ (l : List ℕ). and_then (make (drop (suc p) ns)) (steps_in l)) (drop-drop w (suc p) ns ∙ ap (λ (k : ℕ). drop k ns) m)

    whole-step : whole_from ns (p + suc w) ≡ whole_from ns p
    whole-step =
        ⊎_elim
        (λ k. whole-past ns (p + suc w) k ∙ sym (whole_is ns p (omega arith) ∙ ap is_whole (cut_at k)))
        (λ k. whole_is ns (p + suc w) k
        ∙ sym (whole_is ns p (omega arith) ∙ ap is_whole (step-at k) ∙ and-whole (make (drop (suc p) ns)) (steps_in (drop (p + suc w) ns))))
        (lt-or-le (length ns) (p + suc w))

    -- a step of a whole list is not cut off
    pub not-cut : is_whole (steps_in (drop p ns)) ≡ true → p + suc w ≤ length ns
    not-cut t =
        ⊎_elim
        (λ k. absurd (let z : true ≡ false = sym t ∙ ap is_whole (cut_at k) in let y : ◌≡◌ {A = ℕ} 0 1 = cc in omega arith))
        (λ k. k)
        (lt-or-le (length ns) (p + suc w))

  pub other_at : (get_or ns p 0 ≡ 1 → ⊥) → (get_or ns p 0 ≡ 2 → ⊥) → steps_in (drop p ns) ≡ misformed
  other_at a b = ap steps_in from_first ∙ other-first (get_or ns p 0) (drop (suc p) ns) a b

  pub end-lay : get_or ns p 0 ≡ 1 → p + 4 ≡ step_end ns p
  unfolding step_end
  end-lay e = rw e

  pub end-lift : (get_or ns p 0 ≡ 1 → ⊥) → get_or ns p 0 ≡ 2 → p + 3 ≡ step_end ns p
  unfolding step_end
  end-lift a e = rw e

  pub end-other : (get_or ns p 0 ≡ 1 → ⊥) → (get_or ns p 0 ≡ 2 → ⊥) → length ns + 1 ≡ step_end ns p
  unfolding step_end
  end-other a b = rw (ne_eqb (get_or ns p 0) 1 a, ne_eqb (get_or ns p 0) 2 b)

  pub goes_on : p < step_end ns p
  unfolding step_end
  goes_on =
      by-test (eqb (get_or ns p 0) 1)
      (λ t. rw t (omega arith))
      (λ t. rw t (by-test (eqb (get_or ns p 0) 2) (λ u. rw u (omega arith)) (λ u. rw u (omega arith))))

  pub whole-on : whole_from ns (step_end ns p) ≡ whole_from ns p
  whole-on =
      by-test (eqb (get_or ns p 0) 1)
      (λ t. let e : get_or ns p 0 ≡ 1 = eqb-true (get_or ns p 0) 1 t in
      ap (whole_from ns) (sym (end-lay e)) ∙ whole-step 1 3 lay_by lays e)
      (λ t. let a : get_or ns p 0 ≡ 1 → ⊥ = eqb-false (get_or ns p 0) 1 t in
      by-test (eqb (get_or ns p 0) 2)
      (λ u. let e : get_or ns p 0 ≡ 2 = eqb-true (get_or ns p 0) 2 u in
      ap (whole_from ns) (sym (end-lift a e)) ∙ whole-step 2 2 lift_by lifts e)
      (λ u. let b : get_or ns p 0 ≡ 2 → ⊥ = eqb-false (get_or ns p 0) 2 u in
      ap (whole_from ns) (sym (end-other a b)) ∙ whole-past ns (length ns + 1) (omega arith)
      ∙ sym (whole_is ns p (omega arith) ∙ ap is_whole (other_at a b))))

pub whole-end : (ns : List ℕ) (p : ℕ) → length ns ≤ p → eqb p (length ns) ≡ whole_from ns p
unfolding steps_in
whole-end ns p h =
    by-test (eqb p (length ns))
    (λ t. let e : p ≡ length ns = eqb-true p (length ns) t in
    t ∙ sym (whole_is ns p (omega arith) ∙ ap (λ (l : List ℕ). is_whole (steps_in l)) (drop_of_length-le ns {i = p} h)))
    (λ t. t ∙ sym (whole-past ns p (let a : p ≡ length ns → ⊥ = eqb-false p (length ns) t in omega arith)))

-- ---- what a form gives
pub sides-up : (most rows cols : ℕ) → sides_up_to most rows cols ≡ true → (within 1 most rows ≡ true) × (within 1 most cols ≡ true)
unfolding sides_up_to
sides-up most rows cols t = (and_left (within 1 most rows) (within 1 most cols) t, and_right (within 1 most rows) (within 1 most cols) t)

pub head-sides : (ns : List ℕ) → head_fits ns ≡ true → sides_up_to max_sample (get_or ns 0 0) (get_or ns 1 0) ≡ true
unfolding head_fits
head-sides ns t = and_left (sides_up_to max_sample (get_or ns 0 0) (get_or ns 1 0)) (leb (get_or ns 3 0) 1 && leb (get_or ns 4 0) 1) t

pub few-cells : (ns : List ℕ) → head_fits ns ≡ true → sample_cells ns ≤ 256
few-cells ns t =
    let w = sides-up max_sample (get_or ns 0 0) (get_or ns 1 0) (head-sides ns t) in
    mul-le {a = get_or ns 0 0} {b = get_or ns 1 0} {m = 16} {n = 16} (within-high 1 max_sample (get_or ns 0 0) w.0) (within-high 1 max_sample (get_or ns 1 0) w.1)

-- ---- the exits
pub formed-head : (ns : List ℕ) → is_formed ns ≡ true → head_fits ns ≡ true
unfolding is_formed
formed-head ns t = and_left (head_fits ns) (tail_fits ns (sample_cells ns)) t

pub formed-tail : (ns : List ℕ) → is_formed ns ≡ true → tail_fits ns (sample_cells ns) ≡ true
unfolding is_formed
formed-tail ns t = and_right (head_fits ns) (tail_fits ns (sample_cells ns)) t

pub form-is : {s : Setup} (ns : List ℕ) → is_formed ns ≡ true → s ≡ setup_of ns → Some s ≡ form_of ns
unfolding form_of
form-is ns t e = ap Some e ∙ sym (pick_yes (is_formed ns) (Some (setup_of ns)) None t)

pub form-bad : (ns : List ℕ) → is_formed ns ≡ false → None ≡ form_of ns
unfolding form_of
form-bad ns t = sym (pick_no (is_formed ns) (Some (setup_of ns)) None t)

pub setup-is : {cells n rot ref rows cols : ℕ} {s b : Sides} (ns : List ℕ) → cells ≡ sample_cells ns → s ≡ sides_of (get_or ns 0 0) (get_or ns 1 0)
    → rows ≡ get_or ns (cells + 5) 0 → cols ≡ get_or ns (cells + 6) 0 → b ≡ sides_of rows cols
    → n ≡ get_or ns 2 0 → rot ≡ get_or ns 3 0 → ref ≡ get_or ns 4 0
    → record { sample = s; count = n; rotations = eqb rot 1; reflections = eqb ref 1; board = b } ≡ setup_of ns
unfolding setup_of
setup-is ns c e p q f g h k = rw (e, f, p, q, c, g, h, k)

pub sides-are : {r t : Bool} {a b rows cols : ℕ} (most : ℕ) → a ≡ rows → b ≡ cols → r ≡ sides_up_to most a b → r ≡ t → sides_up_to most rows cols ≡ t
sides-are most p q e f = rw (← p, ← q) (sym e ∙ f)

pub option_is : {n m : ℕ} {t : Bool} → n ≡ m → leb n 1 ≡ t → leb m 1 ≡ t
option_is e t = rw (← e) t

pub sides-of : {a b rows cols : ℕ} {s : Sides} → a ≡ rows → b ≡ cols → s ≡ sides_of a b → s ≡ sides_of rows cols
sides-of p q e = rw (← p, ← q) e
