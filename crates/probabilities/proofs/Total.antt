-- The total that normalising divides by is finite and above zero. Every probability is at most the largest, so every share is at most 1;
-- the largest's own share is 1; and a rounded sum of numbers between two whole numbers lies between them.
-- Assumes nothing.
use Prim.Native.Nat.{ℕ, zero, suc, ◌+◌, ◌*◌, ◌^◌, ◌<◌, ◌≤◌}
use mathlib.Core.Path.{◌≡◌, refl, sym, ◌∙◌, ap, subst}
use mathlib.Core.Bool.{Bool, true, false, not, ◌&&◌, ◌||◌, true≢false, false≢true}
use mathlib.Core.Logic.{◌⊎◌, inl, inr}
use mathlib.Core.List.{List, [], ◌∷◌}
use native.Mathlib.Nat.{le_trans, le_of_eq, le_of_lt, le_refl, lt_irrefl, zero-lt-suc, eq-zero-or-pos, zero-mul, one-mul, mul-one, add-zero, sub-zero, mul_comm, mul_assoc, add-mul, mul-pos, mul-le-mul_right, add-le-add}
use native.Mathlib.Omega.{arith}
use lib.Dec.{T, ltb, eqb, eqb→eq, lt→ltb, lit≤}
use lib.IntN.{ℤ}
use lib.ListN.{length, get_or}
use lib.Ieee.{Float, nan, inf, fin, binary64, up, down, round, sum, add, eq, le, lt, of_bits}
use lib.Ieee.Fits.{up_pos, down_pos, and_l}
use lib.Ieee.Exact.{HasValue, round_exact}
use lib.Ieee.Order.{transfer, round_mono}
use lib.Ieee.Positive.{positive, through}
use lib.Ieee.Back.{round_whole}
use borrow.Author.Tests.{ltb-true, ltb-false, le-ltb}
use Rattle.base.specs.Tables.{fold}
use Rattle.base.proofs.Bools.{and_left, by-test, pick_yes, pick_no}
use Rattle.rules.specs.Floats.{zero64, plus, over, is_number}
use Rattle.rules.specs.Probabilities.{larger, largest_of, plus_share, total_of, usable}
use Rattle.rules.proofs.Floats.{upward, round-upward, zero-upward, over-fin}

-- ---- between whole numbers

-- lo ≤ x ≤ hi, of a float whose sign is clear
abbrev Between : ℕ → ℕ → Float → Type 0
Between lo hi nan = ⊥
Between lo hi (inf s) = ⊥
Between lo hi (fin true m e) = ⊥
Between lo hi (fin false m e) = (lo * down e ≤ m * up e) × (m * up e ≤ hi * down e)

le-of-test : (a b : ℕ) → T (ltb a b || (eqb a b && true)) → a ≤ b
le-of-test a b h =
    by-test (ltb a b)
    (λ t. le_of_lt (ltb-true a b t))
    (λ t. le_of_eq (eqb→eq a b (and_l (eqb a b) true (subst (λ (x : Bool). T (x || (eqb a b && true))) t h))))

le-fin : (m : ℕ) (e : ℤ) (n : ℕ) (d : ℤ) → T (le (fin false m e) (fin false n d)) → m * up e * down d ≤ n * up d * down e
unfolding le lt eq
le-fin m e n d h = le-of-test (m * up e * down d) (n * up d * down e) h

-- a float between two that have whole values
squeeze : (lo hi : ℕ) (x y z : Float) → HasValue x false lo 1 → HasValue z false hi 1 → T (upward y) → T (le x y) → T (le y z) → Between lo hi y
unfolding le lt eq
squeeze lo hi nan y z hx hz u p q = absurd hx
squeeze lo hi (inf s) y z hx hz u p q = absurd hx
squeeze lo hi (fin true m e) y z hx hz u p q = absurd (true≢false hx.0)
squeeze lo hi (fin false m e) y nan hx hz u p q = absurd hz
squeeze lo hi (fin false m e) y (inf t) hx hz u p q = absurd hz
squeeze lo hi (fin false m e) y (fin true n d) hx hz u p q = absurd (true≢false hz.0)
squeeze lo hi (fin false m e) nan (fin false n d) hx hz u p q = absurd u
squeeze lo hi (fin false m e) (inf true) (fin false n d) hx hz u p q = absurd u
squeeze lo hi (fin false m e) (inf false) (fin false n d) hx hz u p q = absurd q
squeeze lo hi (fin false m e) (fin true k f) (fin false n d) hx hz u p q = absurd u
squeeze lo hi (fin false m e) (fin false k f) (fin false n d) hx hz u p q = (
  subst (λ (x : ℕ). lo * down f ≤ x) (mul-one (k * up f)) (transfer lo (k * up f) 1 (down f) (m * up e) (k * up f) (down e) (down f) (down_pos e) (down_pos f) (sym hx.1) refl (le-fin m e k f p)),
  subst (λ (x : ℕ). x ≤ hi * down f) (mul-one (k * up f)) (transfer (k * up f) hi (down f) 1 (k * up f) (n * up d) (down f) (down d) (down_pos f) (down_pos d) refl (sym hz.1) (le-fin k f n d q)),
)

round-between : (lo hi a c : ℕ) → 0 < c → lo ≤ 2 ^ 53 → hi ≤ 2 ^ 53 → lo * c ≤ a → a ≤ hi * c → Between lo hi (round binary64 false a c)
round-between lo hi a c p l h low high =
    squeeze lo hi (round binary64 false lo 1) (round binary64 false a c) (round binary64 false hi 1)
    (round_whole binary64 false lo l) (round_whole binary64 false hi h) (round-upward a c)
    (round_mono binary64 lo 1 a c (zero-lt-suc 0) p (subst (λ (x : ℕ). lo * c ≤ x) (sym (mul-one a)) low))
    (round_mono binary64 a c hi 1 p (zero-lt-suc 0) (subst (λ (x : ℕ). x ≤ hi * c) (sym (mul-one a)) high))

parts : (a b u v : ℕ) → (a + b) * (u * v) ≡ a * u * v + b * v * u
parts a b u v = simp (add-mul, mul_assoc, mul_comm)

plus-between : (a b c d : ℕ) (x y : Float) → a + c ≤ 2 ^ 53 → b + d ≤ 2 ^ 53 → Between a b x → Between c d y → Between (a + c) (b + d) (plus x y)
unfolding add sum
plus-between a b c d nan y l h p q = absurd p
plus-between a b c d (inf s) y l h p q = absurd p
plus-between a b c d (fin true m e) y l h p q = absurd p
plus-between a b c d (fin false m e) nan l h p q = absurd q
plus-between a b c d (fin false m e) (inf t) l h p q = absurd q
plus-between a b c d (fin false m e) (fin true n f) l h p q = absurd q
plus-between a b c d (fin false m e) (fin false n f) l h p q =
    round-between (a + c) (b + d) (m * up e * down f + n * up f * down e) (down e * down f) (mul-pos (down_pos e) (down_pos f)) l h
    (le_trans (le_of_eq (parts a c (down e) (down f))) (add-le-add (mul-le-mul_right (down f) p.0) (mul-le-mul_right (down e) q.0)))
    (le_trans (add-le-add (mul-le-mul_right (down f) p.1) (mul-le-mul_right (down e) q.1)) (le_of_eq (sym (parts b d (down e) (down f)))))

-- -0.0 and 0.0 of whatever sign add nothing
abbrev Zero : Float → Type 0
Zero nan = ⊥
Zero (inf s) = ⊥
Zero (fin s m e) = m * up e ≡ 0

sum-zero : (a b c : ℕ) → b ≡ 0 → sum binary64 false a true b c ≡ round binary64 false a c
unfolding sum
sum-zero a b c e = rw (e, le-ltb a 0 (omega arith), sub-zero)

plus-zero : (a b n : ℕ) (f : ℤ) (x : Float) → a ≤ 2 ^ 53 → b ≤ 2 ^ 53 → Between a b x → n * up f ≡ 0 → Between a b (plus x (fin true n f))
unfolding add
plus-zero a b n f nan l h p z = absurd p
plus-zero a b n f (inf s) l h p z = absurd p
plus-zero a b n f (fin true m e) l h p z = absurd p
plus-zero a b n f (fin false m e) l h p z =
    let none : n * up f * down e ≡ 0 = ap (λ (x : ℕ). x * down e) z ∙ zero-mul (down e) in
    subst (λ (x : Float). Between a b x) (sym (sum-zero (m * up e * down f) (n * up f * down e) (down e * down f) none))
    (round-between a b (m * up e * down f) (down e * down f) (mul-pos (down_pos e) (down_pos f)) l h
    (le_trans (le_of_eq (sym (mul_assoc a (down e) (down f)))) (mul-le-mul_right (down f) p.0))
    (le_trans (mul-le-mul_right (down f) p.1) (le_of_eq (mul_assoc b (down e) (down f)))))

-- ---- at most the largest

-- p ≤ most, of numbers
abbrev AtMost : Float → Float → Type 0
AtMost nan p = ⊥
AtMost (inf s) p = T (not s)
AtMost (fin true n d) p = ⊥
AtMost (fin false n d) nan = ⊥
AtMost (fin false n d) (inf s) = ⊥
AtMost (fin false n d) (fin true m e) = m * up e ≡ 0
AtMost (fin false n d) (fin false m e) = m * up e * down d ≤ n * up d * down e

no : {A : Type 0} → true ≡ false → A
no e = absurd (true≢false e)

-- the test of a float of negative sign: only a zero passes
below-zero : (m : ℕ) (e : ℤ) → is_number (fin true m e) ≡ true → m * up e ≡ 0
unfolding le lt eq of_bits
below-zero m e h =
    let none : 0 * 1 * down e ≡ 0 = simp zero-mul in
    let level : 0 * 1 * down e ≡ m * up e * 1 = eqb→eq (0 * 1 * down e) (m * up e * 1) (subst T (sym (and_left (eqb (0 * 1 * down e) (m * up e * 1)) (eqb (0 * 1 * down e) 0) h)) tt) in
    sym (mul-one (m * up e)) ∙ sym level ∙ none

not-above : (a p : Float) → T (upward a) → is_number p ≡ true → lt a p ≡ false → AtMost a p
unfolding lt le eq of_bits
not-above nan p u h e = absurd u
not-above (inf s) p u h e = u
not-above (fin true n d) p u h e = absurd u
not-above (fin false n d) nan u h e = no (sym h)
not-above (fin false n d) (inf true) u h e = no (sym h)
not-above (fin false n d) (inf false) u h e = no e
not-above (fin false n d) (fin true m k) u h e = below-zero m k h
not-above (fin false n d) (fin false m k) u h e = ltb-false (n * up d * down k) (m * up k * down d) e

above : (a p : Float) → T (upward a) → lt a p ≡ true → T (upward p) × AtMost p a
unfolding lt
above nan p u e = absurd u
above (inf true) p u e = absurd u
above (inf false) nan u e = no (sym e)
above (inf false) (inf t) u e = no (sym e)
above (inf false) (fin t m k) u e = no (sym e)
above (fin true n d) p u e = absurd u
above (fin false n d) nan u e = no (sym e)
above (fin false n d) (inf true) u e = no (sym e)
above (fin false n d) (inf false) u e = (tt, tt)
above (fin false n d) (fin true m k) u e = no (sym e)
above (fin false n d) (fin false m k) u e = (tt, le_of_lt (ltb-true (n * up d * down k) (m * up k * down d) e))

at-most-self : (a : Float) → T (upward a) → AtMost a a
at-most-self nan u = u
at-most-self (inf s) u = u
at-most-self (fin true n d) u = u
at-most-self (fin false n d) u = le_refl (n * up d * down d)

at-most-trans : (x a p : Float) → T (upward a) → AtMost x a → AtMost a p → AtMost x p
at-most-trans nan a p u h k = h
at-most-trans (inf s) a p u h k = h
at-most-trans (fin true n d) a p u h k = h
at-most-trans (fin false n d) nan p u h k = absurd h
at-most-trans (fin false n d) (inf s) p u h k = absurd h
at-most-trans (fin false n d) (fin true m e) p u h k = absurd u
at-most-trans (fin false n d) (fin false m e) nan u h k = k
at-most-trans (fin false n d) (fin false m e) (inf s) u h k = k
at-most-trans (fin false n d) (fin false m e) (fin true i f) u h k = k
at-most-trans (fin false n d) (fin false m e) (fin false i f) u h k = through (i * up f) (m * up e) (n * up d) (down f) (down e) (down d) (down_pos e) k h

unfoldable AllAtMost : Float → List Float → Type 0
AllAtMost x [] = T true
AllAtMost x (p ∷ ps) = AtMost x p × AllAtMost x ps

unfoldable Has : Float → List Float → Type 0
Has x [] = ⊥
Has x (p ∷ ps) = (p ≡ x) ⊎ Has x ps

abbrev Numbers : List Float → Type 0
Numbers ps = (k : ℕ) → k < length ps → is_number (get_or ps k nan) ≡ true

later : (p : Float) (ps : List Float) → Numbers (p ∷ ps) → Numbers ps
later p ps h k l = h (suc k) (omega arith)

-- the largest from a on: what is at most it
abbrev Tops : Float → List Float → Float → Type 0
Tops a ps x = T (upward x) × AtMost x a × AllAtMost x ps

largest-tops : (a : Float) (ps : List Float) → T (upward a) → Numbers ps → Tops a ps (fold larger a ps)
unfolding fold AllAtMost
largest-tops a [] u h = (u, at-most-self a u, tt)
largest-tops a (p ∷ ps) u h =
    by-test (lt a p)
    (λ e.
    let b = above a p u e in
    let t = largest-tops p ps b.0 (later p ps h) in
    let x = fold larger p ps in
    subst (λ (y : Float). Tops a (p ∷ ps) (fold larger y ps)) (sym (pick_yes (lt a p) p a e)) (t.0, at-most-trans x p a b.0 t.1 b.1, (t.1, t.2)))
    (λ e.
    let t = largest-tops a ps u (later p ps h) in
    let x = fold larger a ps in
    subst (λ (y : Float). Tops a (p ∷ ps) (fold larger y ps)) (sym (pick_no (lt a p) p a e))
    (t.0, t.1, (at-most-trans x a p u t.1 (not-above a p u (h 0 (zero-lt-suc (length ps))) e), t.2)))

largest-in : (a : Float) (ps : List Float) → (fold larger a ps ≡ a) ⊎ Has (fold larger a ps) ps
unfolding fold Has
largest-in a [] = inl refl
largest-in a (p ∷ ps) =
    by-test (lt a p)
    (λ e. subst (λ (y : Float). (fold larger y ps ≡ a) ⊎ ((p ≡ fold larger y ps) ⊎ Has (fold larger y ps) ps)) (sym (pick_yes (lt a p) p a e))
    (elim (largest-in p ps) [ inl h ↦ inr (inl (sym h)) | inr h ↦ inr (inr h) ]))
    (λ e. subst (λ (y : Float). (fold larger y ps ≡ a) ⊎ ((p ≡ fold larger y ps) ⊎ Has (fold larger y ps) ps)) (sym (pick_no (lt a p) p a e))
    (elim (largest-in a ps) [ inl h ↦ inl h | inr h ↦ inr (inr h) ]))

-- ---- shares

-- a quotient of naturals that rounds to a zero of negative sign
zero-of-value : (x : Float) (a c : ℕ) → HasValue x true a c → a ≡ 0 → 0 < c → Zero x
zero-of-value nan a c h z p = absurd h
zero-of-value (inf s) a c h z p = absurd h
zero-of-value (fin s m e) a c h z p =
    elim (eq-zero-or-pos (m * up e)) [
      | inl i ↦ i
      | inr i ↦ absurd (lt_irrefl 0 (subst (λ (x : ℕ). 0 < x) (h.1 ∙ ap (λ (x : ℕ). x * down e) z ∙ zero-mul (down e)) (mul-pos i p)))
    ]

negative : (x : Float) (a c : ℕ) → HasValue x true a c → (m : ℕ) × (e : ℤ) × (x ≡ fin true m e)
negative nan a c h = absurd h
negative (inf s) a c h = absurd h
negative (fin true m e) a c h = (m, e, refl)
negative (fin false m e) a c h = absurd (false≢true h.0)

round-zero : (a c : ℕ) → a ≡ 0 → 0 < c → HasValue (round binary64 true a c) true a c
round-zero a c z p = round_exact binary64 true a c 0 0 p (lit≤ tt) (lit≤ tt) (rw z (simp zero-mul))

-- what a share is: between 0 and 1, or a zero of negative sign
abbrev Share : Float → Type 0
Share y = Between 0 1 y ⊎ ((m : ℕ) × (e : ℤ) × (y ≡ fin true m e) × (m * up e ≡ 0))

below-pos : (n : ℕ) (d e : ℤ) → 0 < suc n * up d * down e
below-pos n d e = mul-pos (mul-pos (zero-lt-suc n) (up_pos d)) (down_pos e)

share-of : (x p : Float) → T (positive x) → AtMost x p → Share (over p x)
share-of nan p q h = absurd q
share-of (inf s) p q h = absurd q
share-of (fin true n d) p q h = absurd q
share-of (fin false zero d) p q h = absurd q
share-of (fin false (suc n) d) nan q h = absurd h
share-of (fin false (suc n) d) (inf s) q h = absurd h
share-of (fin false (suc n) d) (fin true m e) q h =
    let none : m * up e * down d ≡ 0 = ap (λ (x : ℕ). x * down d) h ∙ zero-mul (down d) in
    let c = suc n * up d * down e in
    let v = round-zero (m * up e * down d) c none (below-pos n d e) in
    let x = round binary64 true (m * up e * down d) c in
    let f = negative x (m * up e * down d) c v in
    inr (f.0, f.1, over-fin true m e false n d ∙ f.2, subst Zero f.2 (zero-of-value x (m * up e * down d) c v none (below-pos n d e)))
share-of (fin false (suc n) d) (fin false m e) q h =
    let c = suc n * up d * down e in
    inl
    (subst (λ (y : Float). Between 0 1 y) (sym (over-fin false m e false n d))
    (round-between 0 1 (m * up e * down d) c (below-pos n d e) (lit≤ tt) (lit≤ tt)
    (le_trans (le_of_eq (zero-mul c)) (omega arith))
    (le_trans h (le_of_eq (sym (one-mul c))))))

share-full : (x : Float) → T (positive x) → Between 1 1 (over x x)
share-full nan q = absurd q
share-full (inf s) q = absurd q
share-full (fin true n d) q = absurd q
share-full (fin false zero d) q = absurd q
share-full (fin false (suc n) d) q =
    let c = suc n * up d * down d in
    subst (λ (y : Float). Between 1 1 y) (sym (over-fin false (suc n) d false n d))
    (round-between 1 1 c c (below-pos n d d) (lit≤ tt) (lit≤ tt) (le_of_eq (one-mul c)) (le_of_eq (sym (one-mul c))))

widened : (lo k : ℕ) (x : Float) → Between lo k x → Between lo (k + 1) x
widened lo k nan h = h
widened lo k (inf s) h = h
widened lo k (fin true m e) h = h
widened lo k (fin false m e) h = (h.0, le_trans h.1 (mul-le-mul_right (down e) (omega arith)))

module _ (x : Float) (above_zero : T (positive x)) where
  plus-share : (lo k : ℕ) (t p : Float) → lo ≤ 2 ^ 53 → k + 1 ≤ 2 ^ 53 → Between lo k t → AtMost x p → Between lo (k + 1) (plus_share x t p)
  plus-share lo k t p l h b a =
      elim (share-of x p above_zero a) [
        | inl y ↦ subst (λ (n : ℕ). Between n (k + 1) (plus_share x t p)) (add-zero lo) (plus-between lo k 0 1 t (over p x) (omega arith) h b y)
        | inr z ↦ subst (λ (y : Float). Between lo (k + 1) (plus t y)) (sym z.2) (widened lo k (plus t (fin true z.0 z.1)) (plus-zero lo k z.0 z.1 t l (omega arith) b z.3))
      ]

  sum-shares : (lo k : ℕ) (t : Float) (ps : List Float) → lo ≤ 2 ^ 53 → k + length ps ≤ 2 ^ 53 → Between lo k t → AllAtMost x ps → Between lo (k + length ps) (fold (plus_share x) t ps)
  unfolding fold AllAtMost
  sum-shares lo k t [] l h b a = subst (λ (n : ℕ). Between lo n t) (sym (add-zero k)) b
  sum-shares lo k t (p ∷ ps) l h b a =
      let n : k + 1 + length ps ≡ k + suc (length ps) = omega arith in
      subst (λ (n : ℕ). Between lo n (fold (plus_share x) (plus_share x t p) ps)) n
      (sum-shares lo (k + 1) (plus_share x t p) ps l (omega arith) (plus-share lo k t p l (omega arith) b a.0) a.1)

  sum-full : (k : ℕ) (t : Float) (ps : List Float) → k + length ps ≤ 2 ^ 53 → Between 0 k t → AllAtMost x ps → Has x ps → Between 1 (k + length ps) (fold (plus_share x) t ps)
  unfolding fold AllAtMost Has
  sum-full k t [] h b a i = absurd i
  sum-full k t (p ∷ ps) h b a i =
      let n : k + 1 + length ps ≡ k + suc (length ps) = omega arith in
      subst (λ (n : ℕ). Between 1 n (fold (plus_share x) (plus_share x t p) ps)) n
      (elim i [
        | inl e ↦ sum-shares 1 (k + 1) (plus_share x t p) ps (lit≤ tt) (omega arith)
            (plus-between 0 k 1 1 t (over p x) (lit≤ tt) (omega arith) b (subst (λ (y : Float). Between 1 1 (over y x)) (sym e) (share-full x above_zero))) a.1
        | inr j ↦ sum-full (k + 1) (plus_share x t p) ps (omega arith) (plus-share 0 k t p (lit≤ tt) (omega arith) b a.0) a.1 j
      ])

-- ---- the total

from_one : (k : ℕ) (x : Float) → Between 1 k x → T (positive x)
from_one k nan h = h
from_one k (inf s) h = h
from_one k (fin true m e) h = h
from_one k (fin false zero e) h = absurd (lt_irrefl 0 (le_trans (down_pos e) (le_trans (le_of_eq (sym (one-mul (down e)))) (le_trans h.0 (le_of_eq (zero-mul (up e)))))))
from_one k (fin false (suc m) e) h = lt→ltb 0 (suc m) (zero-lt-suc m)

pub usable-positive : (x : Float) → usable x ≡ true → T (positive x)
unfolding lt of_bits
usable-positive nan h = no (sym h)
usable-positive (inf true) h = no (sym h)
usable-positive (inf false) h = no (sym h)
usable-positive (fin true m e) h = no (sym h)
usable-positive (fin false zero e) h = absurd (lt_irrefl 0 (subst (λ (n : ℕ). 0 < n) (simp zero-mul) (le_trans (omega arith) (ltb-true (0 * 1 * down e) (zero * up e * 1) (and_left _ _ h)))))
usable-positive (fin false (suc m) e) h = lt→ltb 0 (suc m) (zero-lt-suc m)

zero-between : Between 0 0 zero64
unfolding of_bits
zero-between = (lit≤ tt, lit≤ tt)

not-positive : T (positive zero64) → ⊥
unfolding of_bits
not-positive h = h

pub total-positive : (ps : List Float) → ((k : ℕ) → k < length ps → is_number (get_or ps k nan) ≡ true) → length ps ≤ 2 ^ 53 → usable (largest_of ps) ≡ true
    → T (positive (total_of (largest_of ps) ps))
unfolding largest_of total_of
total-positive ps numbers few u =
    let x = fold larger zero64 ps in
    let p = usable-positive x u in
    from_one (0 + length ps) (fold (plus_share x) zero64 ps)
    (sum-full x p 0 zero64 ps (omega arith) zero-between (largest-tops zero64 ps zero-upward numbers).2
    (elim (largest-in zero64 ps) [
      | inl e ↦ absurd (not-positive (subst (λ (y : Float). T (positive y)) e p))
      | inr h ↦ h
    ]))
