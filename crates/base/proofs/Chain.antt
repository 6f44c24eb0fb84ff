-- Laws of refusals.
--     chain             what each exit of a function that checks answers, as a list for `search`: one line an exit
--     all_pass, none-fails   acceptance gives every test at once, and every test gives acceptance
--     first-fails       what is answered is the number of a check that fails
--     lowest            where the numbers ascend it is the lowest of all that fail
-- Assumes nothing.
use Prim.Native.Nat.{ℕ, zero, suc, ◌<◌, ◌≤◌}
use mathlib.Core.Path.{◌≡◌, refl, sym, ◌∙◌, ap, subst}
use mathlib.Core.Bool.{Bool, true, false, not, ◌&&◌}
use native.Mathlib.Nat.{le_refl, le_trans}
use native.Mathlib.Omega.{arith}
use lib.Dec.{leb}
use borrow.Author.Tests.{leb-true, le-leb, lt-leb, lt-ltb, le-ltb}
use Rattle.base.specs.Refusal.{Checks, ◌unless◌, ◌then◌, or_else, refusal, unless_refused, Gives}
use Rattle.base.proofs.Bools.{fails, passes, never, and_left, and_right}

-- ---- the exits of a function that checks

-- one check, from facts about its test
pub refuse-by : {n : ℕ} (b : Bool) → b ≡ false → n ≡ refusal (n unless b)
unfolding refusal
refuse-by b e = rw e

pub pass-by : (n : ℕ) (b : Bool) → b ≡ true → 0 ≡ refusal (n unless b)
unfolding refusal
pass-by n b e = rw e

-- `if !test(..) { return n; }`: the way that returns, and the way that goes on
pub refuse : {r : Bool} {n : ℕ} (b : Bool) → not r ≡ true → r ≡ b → n ≡ refusal (n unless b)
refuse b t e = refuse-by b (fails b e t)

pub pass : {r : Bool} (n : ℕ) (b : Bool) → not r ≡ false → r ≡ b → 0 ≡ refusal (n unless b)
pass n b t e = pass-by n b (passes b e t)

-- a number that is not 0, by computation where it is written out
abbrev pub refusing : ℕ → Bool
refusing zero = false
refusing (suc n) = true

pub is-refusing : (n : ℕ) → (n ≡ 0 → ⊥) → refusing n ≡ true
is-refusing zero h = absurd (h refl)
is-refusing (suc n) h = refl

pub not-refused : (n : ℕ) → refusing n ≡ true → n ≡ 0 → ⊥
not-refused zero t e = never false t refl
not-refused (suc n) t e = omega arith

-- one part and then another: the first refuses, or it passes and the second answers
pub stop : (n : ℕ) (cs ds : Checks) → refusing n ≡ true → n ≡ refusal cs → n ≡ refusal (cs then ds)
unfolding refusal
stop zero cs ds t e = never false t refl
stop (suc n) cs ds t e = ap (λ (m : ℕ). or_else m (refusal ds)) e

pub go : (n : ℕ) (cs ds : Checks) → 0 ≡ refusal cs → n ≡ refusal ds → n ≡ refusal (cs then ds)
unfolding refusal
go n cs ds z e = e ∙ ap (λ (m : ℕ). or_else m (refusal ds)) z

-- `let no = part(..); if no != 0 { return no; }`: the way that goes on
pub part-passed : {n : ℕ} (cs : Checks) → n ≡ refusal cs → n ≡ 0 → 0 ≡ refusal cs
part-passed cs e z = sym z ∙ e

-- each exit of a function that only checks is `search chain depth 20 fits 5000`
pub ruleset chain = (refuse, pass, refuse-by, pass-by, stop, is-refusing, go, part-passed, le-leb, lt-leb, lt-ltb, le-ltb)

-- ---- what acceptance gives

-- no check has the number 0
abbrev pub numbered : Checks → Bool
numbered (zero unless b) = false
numbered (suc n unless b) = true
numbered (cs then ds) = numbered cs && numbered ds

-- every test passes
abbrev pub Passes : Checks → Type 0
Passes (n unless b) = b ≡ true
Passes (cs then ds) = Passes cs × Passes ds

-- neither of two parts refuses
both-none : (n m : ℕ) → or_else n m ≡ 0 → (n ≡ 0) × (m ≡ 0)
both-none zero m e = (refl, e)
both-none (suc n) m e = absurd (out e)
  where
    out : suc n ≡ 0 → ⊥
    out e = omega arith

pub all_pass : (cs : Checks) → numbered cs ≡ true → refusal cs ≡ 0 → Passes cs
unfolding refusal
all_pass (zero unless b) p e = never false p refl
all_pass (suc n unless true) p e = refl
all_pass (suc n unless false) p e = absurd (out e)
  where
    out : suc n ≡ 0 → ⊥
    out e = omega arith
all_pass (cs then ds) p e =
    let h = both-none (refusal cs) (refusal ds) e in
    (all_pass cs (and_left (numbered cs) (numbered ds) p) h.0, all_pass ds (and_right (numbered cs) (numbered ds) p) h.1)

pub none-fails : (cs : Checks) → Passes cs → refusal cs ≡ 0
unfolding refusal
none-fails (n unless b) h = rw h
none-fails (cs then ds) h = rw (none-fails cs h.0) (none-fails ds h.1)

-- ---- the first that fails, and the lowest

-- a check with the number m fails
pub data Fails : ℕ → Checks → Type 0 where
  here : {n : ℕ} → Fails n (n unless false)
  early : {m : ℕ} {cs ds : Checks} → Fails m cs → Fails m (cs then ds)
  late : {m : ℕ} {cs ds : Checks} → Fails m ds → Fails m (cs then ds)

pub first-fails : (cs : Checks) (n : ℕ) → refusal cs ≡ suc n → Fails (suc n) cs
unfolding refusal
first-fails (m unless true) n e = absurd (out e)
  where
    out : 0 ≡ suc n → ⊥
    out e = omega arith
first-fails (m unless false) n e = subst (λ (k : ℕ). Fails k (m unless false)) e here
first-fails (cs then ds) n e = at (refusal cs) refl e (λ k p. first-fails cs k p) (λ p. first-fails ds n p)
  where
    at : (r : ℕ) → refusal cs ≡ r → or_else r (refusal ds) ≡ suc n → ((k : ℕ) → refusal cs ≡ suc k → Fails (suc k) cs)
        → (refusal ds ≡ suc n → Fails (suc n) ds) → Fails (suc n) (cs then ds)
    at zero z q f g = late (g q)
    at (suc k) z q f g = early (subst (λ (i : ℕ). Fails i cs) q (f k z))

-- the numbers of the first and of the last check, and that they ascend from the one to the other
abbrev pub first_number : Checks → ℕ
first_number (n unless b) = n
first_number (cs then ds) = first_number cs

abbrev pub last_number : Checks → ℕ
last_number (n unless b) = n
last_number (cs then ds) = last_number ds

abbrev pub ascending : Checks → Bool
ascending (n unless b) = true
ascending (cs then ds) = ascending cs && (ascending ds && leb (last_number cs) (first_number ds))

-- so every number lies between the two
ordered : (cs ds : Checks) → ascending (cs then ds) ≡ true → (ascending cs ≡ true) × (ascending ds ≡ true) × (last_number cs ≤ first_number ds)
ordered cs ds e =
    let r = and_right (ascending cs) (ascending ds && leb (last_number cs) (first_number ds)) e in
    (and_left (ascending cs) _ e, and_left (ascending ds) _ r, leb-true _ _ (and_right (ascending ds) (leb (last_number cs) (first_number ds)) r))

climbs : (cs : Checks) → ascending cs ≡ true → first_number cs ≤ last_number cs
climbs (n unless b) e = le_refl n
climbs (cs then ds) e = let o = ordered cs ds e in le_trans (climbs cs o.0) (le_trans o.2 (climbs ds o.1))

at_least : {m : ℕ} (cs : Checks) → ascending cs ≡ true → Fails m cs → first_number cs ≤ m
at_least (n unless false) e here = le_refl _
at_least (n unless true) e f = elim f [ ]
at_least (cs then ds) e (early f) = at_least cs (ordered cs ds e).0 f
at_least (cs then ds) e (late f) = let o = ordered cs ds e in le_trans (climbs cs o.0) (le_trans o.2 (at_least ds o.1 f))

at_most : {m : ℕ} (cs : Checks) → ascending cs ≡ true → Fails m cs → m ≤ last_number cs
at_most (n unless false) e here = le_refl _
at_most (n unless true) e f = elim f [ ]
at_most (cs then ds) e (early f) = let o = ordered cs ds e in le_trans (at_most cs o.0 f) (le_trans o.2 (climbs ds o.1))
at_most (cs then ds) e (late f) = at_most ds (ordered cs ds e).1 f

-- a part that fails somewhere refuses
fails-refused : {m : ℕ} (cs : Checks) → numbered cs ≡ true → Fails m cs → refusal cs ≡ 0 → ⊥
unfolding refusal
fails-refused (zero unless false) p here e = never false p refl
fails-refused (suc n unless false) p here e = omega arith
fails-refused (zero unless true) p f e = elim f [ ]
fails-refused (suc n unless true) p f e = elim f [ ]
fails-refused (cs then ds) p (early f) e =
    fails-refused cs (and_left (numbered cs) (numbered ds) p) f (both-none (refusal cs) (refusal ds) e).0
fails-refused (cs then ds) p (late f) e =
    fails-refused ds (and_right (numbered cs) (numbered ds) p) f (both-none (refusal cs) (refusal ds) e).1

single : {m n : ℕ} {b : Bool} → Fails m (n unless b) → m ≡ n
single here = refl

-- the first that fails is not above any that fails
not-above : {m : ℕ} (cs : Checks) → numbered cs ≡ true → ascending cs ≡ true → Fails m cs → (k : ℕ) → refusal cs ≡ suc k → suc k ≤ m
unfolding refusal
not-above {m} (n unless b) p a f k e = let s : suc k ≡ n = single (first-fails (n unless b) k e) in let t : m ≡ n = single f in omega arith
not-above {m} (cs then ds) p a f k e =
    at (refusal cs) refl e f (λ g j z. not-above cs (and_left (numbered cs) (numbered ds) p) o.0 g j z)
    (λ g z. not-above ds (and_right (numbered cs) (numbered ds) p) o.1 g k z)
  where
    o : (ascending cs ≡ true) × (ascending ds ≡ true) × (last_number cs ≤ first_number ds)
    o = ordered cs ds a

    at : (r : ℕ) → refusal cs ≡ r → or_else r (refusal ds) ≡ suc k → Fails m (cs then ds)
        → (Fails m cs → (j : ℕ) → refusal cs ≡ suc j → suc j ≤ m) → (Fails m ds → refusal ds ≡ suc k → suc k ≤ m) → suc k ≤ m
    at zero z q (early g) first second = absurd (fails-refused cs (and_left (numbered cs) (numbered ds) p) g z)
    at zero z q (late g) first second = second g q
    at (suc j) z q (early g) first second = subst (λ (i : ℕ). i ≤ m) q (first g j z)
    at (suc j) z q (late g) first second =
        subst (λ (i : ℕ). i ≤ m) q (le_trans (at_most cs o.0 (first-fails cs j z)) (le_trans o.2 (at_least ds o.1 g)))

-- document 01's "lowest first when several hold": a check that fails makes a refusal, whose number is not above its own
pub lowest : {m : ℕ} (cs : Checks) → numbered cs ≡ true → ascending cs ≡ true → Fails m cs → (refusal cs ≤ m) × (0 < refusal cs)
lowest {m} cs p a f = at (refusal cs) refl
  where
    at : (r : ℕ) → refusal cs ≡ r → (refusal cs ≤ m) × (0 < refusal cs)
    at zero z = absurd (fails-refused cs p f z)
    at (suc k) z = (rw z (not-above cs p a f k z), rw z (omega arith))

-- ---- what a call leaves

pub kept-old : {A : Type 0} (n : ℕ) (new old : A) → (n ≡ 0 → ⊥) → unless_refused n new old ≡ old
kept-old zero new old h = absurd (h refl)
kept-old (suc n) new old h = refl

pub has_new : {A : Type 0} (n : ℕ) (new old : A) → n ≡ 0 → unless_refused n new old ≡ new
has_new n new old e = rw e

-- what is made of the old value or of the new one
pub through : {A B : Type 0} (n : ℕ) (f : A → B) (new : B) (q p : A) → (n ≡ 0 → new ≡ f q) → unless_refused n new (f p) ≡ f (unless_refused n q p)
through zero f new q p h = h refl
through (suc n) f new q p h = refl

-- what holds of the old value, and of the new one where the call is accepted, holds of what is left
pub either : {A : Type 0} {new old : A} (P : A → Type 0) (n : ℕ) → (n ≡ 0 → P new) → P old → P (unless_refused n new old)
either P zero f h = f refl
either P (suc n) f h = h

-- a test that is made twice
pub once : {A B : Type 0} (n : ℕ) (f : A → B) (a b : A) (s : B) → unless_refused n (f (unless_refused n a b)) s ≡ unless_refused n (f a) s
once zero f a b s = refl
once (suc n) f a b s = refl

-- two calls that are accepted together leave what corresponds
pub together : {A : Type 0} (f : A → A) (n m : ℕ) {a b c d : A} → (n ≡ 0 → m ≡ 0) → (m ≡ 0 → n ≡ 0) → (n ≡ 0 → c ≡ f a) → d ≡ f b
    → unless_refused m c d ≡ f (unless_refused n a b)
together f zero m to from new old = has_new m _ _ (to refl) ∙ new refl
together f (suc n) zero to from new old = absurd (out (from refl))
  where
    out : suc n ≡ 0 → ⊥
    out e = omega arith
together f (suc n) (suc m) to from new old = old

-- two results that meet a promise coincide
pub coincide : {A : Type 0} {x r s : A} → r ≡ x → s ≡ x → r ≡ s
coincide p q = p ∙ sym q

pub gives-coincide : {A B : Type 0} {x a c : A} {y l m : B} → Gives x y a l → Gives x y c m → (a ≡ c) × (l ≡ m)
gives-coincide p q = (p.answered ∙ sym q.answered, p.leaves ∙ sym q.leaves)
