-- The laws of the boundary: an answer's number is passed on, and what holds of an answer holds of the definition that it equals. Assumes
-- nothing.
use Prim.Native.Nat.{ℕ}
use mathlib.Core.Path.{◌≡◌, sym, ◌∙◌, ap, subst}
use denote.MutBor.{MutBor}
use Rattle.base.specs.Refusal.{Gives}
use Rattle.base.specs.Lent.{Lent}
use Rattle.base.proofs.Chain.{gives-coincide}
use Rattle.rules.specs.Answers.{Answer, number_of}
use Rattle.boundary.specs.Boundary.{NumberedBy}

-- a call's answer passed on as its number and the values that are stored: g is `told_left` of what is stored
pub passed_on : {A B : Type 0} (g : Answer A → B → B) {a b : Answer A} {l after : B} {r : ℕ} → a ≡ b → Gives (number_of a) (g a l) r after
    → Gives (number_of b) (g b l) r after
passed_on g {l = l} {after = after} {r = r} e h = subst (λ x. Gives (number_of x) (g x l) r after) e h

-- an accepted answer and what was stored for it
pub stored : {A B : Type 0} (f : A → ℕ) (g : A → B → B) {a b : A} {l after : B} → a ≡ b → f b ≡ 0 → after ≡ g b l → Gives (f a) (g a l) 0 after
stored f g {l = l} {after = after} e z p = subst (λ x. Gives (f x) (g x l) 0 after) (sym e) (record { answered = sym z; leaves = p })

-- the answer of a call that writes, passed on as its number, at a place and an offset that functions gave
pub numbered-at : {A B W O : Type 0} {number : A → ℕ} (promise : W → O → A → B → Type 0) {w v : W} {o p : O} {a : A} {left : B} {r : ℕ}
    → w ≡ v → o ≡ p → r ≡ number a → promise w o a left → NumberedBy number (promise v p) r left
numbered-at {W = W} {O = O} promise {w = w} {p = p} {a = a} {left = left} e d n g =
    record { answer = a; numbers = n; promised = subst (λ (x : W). promise x p a left) e (subst (λ (y : O). promise w y a left) d g) }

-- two results that meet a promise coincide
abbrev pub Decides : {A B : Type 0} → (A → B → Type 0) → Type 0
Decides {A = A} {B = B} promise = (a c : A) (l m : B) → promise a l → promise c m → (a ≡ c) × (l ≡ m)

-- a promise that fixes the answer and what is left decides; so does one of the number of a call's answer, where the call's own promise does
pub gives-decides : {A B : Type 0} (answer : A) (left : B) → Decides (Gives answer left)
gives-decides answer left a c l m x y = gives-coincide x y

pub numbered-decides : {A B : Type 0} {number : A → ℕ} (promise : A → B → Type 0) → Decides promise → Decides (NumberedBy number promise)
numbered-decides {number = number} promise one r s l m x y =
    let e = one x.answer y.answer l m x.promised y.promised in
    (x.numbers ∙ ap number e.0 ∙ sym y.numbers, e.1)

-- lent memory, as it is when a function begins and when it ends
abbrev pub lent : {A : Type 0} → MutBor A → MutBor A → Lent A
lent first last = record { entry = first; exit = last }
