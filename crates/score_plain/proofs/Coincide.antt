-- Two results that meet a call's contract coincide: the answer, and what the lent plane of scores holds then.
-- Assumes nothing.
use Prim.Native.Nat.{ℕ}
use mathlib.Core.Path.{◌≡◌, sym, ◌∙◌}
use mathlib.Core.List.{List}
use lib.Ieee.{Float}
use Rattle.std.specs.Prelude.{Ok}
use Rattle.base.proofs.Chain.{gives-coincide}
use Rattle.rules.specs.Promises.{ScoresPlain, ScoresWhole}
use Rattle.rules.specs.declared.Span.{Span}
use Rattle.rules.proofs.Answered.{was-written}
use Rattle.rules.specs.Answers.{Answer}

module _ (scores : List Float) (counts : List ℕ) (rows cols tiles : ℕ) {a c : Answer Unit} {l m : List Float} where
  pub plain-score-near-coincides : (rs cs : Span)
      → ScoresPlain rows cols counts tiles rs cs scores a l → ScoresPlain rows cols counts tiles rs cs scores c m → (a ≡ c) × (l ≡ m)
  plain-score-near-coincides rs cs p q = gives-coincide p q

  pub plain-score-coincides : ScoresWhole rows cols counts tiles scores a l → ScoresWhole rows cols counts tiles scores c m → (a ≡ c) × (l ≡ m)
  plain-score-coincides p q = gives-coincide p q

-- and whatever the plane held: what an accepted scoring of the whole board leaves depends on the counts alone
pub plain-score-whatever : (scores others : List Float) (counts : List ℕ) (rows cols tiles : ℕ) {l m : List Float}
    → ScoresWhole rows cols counts tiles scores (Ok tt) l → ScoresWhole rows cols counts tiles others (Ok tt) m → l ≡ m
plain-score-whatever scores others counts rows cols tiles p q = (was-written _ _ _ p).1 ∙ sym (was-written _ _ _ q).1
