-- Two results that meet a call's contract coincide: the answer, and what the lent plane of scores holds then.
-- Assumes nothing.
use Prim.Native.Nat.{ℕ}
use mathlib.Core.Path.{◌≡◌}
use mathlib.Core.List.{List}
use lib.Ieee.{Float}
use Rattle.base.proofs.Chain.{gives-coincide}
use Rattle.rules.specs.Promises.{ScoresLay, ScoresLift}
use Rattle.rules.specs.declared.World.{World}
use Rattle.rules.specs.declared.Offset.{Offset}
use Rattle.rules.specs.declared.Span.{Span}
use Rattle.rules.specs.Answers.{Answer}

module _ (scores : List Float) (counts : List ℕ) (rows cols tiles : ℕ) {a c : Answer Unit} {l m : List Float} where
  pub update-feasibility-coincides : (w : World) (o : Offset)
      → ScoresLay rows cols counts tiles w o scores a l → ScoresLay rows cols counts tiles w o scores c m → (a ≡ c) × (l ≡ m)
  update-feasibility-coincides w o p q = gives-coincide p q

  pub aggregate-feasibility-coincides : (rs cs : Span)
      → ScoresLift rows cols counts tiles rs cs scores a l → ScoresLift rows cols counts tiles rs cs scores c m → (a ≡ c) × (l ≡ m)
  aggregate-feasibility-coincides rs cs p q = gives-coincide p q
