-- What the calls on a weights plane lean on once their checks have passed, and what their checks answer by the place, which is asked last.
-- Assumes nothing.
use Prim.Native.Nat.{ℕ}
use mathlib.Core.Path.{◌≡◌, refl, sym}
use mathlib.Core.Bool.{true}
use mathlib.Core.List.{List}
use native.Mathlib.Omega.{arith}
use Rattle.std.specs.Prelude.{Ok, Err, MatchResult}
use Rattle.base.specs.Refusal.{refusal}
use Rattle.base.proofs.Chain.{all_pass, go}
use Rattle.rules.specs.Answers.{Answer, checked}
use Rattle.rules.specs.Bounds.{max_weight}
use Rattle.rules.specs.Tests.{none_above}
use Rattle.rules.specs.Places.{cell_of}
use Rattle.rules.specs.Fit.{place_checks}
use Rattle.rules.specs.Board.{weight_plane_checks, weight_checks}
use Rattle.rules.specs.declared.World.{World}
use Rattle.rules.specs.declared.Offset.{Offset}
use Rattle.rules.specs.declared.Spans.{Spans}
use Rattle.rules.proofs.Answered.{went-on, caught}
use Rattle.check_sizes.proofs.Sides.{none_above-entry}
use Rattle.board_near.specs.Near.{OnPlane, Nearby, near_spans}
use Rattle.board_near.proofs.Leaning.{on-plane}
use Rattle.board_near.proofs.Placing.{place-passes, nearby}
use Rattle.board_weights.specs.Shares.{Light}

pub record Weighed (weights : List ℕ) (rows cols : ℕ) (w : World) (o : Offset) : Type 0 where
  pub on : OnPlane weights rows cols (cell_of w o)
  pub light : Light weights

pub weighed : (weights : List ℕ) (rows cols : ℕ) (w : World) (o : Offset) → 0 ≡ refusal (weight_checks weights rows cols w o) → Weighed weights rows cols w o
weighed weights rows cols w o e =
    let h = all_pass (weight_checks weights rows cols w o) refl (sym e) in
    let low : none_above weights max_weight ≡ true = search in
    record {
      on = on-plane weights rows cols w o (search) (search) (search);
      light = λ i k. omega (arith, none_above-entry weights max_weight low i k);
    }

-- the plane has passed
pub by-place : (weights : List ℕ) (rows cols : ℕ) (w : World) (o : Offset) (a : Answer Spans) → a ≡ near_spans rows cols w o
    → 0 ≡ refusal (weight_plane_checks weights rows cols)
    → MatchResult a (λ spans. (0 ≡ refusal (weight_checks weights rows cols w o)) × Nearby rows cols (cell_of w o) spans)
    (λ r. Err r ≡ checked (weight_checks weights rows cols w o))
unfolding near_spans
by-place weights rows cols w o (Ok s) e z =
    (go 0 (weight_plane_checks weights rows cols) (place_checks rows cols w o) z (place-passes rows cols w o refl e), nearby rows cols w o refl e)
by-place weights rows cols w o (Err r) e z =
    went-on (weight_plane_checks weights rows cols) (place_checks rows cols w o) z (caught (place_checks rows cols w o) _ e refl)
