-- The spans round a place that was not refused, as a caller meets them that opens the answer by `let .. else`.
-- Assumes nothing.
use Prim.Native.Nat.{ℕ, ◌≤◌}
use mathlib.Core.Path.{◌≡◌, ◌∙◌}
use native.Mathlib.Omega.{arith}
use Rattle.rules.specs.Bounds.{max_radius}
use Rattle.rules.specs.Places.{cell_of, region_spans}
use Rattle.rules.specs.declared.World.{World}
use Rattle.rules.specs.declared.Offset.{Offset}
use Rattle.places.proofs.Indices.{Placed, spans_round, spans-given}
use Rattle.rules.specs.Answers.{Answer}
use Rattle.std.specs.Prelude.{Ok, Err}
use Rattle.rules.specs.declared.Refusal.{Refusal}
use Rattle.rules.specs.declared.Spans.{Spans}

clash : {a : Answer Spans} {r : Refusal} {s : Spans} → a ≡ Err r → a ≡ Ok s → ⊥
clash e h = let z : ◌≡◌ {A = ℕ} 0 1 = cc in omega arith

same-spans : {a : Answer Spans} {s t : Spans} → a ≡ Ok s → a ≡ Ok t → s ≡ t
same-spans e h = cc

module _ {a : Answer Spans} (rows cols : ℕ) (w : World) (o : Offset) (k : ℕ) (p : Placed rows cols w o) (h : k ≤ max_radius) (is : a ≡ region_spans o w k) where
  given : a ≡ Ok (spans_round (cell_of w o) k)
  given = is ∙ spans-given rows cols w o k p h

  pub never-refused : {r : Refusal} → a ≡ Err r → ⊥
  never-refused e = clash e given

  pub spans-round : {s : Spans} → a ≡ Ok s → s ≡ spans_round (cell_of w o) k
  spans-round e = same-spans e given
