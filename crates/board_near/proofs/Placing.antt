-- What the answer of `near_spans` says: given, the place was not refused and the spans are those round its cell; refused, the place was.
-- Assumes nothing.
use Prim.Native.Nat.{ℕ, ◌+◌, min}
use mathlib.Core.Path.{◌≡◌, sym, ◌∙◌, ap}
use mathlib.Core.Bool.{true, false}
use native.Mathlib.Omega.{arith}
use lib.IntN.{◌+ℤ◌}
use Rattle.std.specs.Prelude.{Ok, Err}
use Rattle.base.specs.Refusal.{refusal}
use Rattle.base.proofs.Bools.{by-test}
use Rattle.base.proofs.Chain.{none-fails}
use Rattle.rules.specs.Tests.{on_wall, offset_fits, on_board}
use Rattle.rules.specs.Answers.{Answer, checked}
use Rattle.rules.specs.Places.{cell_of, span_of, span_checks, region_spans}
use Rattle.rules.specs.Fit.{place_checks}
use Rattle.rules.specs.declared.Refusal.{Refusal}
use Rattle.rules.specs.declared.Refusal.TheVariants.{Place}
use Rattle.rules.specs.declared.World.{World}
use Rattle.rules.specs.declared.Offset.{Offset}
use Rattle.rules.specs.declared.Span.{Span}
use Rattle.rules.specs.declared.Spans.{Spans}
use Rattle.rules.proofs.Answered.{passed, told-by, tells}
use Rattle.places.proofs.Indices.{region, placed, row-span, col-span}
use Rattle.board_near.specs.Near.{Nearby, end_clipped, near_spans}

clash : {a : Answer Spans} {s : Spans} {r : Refusal} → a ≡ Err r → a ≡ Ok s → ⊥
clash z e = let x : ◌≡◌ {A = ℕ} 0 1 = cc in omega arith

module _ (rows cols : ℕ) (w : World) (o : Offset) where
  -- the spans of radius 2 round the place, which may lie off the board
  abbrev spans_at : Spans
  spans_at = record { rows = span_of (w.0 +ℤ o.0) 2; cols = span_of (w.1 +ℤ o.1) 2 }

  clip-both : Spans → Spans
  clip-both s = record { rows = end_clipped rows s.rows; cols = end_clipped cols s.cols }

  pub no-board : on_board rows cols w o ≡ false → Err Place ≡ near_spans rows cols w o
  unfolding near_spans refusal
  no-board r = by-test (on_wall w) (λ p. by-test (offset_fits o) (λ q. rw (p, q, r)) (λ q. rw (p, q))) (λ p. rw p)

  module _ {a : Answer Spans} where
    pub no-spans : {r : Refusal} → a ≡ Err r → a ≡ region_spans o w 2 → Err r ≡ near_spans rows cols w o
    unfolding region_spans near_spans refusal
    no-spans z e =
        by-test (on_wall w)
        (λ p. by-test (offset_fits o) (λ q. absurd (clash {s = spans_at} z (e ∙ rw (p, q)))) (λ q. sym z ∙ e ∙ rw (p, q)))
        (λ p. sym z ∙ e ∙ rw p)

    pub some-spans : {s : Spans} → a ≡ Ok s → a ≡ region_spans o w 2 → on_board rows cols w o ≡ true
        → Ok (record { rows = end_clipped rows s.rows; cols = end_clipped cols s.cols }) ≡ near_spans rows cols w o
    unfolding region_spans near_spans clip-both
    some-spans z e r =
        let g = region o w 2 (sym (passed (span_checks o w 2) spans_at e z)) in
        tells (place_checks rows cols w o)
        (sym (none-fails (place_checks rows cols w o) (g.walled, (g.fitting, r))))
        (ap clip-both (told-by (span_checks o w 2) spans_at e z))

    -- what a caller learns of each way
    pub place-stops : {r : Refusal} → a ≡ Err r → a ≡ near_spans rows cols w o → Err Place ≡ checked (place_checks rows cols w o)
    unfolding near_spans refusal clip-both
    place-stops z e =
        by-test (on_wall w)
        (λ p. by-test (offset_fits o)
        (λ q. by-test (on_board rows cols w o) (λ t. absurd (clash {s = clip-both spans_at} z (e ∙ rw (p, q, t)))) (λ t. rw (p, q, t)))
        (λ q. rw (p, q)))
        (λ p. rw p)

    pub place-passes : {s : Spans} → a ≡ Ok s → a ≡ near_spans rows cols w o → 0 ≡ refusal (place_checks rows cols w o)
    unfolding near_spans
    place-passes z e = passed (place_checks rows cols w o) _ e z

    pub nearby : {s : Spans} → a ≡ Ok s → a ≡ near_spans rows cols w o → Nearby rows cols (cell_of w o) s
    unfolding near_spans
    nearby z e =
        let h : on_board rows cols w o ≡ true = (placed rows cols w o (sym (place-passes z e))).boarded in
        let u = told-by (place_checks rows cols w o) _ e z in
        let r = row-span rows cols w o h 2 in
        let t = col-span rows cols w o h 2 in
        record {
          top = ap (λ (x : Spans). x.rows.0) u ∙ ap (λ (x : Span). x.0) r;
          bottom = ap (λ (x : Spans). x.rows.1) u ∙ ap (λ (x : Span). min x.1 rows) r ∙ ap (λ (n : ℕ). min n rows) (three (cell_of w o).0);
          left = ap (λ (x : Spans). x.cols.0) u ∙ ap (λ (x : Span). x.0) t;
          right = ap (λ (x : Spans). x.cols.1) u ∙ ap (λ (x : Span). min x.1 cols) t ∙ ap (λ (n : ℕ). min n cols) (three (cell_of w o).1);
        }
      where
        three : (x : ℕ) → x + 2 + 1 ≡ x + 3
        three x = omega arith
