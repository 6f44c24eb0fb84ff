-- A span from its two ends.
use Rattle.std.specs.Prelude.{ℕ}
use Rattle.rules.specs.declared.Span.{Span}

abbrev pub span_from : ℕ → ℕ → Span
span_from start end = record { 0 = start; 1 = end }
