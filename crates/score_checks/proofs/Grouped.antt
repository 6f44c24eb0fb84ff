-- The checks of a score call are those of one that fills the scores whole, and then that of the old scores: both give the same number, and
-- so the same answer.
-- Assumes nothing.
use Prim.Native.Nat.{ℕ, zero, suc}
use mathlib.Core.Path.{◌≡◌, refl, ap}
use mathlib.Core.List.{List}
use lib.Ieee.{Float}
use Rattle.base.specs.Refusal.{Checks, ◌unless◌, ◌then◌, or_else, refusal}
use Rattle.rules.specs.Answers.{answered, checked}
use Rattle.rules.specs.Bounds.{NUMBER}
use Rattle.rules.specs.Floats.{is_finite, all_are}
use Rattle.rules.specs.Scores.{counted_checks, score_checks}

either-way : (a b c : ℕ) → or_else (or_else a b) c ≡ or_else a (or_else b c)
either-way zero b c = refl
either-way (suc a) b c = refl

-- the old scores' part of the checks
abbrev pub then-old : List Float → List ℕ → ℕ → ℕ → ℕ → Checks
then-old scores counts rows cols tiles = counted_checks scores counts rows cols tiles then NUMBER unless all_are is_finite scores

pub grouped : (scores : List Float) (counts : List ℕ) (rows cols tiles : ℕ)
    → refusal (then-old scores counts rows cols tiles) ≡ refusal (score_checks scores counts rows cols tiles)
unfolding refusal
grouped scores counts rows cols tiles = simp either-way

pub grouped-answer : (scores : List Float) (counts : List ℕ) (rows cols tiles : ℕ)
    → checked (then-old scores counts rows cols tiles) ≡ checked (score_checks scores counts rows cols tiles)
grouped-answer scores counts rows cols tiles = ap (λ (n : ℕ). answered n tt) (grouped scores counts rows cols tiles)
