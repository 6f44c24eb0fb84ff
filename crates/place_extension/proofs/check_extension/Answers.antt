-- `place_extension::check_extension` meets its contract: the sides are asked first, then the radius and the place.
-- Assumes nothing.
use Prim.Native.Nat.{ℕ}
use mathlib.Core.Path.{◌≡◌, ◌∙◌, ap}
use Rattle.base.specs.Refusal.{refusal}
use Rattle.base.proofs.Chain.{chain}
use Rattle.rules.specs.Answers.{answered}
use Rattle.rules.specs.Places.{span_checks, extension_checks}
use Rattle.rules.proofs.Answered.{answers}
use Rattle.place_extension.proofs.check_extension.Goals as goal

pub returns-then-not-board_sides : goal.returns-then-not-board_sides
returns-then-not-board_sides c = search (chain, answers) depth 20 fits 5000

pub returns : goal.returns
returns c =
    let a = c.args in
    let first : refusal (span_checks a.offset a.place a.radius) ≡ refusal (extension_checks a.rows a.cols a.offset a.place a.radius)
    = search chain depth 20 fits 5000
    in
    c.check_region.ensures ∙ ap (λ (n : ℕ). answered n tt) first
