-- `fit::fraction_of` meets its contract: count and tiles are whole numbers that a float holds, so the quotient is the definition's.
-- Assumes nothing.
use mathlib.Core.Path.{refl}
use Rattle.rules.specs.Scores.{fraction}
use Rattle.fit.proofs.fraction_of.Goals as goal

pub returns : goal.returns
unfolding fraction
returns c = refl
