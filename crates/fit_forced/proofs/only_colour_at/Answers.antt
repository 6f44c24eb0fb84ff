-- `fit_forced::only_colour_at` meets its contract. The listing is always a set, so the branch of a refusal is never taken. Assumes nothing.
use mathlib.Core.Path.{sym, ◌∙◌}
use borrow.Author.Tests.{le-ltb}
use Rattle.base.proofs.Bools.{pick_no}
use Rattle.rules.specs.Forced.{only}
use Rattle.fit_forced.proofs.Listed.{never-refused, listing-says}
use Rattle.fit_forced.proofs.only_colour_at.Goals as goal

pub returns-in_default : goal.returns-in_default
returns-in_default c = never-refused _ _ _ c.viable_tiles_at.ensures c.in_default.is

pub returns : goal.returns
returns c =
    listing-says only _ _ _ _ c.in-Ok.is c.viable_tiles_at.ensures c.only_colour.ensures
    ∙ sym (pick_no _ _ _ (le-ltb 1 _ c.if-pieces-at-gt-BARE_PIECE.false))
