-- `fit_scan::is_dead_end` meets its contract: what each test leaves of the definition. The listing is always a set, so the way of a refusal is
-- never taken. Assumes nothing.
use lib.Dec.{eqb}
use lib.ListN.{length}
use Rattle.fit_forced.proofs.Listed.{never-refused, listing-says}
use Rattle.fit_scan.proofs.Search.{dead-laid, dead-light, dead-listed}
use Rattle.fit_scan.proofs.is_dead_end.Goals as goal

pub returns-then-pieces-at-gt-BARE_PIECE : goal.returns-then-pieces-at-gt-BARE_PIECE
returns-then-pieces-at-gt-BARE_PIECE c = dead-laid _ _ _ _ _ _ c.if-pieces-at-gt-BARE_PIECE.true

pub returns-then-weights-at-le1 : goal.returns-then-weights-at-le1
returns-then-weights-at-le1 c = dead-light _ _ _ _ _ _ c.if-weights-at-le1.true

pub returns-in_default : goal.returns-in_default
returns-in_default c = never-refused _ _ _ c.viable_tiles_at.ensures c.in_default.is

pub returns : goal.returns
returns c =
    dead-listed _ _ _ _ _ _ c.if-pieces-at-gt-BARE_PIECE.false c.if-weights-at-le1.false
    (listing-says (λ l. eqb (length l) 0) _ _ _ _ c.in-Ok.is c.viable_tiles_at.ensures c.no_colour.ensures)
