-- `listing_lines::gap_after` meets its contract, way by way. Assumes nothing.
use Rattle.listing_lines.proofs.Texts.{gap-none, gap-last, gap-inner}
use Rattle.listing_lines.proofs.gap_after.Goals as goal
use Rattle.listing_lines.proofs.gap_after.Goals.{else-cols-ne0-via-then-cols-ne0+else-k-cols, else-cols-ne0-via-else-cols-ne0}

pub returns-then-k-cols : goal.returns-then-k-cols
returns-then-k-cols c = gap-last _ _ c.if-k-cols.true

pub returns-else-cols-ne0 : goal.returns-else-cols-ne0
returns-else-cols-ne0 c =
    elim c.else-cols-ne0.branch [
      | else-cols-ne0-via-then-cols-ne0+else-k-cols w ↦ gap-inner _ _ w.if-k-cols.false
      | else-cols-ne0-via-else-cols-ne0 w ↦ gap-none _ _ w.if-cols-ne0.false
    ]
