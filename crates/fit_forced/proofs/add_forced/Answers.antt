-- `fit_forced::add_forced` meets its contract: the positions stay as they are, or the first free entry gets the new one. Assumes nothing.
use Rattle.fit_forced.proofs.Entries.{as_before, one_more}
use Rattle.fit_forced.proofs.add_forced.Goals as goal

pub returns-then-colour-eq0 : goal.returns-then-colour-eq0
returns-then-colour-eq0 c = λ l e. as_before _ l _ _ e c.if-colour-eq0.true

pub returns : goal.returns
returns c = λ l e. one_more _ l _ _ e c.requires c.if-colour-eq0.false
