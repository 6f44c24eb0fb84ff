-- `listing_job::job::form_of` meets its contract: numbers of the form make their set-up, any others none. Assumes nothing.
use mathlib.Core.Path.{sym, ◌∙◌}
use Rattle.listing_job.proofs.Forming.{formed-head, form-is, form-bad}
use Rattle.listing_job.proofs.job.form_of.Goals as goal

pub setup_of-requires : goal.setup_of-requires
setup_of-requires c = formed-head _ (sym c.is_formed.ensures ∙ c.if-is_formed.true)

pub returns-then-is_formed : goal.returns-then-is_formed
returns-then-is_formed c = form-is _ (sym c.is_formed.ensures ∙ c.if-is_formed.true) c.setup_of.ensures

pub returns-else-is_formed : goal.returns-else-is_formed
returns-else-is_formed c = form-bad _ (sym c.is_formed.ensures ∙ c.if-is_formed.false)
