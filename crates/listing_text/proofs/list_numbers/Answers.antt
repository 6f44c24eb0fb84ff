-- `listing_text::list_numbers` meets its contract: a job of the form is listed, any other numbers are bad input. Assumes nothing.
use Rattle.listing_lines.proofs.Written.{writes_as}
use Rattle.listing_text.proofs.Telling.{form-formed, form-told, form-misses}
use Rattle.listing_text.proofs.list_numbers.Goals as goal

pub returns-in_default : goal.returns-in_default
returns-in_default c = writes_as (form-misses _ _ c.form_of.ensures c.in_default.is) c.put_bad_input.ensures

pub list_job-requires : goal.list_job-requires
list_job-requires c = form-formed _ _ c.form_of.ensures _ c.in-Some.is c.requires

pub returns : goal.returns
returns c = writes_as (form-told _ _ c.form_of.ensures _ c.in-Some.is) c.list_job.ensures
