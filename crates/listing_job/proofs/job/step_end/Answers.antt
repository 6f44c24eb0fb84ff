-- `listing_job::job::step_end` meets its contract, arm by arm. Assumes nothing.
use native.Mathlib.Omega.{arith}
use Rattle.listing_job.proofs.Forming.{end-lay, end-lift, end-other}
use Rattle.listing_job.proofs.job.step_end.Goals as goal

pub returns-in-1 : goal.returns-in-1
returns-in-1 c = end-lay _ _ c.requires c.in-1.is

pub returns-in-2 : goal.returns-in-2
returns-in-2 c = end-lift _ _ c.requires (λ e. omega arith) c.in-2.is

pub returns-in_default : goal.returns-in_default
returns-in_default c = end-other _ _ c.requires (λ e. omega arith) (λ e. omega arith)
