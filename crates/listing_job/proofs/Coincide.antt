-- Two results that meet the promise of the public call coincide.
-- Assumes nothing.
use Prim.Native.Nat.{ℕ}
use mathlib.Core.Path.{◌≡◌}
use mathlib.Core.List.{List}
use Rattle.base.proofs.Chain.{coincide}
use Rattle.listing_job.specs.Form.{form_of}
use Rattle.std.specs.Prelude.{Option}
use Rattle.listing_job.specs.declared.Setup.{Setup}

pub form-of-coincides : (ns : List ℕ) {r s : Option Setup} → r ≡ form_of ns → s ≡ form_of ns → r ≡ s
form-of-coincides ns p q = coincide p q
