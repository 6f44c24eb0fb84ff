-- `fit_windows::viable_tiles_at` meets its contract: the set of what `viable_colours` found. Assumes nothing.
use Prim.Native.Nat.{ℕ}
use mathlib.Core.Path.{ap}
use Rattle.std.specs.Prelude.{Ok}
use Rattle.fit_windows.proofs.viable_tiles_at.Goals as goal

pub returns : goal.returns
returns c = ap (λ (x : ℕ). Ok (record { bits = x; size = c.args.count })) c.viable_colours-bits.ensures
