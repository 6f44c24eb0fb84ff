-- A set by its bits: what it is where its bits are those of a test, and back. Assumes nothing.
use Prim.Native.Nat.{ℕ}
use mathlib.Core.Path.{◌≡◌, ap}
use mathlib.Core.Bool.{Bool}
use Rattle.rules.specs.Sets.{bits_of, set_of}
use Rattle.rules.specs.declared.TileBitset.{TileBitset}

pub of-bits : (n x : ℕ) (f : ℕ → Bool) → x ≡ bits_of n f → ◌≡◌ {A = TileBitset} (record { bits = x; size = n }) (set_of n f)
of-bits n x f e = rw e

pub set-bits : (s : TileBitset) (n : ℕ) (f : ℕ → Bool) → s ≡ set_of n f → s.bits ≡ bits_of n f
set-bits s n f e = ap (λ (x : TileBitset). x.bits) e
