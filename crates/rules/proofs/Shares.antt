-- What a piece adds to a weight: at most 3, and nothing further than two cells away. Assumes nothing.
use Prim.Native.Nat.{ℕ, ◌<◌, ◌≤◌}
use mathlib.Core.Path.{◌≡◌}
use native.Mathlib.Omega.{arith}
use lib.Dec.{leb}
use borrow.Author.Tests.{lt-leb}
use Rattle.base.proofs.Bools.{by-test}
use Rattle.rules.specs.Board.{share}

pub share-le : (d : ℕ) → share d ≤ 3
share-le d = by-test (leb d 1) (λ e. rw e (omega arith)) (λ e. rw e (by-test (leb d 2) (λ f. rw f (omega arith)) (λ f. rw f (omega arith))))

pub share-far : (d : ℕ) → 2 < d → share d ≡ 0
share-far d h = rw (lt-leb d 1 (omega arith), lt-leb d 2 h)
