-- One turn of a loop that tests every cell of a plane and leaves none out: the answer so far, and the test here.
-- Assumes nothing.
use Prim.Native.Nat.{ℕ, ◌+◌}
use mathlib.Core.Path.{◌≡◌, sym, ◌∙◌}
use mathlib.Core.Bool.{Bool, ◌&&◌}
use Rattle.base.specs.Counting.{every}
use Rattle.base.proofs.Counted.{every_more}

pub every-turn : {k : ℕ} {sofar here next : Bool} (f : ℕ → Bool) → sofar ≡ every k f → here ≡ f k → next ≡ (sofar && here) → next ≡ every (k + 1) f
every-turn {k} f p q e = e ∙ rw (p, q) (sym (every_more f k))
