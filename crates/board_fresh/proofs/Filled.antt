-- Filled planes of a board's lengths are the fresh board. Assumes nothing.
use Prim.Native.Nat.{ℕ, ◌*◌}
use mathlib.Core.Path.{◌≡◌, refl, sym}
use mathlib.Core.List.{List}
use lib.ListN.{length}
use Rattle.base.specs.Tables.{tab}
use Rattle.base.specs.Refusal.{refusal}
use Rattle.base.proofs.Chain.{all_pass}
use Rattle.rules.specs.Board.{fresh_checks, fresh_board}
use Rattle.rules.specs.Promises.{board}
use Rattle.check_sizes.proofs.Sides.{long}

pub filled : (pieces weights counts : List ℕ) (rows cols tiles : ℕ) → 0 ≡ refusal (fresh_checks rows cols tiles (board pieces weights counts))
    → (p w q : List ℕ) → p ≡ tab (length pieces) (λ k. 1) → w ≡ tab (length weights) (λ k. 1) → q ≡ tab (length counts) (λ k. tiles)
    → board p w q ≡ fresh_board (rows * cols) tiles
unfolding fresh_board
filled pieces weights counts rows cols tiles e p w q a b d =
    let h = all_pass (fresh_checks rows cols tiles (board pieces weights counts)) refl (sym e) in
    rw (a, b, d, long pieces (rows * cols) (search), long weights (rows * cols) (search), long counts (rows * cols) (search))
