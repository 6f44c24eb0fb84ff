-- What the pieces say of a cell: its weight, and the count of the region that starts there. Assumes nothing.
use Prim.Native.Nat.{ℕ, ◌+◌, ◌<◌}
use mathlib.Core.Path.{◌≡◌, ◌∙◌, ap}
use mathlib.Core.List.{List}
use lib.ListN.{length, get_or}
use Rattle.base.specs.Counting.{pick, sum}
use Rattle.base.specs.Tables.{tab}
use Rattle.base.proofs.Tabled.{length-tab, get_d-tab}
use Rattle.rules.specs.Tests.{tiles_in}
use Rattle.rules.specs.Grid.{Shape, laid_on}
use Rattle.rules.specs.Fit.{pattern, fit_count}
use Rattle.rules.specs.Board.{reach, weights_of, counts_of}

module _ (g : Shape) where
  pub weights-long : (p : List ℕ) → length (weights_of g p) ≡ length p
  unfolding weights_of
  weights-long p = length-tab (length p) _

  pub weight-at : {n : ℕ} (p : List ℕ) (k : ℕ) → length p ≡ n → k < n → get_or (weights_of g p) k 0 ≡ 1 + sum n (λ j. pick (laid_on p j) (reach g j k) 0)
  unfolding weights_of
  weight-at {n} p k long k< = ap (λ (m : ℕ). get_or (tab m (weighed m)) k 0) long ∙ get_d-tab n (weighed n) k 0 k<
    where
      weighed : ℕ → ℕ → ℕ
      weighed m i = 1 + sum m (λ j. pick (laid_on p j) (reach g j i) 0)

  pub counts-long : (tiles p : List ℕ) → length (counts_of g tiles p) ≡ length p
  unfolding counts_of
  counts-long tiles p = length-tab (length p) _

  pub count_at-said : {n : ℕ} (tiles p : List ℕ) (s : ℕ) → length p ≡ n → s < n
      → get_or (counts_of g tiles p) s 0 ≡ pick (g.whole s) (fit_count tiles (pattern g p s)) (tiles_in tiles)
  unfolding counts_of
  count_at-said {n} tiles p s long s< =
      ap (λ (m : ℕ). get_or (tab m counted) s 0) long ∙ get_d-tab n counted s 0 s<
    where
      counted : ℕ → ℕ
      counted i = pick (g.whole i) (fit_count tiles (pattern g p i)) (tiles_in tiles)
