-- Which tiles fit a pattern, and how many.
--     fits-ext, count-ext, has-ext   equal patterns are fitted by the same tiles
--     bare-fits     every tile fits a bare pattern
--     fit_low       no more tiles fit than there are
-- Assumes nothing.
use Prim.Native.Nat.{ℕ, ◌+◌, ◌*◌, ◌<◌, ◌≤◌}
use mathlib.Core.Path.{◌≡◌, sym, ap}
use mathlib.Core.Bool.{Bool, true, ◌&&◌}
use mathlib.Core.List.{List}
use lib.Dec.{eqb}
use lib.ListN.{get_or}
use Rattle.base.specs.Counting.{every}
use Rattle.base.proofs.Bools.{or_left}
use Rattle.base.proofs.Counted.{every-at, every-is, every-ext, some-ext, tally-all, tally-ext, tally-le}
use Rattle.rules.specs.Tests.{tiles_in}
use Rattle.rules.specs.Fit.{agrees, agrees_at, fits_tile, fit_count, serves, has_fitting}

module _ (tiles : List ℕ) (f g : ℕ → ℕ) (same : (i : ℕ) → i < 9 → f i ≡ g i) where
  pub fits-ext : (n : ℕ) → fits_tile tiles f n ≡ fits_tile tiles g n
  unfolding fits_tile
  fits-ext n = every-ext (agrees_at tiles f n) (agrees_at tiles g n) 9 (λ i l. ap (λ (x : ℕ). agrees x (get_or tiles (n * 9 + i) 0)) (same i l))

  pub count-ext : fit_count tiles f ≡ fit_count tiles g
  unfolding fit_count
  count-ext = tally-ext (fits_tile tiles f) (fits_tile tiles g) (tiles_in tiles) (λ n l. fits-ext n)

  pub has-ext : (q t : ℕ) → has_fitting tiles f q t ≡ has_fitting tiles g q t
  unfolding has_fitting
  has-ext q t =
      some-ext (serves tiles f q t) (serves tiles g q t) (tiles_in tiles) (λ n l. ap (λ (b : Bool). b && eqb t (get_or tiles (n * 9 + q) 0)) (fits-ext n))

-- a bare pattern is one that every tile fits
pub bare-fits : (tiles : List ℕ) (shown : ℕ → ℕ) → every 9 (λ i. eqb (shown i) 0) ≡ true → tiles_in tiles ≡ fit_count tiles shown
unfolding fit_count fits_tile agrees
bare-fits tiles shown e =
    sym
    (tally-all (fits_tile tiles shown) (tiles_in tiles)
    (λ n l. every-is (agrees_at tiles shown n) 9 (λ i m. or_left (eqb (shown i) 0) _ (every-at (λ i. eqb (shown i) 0) 9 e i m))))

pub fit_low : (tiles : List ℕ) (shown : ℕ → ℕ) → fit_count tiles shown ≤ tiles_in tiles
unfolding fit_count
fit_low tiles shown = tally-le (fits_tile tiles shown) (tiles_in tiles)
