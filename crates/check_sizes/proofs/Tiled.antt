-- What the answer of `tile_number` says of the list: given, the list is whole tiles and this is their number; refused, it is not.
-- Assumes nothing.
use Prim.Native.Nat.{ℕ, ◌≤◌}
use mathlib.Core.Path.{◌≡◌, ◌∙◌}
use mathlib.Core.Bool.{true, false}
use mathlib.Core.List.{List}
use native.Mathlib.Omega.{arith}
use Rattle.base.specs.Refusal.{refusal}
use Rattle.base.proofs.Bools.{by-test}
use Rattle.rules.specs.Tests.{tiles_in, whole_tiles}
use Rattle.rules.specs.Tiles.{tiles_counted}
use Rattle.std.specs.Prelude.{Ok, Err}
use Rattle.rules.specs.declared.Refusal.{Refusal}
use Rattle.rules.specs.declared.Refusal.TheVariants.{Length}
use Rattle.check_sizes.proofs.Sides.{tiles-most, whole-number}
use Rattle.rules.specs.Answers.{Answer}

apart-answers : {A : Type 0} (r : Refusal) (m : ℕ) (a : Answer ℕ) → a ≡ Ok m → a ≡ Err r → A
apart-answers r m a p q = absurd (let z : ◌≡◌ {A = ℕ} 0 1 = cc in omega arith)

module _ (tiles : List ℕ) (a : Answer ℕ) (e : a ≡ tiles_counted tiles) where
  pub not-whole : (r : Refusal) → a ≡ Err r → whole_tiles tiles ≡ false
  unfolding tiles_counted refusal
  not-whole r z = by-test (whole_tiles tiles) (λ p. apart-answers r (tiles_in tiles) a (e ∙ rw p) z) (λ p. p)

  pub is_whole : (n : ℕ) → a ≡ Ok n → whole_tiles tiles ≡ true
  unfolding tiles_counted refusal
  is_whole n z = by-test (whole_tiles tiles) (λ p. p) (λ p. apart-answers Length n a z (e ∙ rw p))

  pub so-many : (n : ℕ) → a ≡ Ok n → n ≡ tiles_in tiles
  unfolding tiles_counted refusal
  so-many n z = let y : a ≡ Ok (tiles_in tiles) = e ∙ rw (is_whole n z) in cc

  pub few-tiles : (n : ℕ) → a ≡ Ok n → n ≤ 7200
  few-tiles n z = omega (arith, so-many n z, tiles-most (tiles_in tiles) (whole-number tiles (is_whole n z)))
