-- Rotation and reflection of tiles of nine: four rotations are the identity, two reflections are, a reflected rotation is three rotations
-- of the reflected, and each of the two is one-to-one. By computation: each form reads nine places of any list.
-- Assumes nothing.
use Prim.Native.Nat.{ℕ}
use mathlib.Core.Path.{◌≡◌, refl, sym, ◌∙◌, ap}
use mathlib.Core.List.{List}
use lib.ListN.{length, get_or}
use Rattle.base.specs.Tables.{tab}
use Rattle.base.proofs.Tabled.{is-tab}
use Rattle.rules.specs.Tiles.{rotated, reflected}

-- the nine places of a list
abbrev nine : List ℕ → List ℕ
nine tile = tab 9 (λ k. get_or tile k 0)

nine-is : (tile : List ℕ) → length tile ≡ 9 → nine tile ≡ tile
nine-is tile e = sym (is-tab 0 tile 9 (λ k. get_or tile k 0) e (λ k h. refl))

four-nine : (tile : List ℕ) → rotated (rotated (rotated (rotated tile))) ≡ nine tile
unfolding tab rotated
four-nine tile = refl

two-nine : (tile : List ℕ) → reflected (reflected tile) ≡ nine tile
unfolding tab reflected
two-nine tile = refl

pub reflected-rotation : (tile : List ℕ) → reflected (rotated tile) ≡ rotated (rotated (rotated (reflected tile)))
unfolding tab rotated reflected
reflected-rotation tile = refl

module _ (tile : List ℕ) (e : length tile ≡ 9) where
  pub four-rotations : rotated (rotated (rotated (rotated tile))) ≡ tile
  four-rotations = four-nine tile ∙ nine-is tile e

  pub two-reflections : reflected (reflected tile) ≡ tile
  two-reflections = two-nine tile ∙ nine-is tile e

module _ (tile other : List ℕ) (p : length tile ≡ 9) (q : length other ≡ 9) where
  pub rotation-one-to-one : rotated tile ≡ rotated other → tile ≡ other
  rotation-one-to-one e =
      sym (four-rotations tile p) ∙ ap (λ (x : List ℕ). rotated (rotated (rotated x))) e ∙ four-rotations other q

  pub reflection-one-to-one : reflected tile ≡ reflected other → tile ≡ other
  reflection-one-to-one e = sym (two-reflections tile p) ∙ ap reflected e ∙ two-reflections other q
