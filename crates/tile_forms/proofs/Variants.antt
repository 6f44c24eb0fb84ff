-- Laws of the forms of a tile and of a sample's variants, as the code meets them: how many there are, which form is which, and that every
-- variant is a tile of nine.
-- Assumes nothing.
use Prim.Native.Nat.{ℕ, zero, suc, ◌+◌, ◌-◌, ◌*◌, ◌/◌, ◌%◌, ◌<◌, ◌≤◌}
use mathlib.Core.Path.{◌≡◌, sym, ◌∙◌, ap}
use mathlib.Core.Bool.{Bool, true, false}
use mathlib.Core.List.{List}
use native.Mathlib.Omega.{arith}
use borrow.Author.Tests.{lt-ltb, le-ltb}
use lib.Dec.{ltb}
use lib.ListN.{length, get_or}
use Rattle.base.specs.Counting.{pick}
use Rattle.base.proofs.Bools.{and_both, and-no-left, and-no-right, pick_yes, pick_no}
use Rattle.base.proofs.Numbers.{mul-le}
use Rattle.base.proofs.Tabled.{length-tab}
use Rattle.rules.specs.Bounds.{max_tiles}
use Rattle.rules.specs.Grid.{cell_at, entry_of, on_grid}
use Rattle.rules.specs.Tiles.{sample_cell, starts_along, window_tile, rotated, reflected, turned, turns, forms, form, variant, variants}

-- a cell of the sample, or past its last row, or past its last column
module _ (sample : List ℕ) (rows cols r c : ℕ) where
  abbrev inside : Bool
  inside = on_grid rows cols (cell_at r c)

  abbrev held : ℕ
  held = get_or sample (entry_of cols (cell_at r c)) 0

  pub cell_below : rows ≤ r → 0 ≡ sample_cell sample rows cols r c
  unfolding sample_cell
  cell_below h = sym (pick_no inside held 0 (and-no-left (ltb r rows) (ltb c cols) (le-ltb r rows h)))

  pub cell-right : cols ≤ c → 0 ≡ sample_cell sample rows cols r c
  unfolding sample_cell
  cell-right h = sym (pick_no inside held 0 (and-no-right (ltb r rows) (ltb c cols) (le-ltb c cols h)))

  pub cell-there : r < rows → c < cols → held ≡ sample_cell sample rows cols r c
  unfolding sample_cell
  cell-there h k = sym (pick_yes inside held 0 (and_both (ltb r rows) (ltb c cols) (lt-ltb r rows h) (lt-ltb c cols k)))

-- ---- how many forms there are

pub turns-le : (rotations : Bool) → turns rotations ≤ 4
turns-le true = omega arith
turns-le false = omega arith

pub turns-pos : (rotations : Bool) → 0 < turns rotations
turns-pos true = omega arith
turns-pos false = omega arith

pub forms-le : (rotations reflections : Bool) → forms rotations reflections ≤ turns rotations + turns rotations
forms-le rotations true = omega arith
forms-le rotations false = omega arith

pub forms-pos : (rotations reflections : Bool) → 0 < forms rotations reflections
forms-pos rotations true = omega (arith, turns-pos rotations)
forms-pos rotations false = omega (arith, turns-pos rotations)

-- ---- form i: turned, or the reflection of a turned one
module _ (rotations : Bool) (i n : ℕ) (tile t : List ℕ) (e : n ≡ turns rotations) where
  pub form-turned : i < n → t ≡ turned i tile → t ≡ form rotations i tile
  unfolding form
  form-turned h p = rw (lt-ltb i (turns rotations) (omega arith)) p

  pub form-reflected : (x : List ℕ) → n ≤ i → x ≡ turned (i - n) tile → t ≡ reflected x → t ≡ form rotations i tile
  unfolding form
  form-reflected x h p q =
      rw (le-ltb i (turns rotations) (omega arith)) (q ∙ ap reflected (p ∙ ap (λ (m : ℕ). turned (i - m) tile) e))

-- ---- the variants of a sample

module _ (sample : List ℕ) (rows cols : ℕ) (rotations reflections : Bool) where
  pub variant_is : (v n wide : ℕ) (tile t : List ℕ) → n ≡ forms rotations reflections → wide ≡ starts_along cols
      → tile ≡ window_tile sample rows cols (v / n / wide) (v / n % wide) → t ≡ form rotations (v % n) tile
      → t ≡ variant sample rows cols rotations reflections v
  unfolding variant
  variant_is v n wide tile t e f p q =
      q ∙ ap (form rotations (v % n)) p
      ∙ ap (λ (m : ℕ). form rotations (v % m) (window_tile sample rows cols (v / m / wide) (v / m % wide))) e
      ∙ ap (λ (m : ℕ). form rotations (v % forms rotations reflections) (window_tile sample rows cols (v / forms rotations reflections / m) (v / forms rotations reflections % m))) f

  turned-length : (n : ℕ) (tile : List ℕ) → length tile ≡ 9 → length (turned n tile) ≡ 9
  unfolding turned rotated
  turned-length zero tile e = e
  turned-length (suc n) tile e = length-tab 9 _

  form-length : (i : ℕ) (tile : List ℕ) → length tile ≡ 9 → length (form rotations i tile) ≡ 9
  unfolding form reflected
  form-length i tile e = go (ltb i (turns rotations))
    where
      go : (b : Bool) → length (pick b (turned i tile) (reflected (turned (i - turns rotations) tile))) ≡ 9
      go true = turned-length i tile e
      go false = length-tab 9 _

  -- every variant is a tile of nine
  pub variant-length : (v : ℕ) → length (variant sample rows cols rotations reflections v) ≡ 9
  unfolding variant window_tile
  variant-length v = form-length _ _ (length-tab 9 _)

  pub variant-nine : (v : ℕ) (tile : List ℕ) → tile ≡ variant sample rows cols rotations reflections v → length tile ≡ 9
  variant-nine v tile e = ap length e ∙ variant-length v

-- at most 7,200
pub windows-le : {a b : ℕ} → a ≤ 30 → b ≤ 30 → a * b ≤ 900
windows-le p q = mul-le p q

pub variants-le : {a b c : ℕ} → a ≤ 30 → b ≤ 30 → c ≤ 8 → a * b * c ≤ max_tiles
variants-le p q r = mul-le (windows-le p q) r

pub variants-is : (rows cols a b c : ℕ) (rotations reflections : Bool) → a ≡ starts_along rows → b ≡ starts_along cols → c ≡ forms rotations reflections
    → a * b * c ≡ variants rows cols rotations reflections
variants-is rows cols a b c rotations reflections p q r = cc
