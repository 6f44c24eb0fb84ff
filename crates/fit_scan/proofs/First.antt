-- What the scan finds is the first cell, row by row, that is bare, has weight above 1 and lists no colour; where it finds none, there is
-- none. Over the definitions alone, on any kind of grid.
-- Assumes nothing.
use Prim.Native.Nat.{ℕ, zero, suc, ◌*◌, ◌<◌, ◌≤◌}
use mathlib.Core.Path.{◌≡◌, refl, ◌∙◌, ap, subst}
use mathlib.Core.Bool.{Bool, true, false, not, ◌&&◌}
use mathlib.Core.List.{List, []}
use mathlib.Core.Logic.{◌⊎◌, ⊎_elim}
use native.Mathlib.Nat.{mul-zero}
use native.Mathlib.Omega.{arith}
use borrow.Author.Tests.{lt-ltb, ltb-true, ltb-false, le-ltb, eqb-true, not-true}
use lib.Dec.{ltb}
use lib.ListN.{get_or}
use Rattle.base.specs.Counting.{first}
use Rattle.base.specs.Refusal.{refusal}
use Rattle.base.proofs.Bools.{never, and_left, and_right}
use Rattle.base.proofs.Numbers.{cell-is, cell-lt, row_lt, col-lt, rows_apart}
use Rattle.base.proofs.Counted.{first_holds, first-before}
use Rattle.std.specs.Prelude.{Some, None, Ok}
use Rattle.rules.specs.Answers.{answered, if_there}
use Rattle.rules.specs.Grid.{Kind, entry_of, cell_with}
use Rattle.rules.specs.Forced.{listed_at, dead_at, scan_checks, dead_end}
use Rattle.rules.specs.declared.Cell.{Cell}
use Rattle.bitset_colours.proofs.Colours.{length-zero}
use Rattle.fit_pattern.specs.Ready.{CellOn}

-- a cell before another, row by row
abbrev pub Before : Cell → Cell → Type 0
Before i k = (i.0 < k.0) ⊎ ((i.0 ≡ k.0) × (i.1 < k.1))

before-lt : (cols : ℕ) (i k : Cell) → i.1 < cols → Before i k → entry_of cols i < entry_of cols k
before-lt cols i k l b =
    ⊎_elim
    (λ (h : i.0 < k.0). omega (arith, rows_apart cols h))
    (λ (h : (i.0 ≡ k.0) × (i.1 < k.1)). let m : i.0 * cols ≡ k.0 * cols = ap (λ (x : ℕ). x * cols) h.0 in omega (arith, h.1))
    b

some-cols : (k rows cols : ℕ) → k < rows * cols → 0 < cols
some-cols k rows zero h = absurd (let z : rows * 0 ≡ 0 = mul-zero rows in omega arith)
some-cols k rows (suc n) h = omega arith

-- what an answer tells
at_of : (n : ℕ) (b : Bool) (c d : Cell) → answered n (if_there b c) ≡ Ok (Some d) → (b ≡ true) × (c ≡ d)
at_of zero true c d e = (refl, cc)
at_of zero false c d e = absurd (let z : ◌≡◌ {A = ℕ} 0 1 = cc in omega arith)
at_of (suc n) b c d e = absurd (let z : ◌≡◌ {A = ℕ} 0 1 = cc in omega arith)

nowhere-of : (n : ℕ) (b : Bool) (c : Cell) → answered n (if_there b c) ≡ Ok None → b ≡ false
nowhere-of zero true c e = absurd (let z : ◌≡◌ {A = ℕ} 0 1 = cc in omega arith)
nowhere-of zero false c e = refl
nowhere-of (suc n) b c e = absurd (let z : ◌≡◌ {A = ℕ} 0 1 = cc in omega arith)

module _ (kind : Kind) (pieces weights : List ℕ) (rows cols : ℕ) (tiles : List ℕ) (count : ℕ) where
  abbrev dead : ℕ → Bool
  dead = dead_at (kind rows cols) tiles pieces weights count

  pub record Qualifies (k : Cell) : Type 0 where
    pub bare : get_or pieces (entry_of cols k) 0 ≤ 1
    pub heavy : 1 < get_or weights (entry_of cols k) 0
    pub unlisted : listed_at (kind rows cols) tiles pieces count (entry_of cols k) ≡ []

  pub qualifies : (k : Cell) → dead (entry_of cols k) ≡ true → Qualifies k
  unfolding dead_at
  qualifies k e =
      let n : ℕ = entry_of cols k in
      let both = and_left (not (ltb 1 (get_or pieces n 0)) && ltb 1 (get_or weights n 0)) _ e in
      record {
        bare = ltb-false 1 (get_or pieces n 0) (not-true _ (and_left (not (ltb 1 (get_or pieces n 0))) _ both));
        heavy = ltb-true 1 (get_or weights n 0) (and_right (not (ltb 1 (get_or pieces n 0))) _ both);
        unlisted = length-zero _ (eqb-true _ 0 (and_right (not (ltb 1 (get_or pieces n 0)) && ltb 1 (get_or weights n 0)) _ e));
      }

  qualified : (k : Cell) → Qualifies k → dead (entry_of cols k) ≡ true
  unfolding dead_at
  qualified k q = rw (le-ltb 1 (get_or pieces (entry_of cols k) 0) q.bare, lt-ltb 1 (get_or weights (entry_of cols k) 0) q.heavy, q.unlisted)

  pub record FirstOf (k : Cell) : Type 0 where
    pub there : CellOn rows cols k.0 k.1
    pub dead-there : Qualifies k
    pub none_before : (i : Cell) → CellOn rows cols i.0 i.1 → Before i k → Qualifies i → ⊥

  -- the cell that the scan finds
  abbrev found : ℕ
  found = first (rows * cols) dead

  pub found_first : (cell : Cell) → dead_end kind pieces weights rows cols tiles count ≡ Ok (Some cell) → FirstOf cell
  unfolding dead_end
  found_first cell e =
      let a = at_of (refusal (scan_checks pieces weights rows cols tiles count)) (ltb found (rows * cols)) (cell_with cols found) cell e in
      let h : found < rows * cols = ltb-true found (rows * cols) a.0 in
      let p : 0 < cols = some-cols found rows cols h in
      subst (λ (x : Cell). FirstOf x) a.1
      (record {
        there = record { rowwise = row_lt found rows cols p h; colwise = col-lt found cols p };
        dead-there = qualifies (cell_with cols found) (ap dead (cell-is found cols) ∙ first_holds dead (rows * cols) h);
        none_before = λ i g b q.
            let l = before-lt cols i (cell_with cols found) g.colwise b in
            never _ (qualified i q) (first-before dead (rows * cols) (entry_of cols i) (omega (arith, cell-is found cols)));
      })

  pub found_nowhere : dead_end kind pieces weights rows cols tiles count ≡ Ok None → (i : Cell) → CellOn rows cols i.0 i.1 → Qualifies i → ⊥
  unfolding dead_end
  found_nowhere e i g q =
      let none = nowhere-of (refusal (scan_checks pieces weights rows cols tiles count)) (ltb found (rows * cols)) (cell_with cols found) e in
      let h : rows * cols ≤ found = ltb-false found (rows * cols) none in
      let l : entry_of cols i < rows * cols = cell-lt g.rowwise g.colwise in
      never _ (qualified i q) (first-before dead (rows * cols) (entry_of cols i) (omega arith))
