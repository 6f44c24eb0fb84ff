-- What the code reads of a board.
--     inside        a cell of the grid has its entry in the plane, and there are few
--     bare-past     past the edge it is bare
--     read_is       a table that was read shows its colours
--     colour-known, painted    a cell holds a colour, or 0; so do the cells of a table of them
-- Assumes nothing.
use Prim.Native.Nat.{ℕ, ◌-◌, ◌*◌, ◌<◌, ◌≤◌}
use mathlib.Core.Path.{◌≡◌, sym, ◌∙◌, ap}
use mathlib.Core.List.{List}
use mathlib.Core.Logic.{⊎_elim}
use native.Mathlib.Omega.{arith}
use lib.ListN.{length, get_or, get_or-eq_default}
use Rattle.base.specs.Tables.{tab}
use Rattle.base.proofs.Numbers.{cell-lt, mul-le, lt-or-le}
use Rattle.base.proofs.Tabled.{get_d-tab, length-tab}
use Rattle.rules.specs.Bounds.{max_cells, max_colours}
use Rattle.rules.specs.Grid.{cell_at, entry_of, colour_on}
use Rattle.rules.specs.declared.Cell.{Cell}
use Rattle.fit_pattern.specs.Ready.{Readable, CellOn, Painted}

pub record Inside (pieces : List ℕ) (cols : ℕ) (cell : Cell) : Type 0 where
  pub below : entry_of cols cell < length pieces
  pub few : length pieces ≤ max_cells

pub inside : {pieces : List ℕ} {rows cols r c : ℕ} → Readable pieces rows cols → CellOn rows cols r c → Inside pieces cols (cell_at r c)
inside {pieces} {rows} {cols} board on =
    let few : rows * cols ≤ max_cells = mul-le board.tall board.wide in
    record { below = omega (arith, cell-lt on.rowwise on.colwise, board.plane); few = omega (arith, board.plane) }

pub read_is : (n : ℕ) (f : ℕ → ℕ) {cells : List ℕ} → cells ≡ tab n f → (i : ℕ) → i < n → get_or cells i 0 ≡ f i
read_is n f e i l = ap (λ (x : List ℕ). get_or x i 0) e ∙ get_d-tab n f i 0 l

pub bare-past : (pieces : List ℕ) (n k : ℕ) → length pieces ≡ n → k ≡ n → 0 ≡ colour_on pieces k
bare-past pieces n k e q =
    let p : length pieces ≤ k = omega arith in
    sym (ap (λ (x : ℕ). x - 1) (get_or-eq_default pieces 0 p))

-- a cell holds a colour, or 0; so do the cells of a table of them
pub colour-known : {pieces : List ℕ} {rows cols : ℕ} → Readable pieces rows cols → (k : ℕ) → colour_on pieces k ≤ max_colours
colour-known {pieces} board k =
    ⊎_elim (λ l. omega (arith, board.most k l)) (λ l. omega (arith, get_or-eq_default pieces 0 l)) (lt-or-le k (length pieces))

pub painted : {pieces : List ℕ} {rows cols : ℕ} {cells : List ℕ} (n : ℕ) (place : ℕ → ℕ) → Readable pieces rows cols
    → cells ≡ tab n (λ i. colour_on pieces (place i)) → Painted cells
painted {pieces} {cells = cells} n place board e =
    record { known = λ i. ⊎_elim (λ l. rw (read_is n (λ k. colour_on pieces (place k)) e i l) (colour-known board (place i))) (λ l. rw (past i l) (omega arith)) (lt-or-le i n) }
  where
    past : (i : ℕ) → n ≤ i → get_or cells i 0 ≡ 0
    past i l = get_or-eq_default cells 0 (rw (ap length e ∙ length-tab n (λ i. colour_on pieces (place i))) l)
