-- A grid stands in a larger one: what the pieces say of a cell does not change when they are carried there.
--     weight-carried    the weight of a cell
--     count-carried     how many tiles fit a region that lies inside
--     lists-carried     a colour that is listed there was listed before; lists-kept: and the other way, where no window is kept that was skipped
-- Over any two shapes. Weight and count ask (`Embeds`) that each distance is kept, each cell of a region, and that it lies inside, and that a
-- sum over the cells of the larger grid, to which its other cells add nothing, is one over the cells of the smaller. Lists ask
-- (`WindowsStay`) that each kept window is kept, and what it shows. Assumes nothing.
use Prim.Native.Nat.{ℕ, ◌<◌, ◌≤◌, ◌-◌}
use mathlib.Core.Path.{◌≡◌, sym, ◌∙◌, ap}
use mathlib.Core.Bool.{true, false}
use mathlib.Core.Logic.{◌≢◌, ◌⊎◌, inr, ⊎_elim}
use mathlib.Core.List.{List}
use native.Mathlib.Omega.{arith}
use lib.ListN.{length, get_or, get_or-eq_default}
use Rattle.base.specs.Counting.{pick, sum}
use Rattle.base.proofs.Bools.{pick_no}
use Rattle.base.proofs.Counted.{sum-ext}
use Rattle.base.proofs.Numbers.{lt-or-le}
use Rattle.rules.specs.Grid.{Shape, laid_on, colour_on}
use Rattle.rules.specs.Fit.{pattern, fit_count, lists}
use Rattle.rules.specs.Board.{reach}
use Rattle.rules.proofs.Fitting.{count-ext}
use Rattle.rules.proofs.Fewer.{shows-none, lists-under}

-- cell k is none of the n cells that stand in the larger grid by e
abbrev pub New : ℕ → (ℕ → ℕ) → ℕ → Type 0
New n e k = (j : ℕ) → j < n → e j ≢ k

-- what was one of the n cells stands where e says, and what was past the edge is none of them
abbrev pub Stays : ℕ → (ℕ → ℕ) → ℕ → ℕ → Type 0
Stays n e old new = ((old < n) × (new ≡ e old)) ⊎ ((n ≤ old) × New n e new)

-- the n cells of g stand in the m cells of h by e
pub record Embeds (g h : Shape) (n m : ℕ) (e : ℕ → ℕ) : Type 0 where
  pub apart : (j k : ℕ) → j < n → k < n → h.apart (e j) (e k) ≡ g.apart j k
  pub cell : (s i : ℕ) → i < 9 → g.whole s ≡ true → (g.cell s i < n) × (h.cell (e s) i ≡ e (g.cell s i))
  pub whole : (s : ℕ) → g.whole s ≡ true → h.whole (e s) ≡ true
  pub total : (f : ℕ → ℕ) → ((k : ℕ) → k < m → New n e k → f k ≡ 0) → sum m f ≡ sum n (λ j. f (e j))

-- each kept window of one of the n cells is kept, and shows the same cells
pub record WindowsStay (g h : Shape) (n : ℕ) (e : ℕ → ℕ) : Type 0 where
  pub kept : (k q : ℕ) → k < n → q < 9 → g.kept k q ≡ true → h.kept (e k) q ≡ true
  pub shows : (k q i : ℕ) → k < n → q < 9 → i < 9 → g.kept k q ≡ true → Stays n e (g.cell (g.start k q) i) (h.cell (h.start (e k) q) i)

-- the pieces p of the smaller grid stand as q in the larger one, on whose other cells no piece stands
pub record Carried (n m : ℕ) (e : ℕ → ℕ) (p q : List ℕ) : Type 0 where
  pub at : (k : ℕ) → k < n → get_or q (e k) 0 ≡ get_or p k 0
  pub off : (k : ℕ) → k < m → New n e k → laid_on q k ≡ false

module _ {g h : Shape} {n m : ℕ} {e : ℕ → ℕ} (stands : Embeds g h n m e) {p q : List ℕ} (carried : Carried n m e p q) where
  pub weight-carried : (k : ℕ) → k < n
      → sum m (λ j. pick (laid_on q j) (reach h j (e k)) 0) ≡ sum n (λ j. pick (laid_on p j) (reach g j k) 0)
  weight-carried k k< =
      stands.total _ (λ j j< new. pick_no (laid_on q j) _ 0 (carried.off j j< new))
      ∙ sum-ext _ _ n (λ j j<. rw (carried.at j j<, stands.apart j k j< k<))

  pub count-carried : (tiles : List ℕ) (s : ℕ) → g.whole s ≡ true → fit_count tiles (pattern h q (e s)) ≡ fit_count tiles (pattern g p s)
  count-carried tiles s whole =
      count-ext tiles (pattern h q (e s)) (pattern g p s)
      (λ i i<.
      let c = stands.cell s i i< whole in
      ap (λ (k : ℕ). get_or q k 0 - 1) c.1 ∙ ap (λ (x : ℕ). x - 1) (carried.at (g.cell s i) c.0))

-- the windows of a cell, which may pass the edge
module _ {g h : Shape} {n m : ℕ} {e : ℕ → ℕ} (stay : WindowsStay g h n e) {p q : List ℕ} (carried : Carried n m e p q) (old-long : length p ≡ n) (new-long : length q ≡ m) where
  colour-carried : {old new : ℕ} → Stays n e old new → colour_on q new ≡ colour_on p old
  colour-carried {old} {new} st =
      ⊎_elim
      (λ w. ap (colour_on q) w.1 ∙ ap (λ (x : ℕ). x - 1) (carried.at old w.0))
      (λ w. none w.1 ∙ sym (ap (λ (x : ℕ). x - 1) (get_or-eq_default p 0 (past w.0))))
      st
    where
      past : n ≤ old → length p ≤ old
      past h = omega (arith, old-long)

      none : New n e new → colour_on q new ≡ 0
      none fresh =
          ⊎_elim
          (λ (new< : new < m). shows-none q new (carried.off new new< fresh))
          (λ (far : m ≤ new). ap (λ (x : ℕ). x - 1) (get_or-eq_default q 0 (omega (arith, new-long))))
          (lt-or-le new m)

  shown-carried : (k r i : ℕ) → k < n → r < 9 → i < 9 → g.kept k r ≡ true → pattern h q (h.start (e k) r) i ≡ pattern g p (g.start k r) i
  shown-carried k r i k< r< i< kept = colour-carried (stay.shows k r i k< r< i< kept)

  pub lists-carried : (tiles : List ℕ) (k t : ℕ) → k < n → lists h tiles q (e k) t ≡ true → lists g tiles p k t ≡ true
  lists-carried tiles k t k< =
      lists-under tiles g p k h q (e k) (λ r l kept. (stay.kept k r k< l kept, (λ i m. inr (shown-carried k r i k< l m kept)))) t

  pub lists-kept : (tiles : List ℕ) (k t : ℕ) → k < n → ((r : ℕ) → r < 9 → h.kept (e k) r ≡ true → g.kept k r ≡ true)
      → lists g tiles p k t ≡ true → lists h tiles q (e k) t ≡ true
  lists-kept tiles k t k< none-new =
      lists-under tiles h q (e k) g p k
      (λ r l kept. let old = none-new r l kept in (old, (λ i m. inr (sym (shown-carried k r i k< l m old)))))
      t
