-- What the listing means, in words of 'for every' and 'there is', both ways, over any shape of grid: a colour is listed at a cell exactly if
-- each kept window has a tile that agrees with the laid pieces and holds that colour there (`lists-from`, `lists-to`; `windows-from`,
-- `windows-to`: window by window, by its test). And that the order of the nine windows does not change the list. Assumes nothing.
use Prim.Native.Nat.{ℕ, ◌+◌, ◌*◌, ◌<◌}
use mathlib.Core.Path.{◌≡◌, refl, sym, ◌∙◌, ap, subst}
use mathlib.Core.Bool.{Bool, true, not, ◌&&◌, ◌||◌}
use mathlib.Core.List.{List, [], ◌∷◌}
use borrow.Author.Tests.{ltb-true, eqb-true, eqb-false, eq-eqb}
use lib.Dec.{ltb, eqb}
use lib.ListN.{get_or}
use Rattle.base.specs.Counting.{every}
use Rattle.base.proofs.Bools.{and_left, and_right, and_both, or_left, or_right, by-test, same_test}
use Rattle.base.proofs.Counted.{every-at, every-is, some_at, some_is}
use Rattle.rules.specs.Tests.{tiles_in}
use Rattle.rules.specs.Grid.{Shape}
use Rattle.rules.specs.Fit.{pattern, agrees, agrees_at, fits_tile, serves, has_fitting, allows, window_order, left_after, lists}

-- ---- the order of the windows

order-test : every 9 (λ i. ltb (get_or window_order i 0) 9) ≡ true
unfolding every
order-test = refl

pub order_lt : (i : ℕ) → i < 9 → get_or window_order i 0 < 9
order_lt i l = ltb-true (get_or window_order i 0) 9 (every-at (λ i. ltb (get_or window_order i 0) 9) 9 order-test i l)

-- the window that comes i-th has the cell at place `window_order` i; the window that has the cell at place q comes here
placed : List ℕ
placed = 8 ∷ 4 ∷ 7 ∷ 3 ∷ 0 ∷ 2 ∷ 6 ∷ 1 ∷ 5 ∷ []

placed-test : every 9 (λ q. ltb (get_or placed q 0) 9 && eqb (get_or window_order (get_or placed q 0) 0) q) ≡ true
unfolding every placed
placed-test = refl

pub in_order : (f : ℕ → Bool) → every 9 (λ i. f (get_or window_order i 0)) ≡ every 9 f
in_order f =
    same_test _ _
    (λ e.
    every-is f 9 (λ q l.
    let w = found q l in subst (λ (x : ℕ). f x ≡ true) w.1 (every-at (λ i. f (get_or window_order i 0)) 9 e (get_or placed q 0) w.0)))
    (λ e. every-is (λ i. f (get_or window_order i 0)) 9 (λ i l. every-at f 9 e (get_or window_order i 0) (order_lt i l)))
  where
    found : (q : ℕ) → q < 9 → (get_or placed q 0 < 9) × (get_or window_order (get_or placed q 0) 0 ≡ q)
    found q l =
        let h = every-at (λ q. ltb (get_or placed q 0) 9 && eqb (get_or window_order (get_or placed q 0) 0) q) 9 placed-test q l in
        (ltb-true _ 9 (and_left _ _ h), eqb-true _ q (and_right (ltb (get_or placed q 0) 9) _ h))

-- ---- over any shape of grid

-- tile n agrees with what starts at s: wherever a piece is laid there it has that colour
unfoldable pub Agrees : Shape → List ℕ → List ℕ → ℕ → ℕ → Type 0
Agrees g tiles pieces s n = (i : ℕ) → i < 9 → (pattern g pieces s i ≡ 0 → ⊥) → get_or tiles (n * 9 + i) 0 ≡ pattern g pieces s i

-- every kept window has a tile that agrees and has colour t at the cell's place
unfoldable pub Listed : Shape → List ℕ → List ℕ → ℕ → ℕ → Type 0
Listed g tiles pieces k t =
    (q : ℕ) → q < 9 → g.kept k q ≡ true → (n : ℕ) × (n < tiles_in tiles) × Agrees g tiles pieces (g.start k q) n × (get_or tiles (n * 9 + q) 0 ≡ t)

agree-from : (a b : ℕ) → agrees a b ≡ true → (a ≡ 0 → ⊥) → b ≡ a
unfolding agrees
agree-from a b e h = by-test (eqb a 0) (λ z. absurd (h (eqb-true a 0 z))) (λ z. sym (eqb-true a b (sym (ap (λ (x : Bool). x || eqb a b) z) ∙ e)))

agree-to : (a b : ℕ) → ((a ≡ 0 → ⊥) → b ≡ a) → agrees a b ≡ true
unfolding agrees
agree-to a b h = by-test (eqb a 0) (λ z. or_left (eqb a 0) (eqb a b) z) (λ z. or_right (eqb a 0) (eqb a b) (eq-eqb a b (sym (h (eqb-false a 0 z)))))

module _ (g : Shape) (tiles pieces : List ℕ) (k t : ℕ) where
  abbrev shown : ℕ → ℕ → ℕ
  shown q = pattern g pieces (g.start k q)

  pub windows-from : lists g tiles pieces k t ≡ true → (q : ℕ) → q < 9 → g.kept k q ≡ true → has_fitting tiles (shown q) q t ≡ true
  unfolding left_after allows
  windows-from e q l kept =
      sym (ap (λ (b : Bool). not b || has_fitting tiles (shown q) q t) kept)
      ∙ every-at (allows g tiles pieces k t) 9 (sym (in_order (allows g tiles pieces k t)) ∙ e) q l

  pub windows-to : ((q : ℕ) → q < 9 → g.kept k q ≡ true → has_fitting tiles (shown q) q t ≡ true) → lists g tiles pieces k t ≡ true
  unfolding left_after allows
  windows-to h =
      in_order (allows g tiles pieces k t)
      ∙ every-is (allows g tiles pieces k t) 9
      (λ q l. by-test (g.kept k q) (λ e. or_right (not (g.kept k q)) (has_fitting tiles (shown q) q t) (h q l e)) (λ e. rw e))

  pub lists-from : lists g tiles pieces k t ≡ true → Listed g tiles pieces k t
  unfolding Listed Agrees has_fitting fits_tile
  lists-from e q l kept =
      let w = some_at (serves tiles (shown q) q t) (tiles_in tiles) (windows-from e q l kept) in
      let f = and_left (fits_tile tiles (shown q) w.0) (eqb t (get_or tiles (w.0 * 9 + q) 0)) w.2 in (
        w.0,
        w.1,
        (λ i m. agree-from _ _ (every-at (agrees_at tiles (shown q) w.0) 9 f i m)),
        sym (eqb-true t _ (and_right (fits_tile tiles (shown q) w.0) (eqb t (get_or tiles (w.0 * 9 + q) 0)) w.2)),
      )

  pub lists-to : Listed g tiles pieces k t → lists g tiles pieces k t ≡ true
  unfolding Listed Agrees has_fitting fits_tile
  lists-to h =
      windows-to
      (λ q l e.
      let w = h q l e in
      some_is (serves tiles (shown q) q t) (tiles_in tiles) w.0 w.1
      (and_both (fits_tile tiles (shown q) w.0) (eqb t (get_or tiles (w.0 * 9 + q) 0))
      (every-is (agrees_at tiles (shown q) w.0) 9 (λ i m. agree-to _ _ (w.2 i m)))
      (eq-eqb t (get_or tiles (w.0 * 9 + q) 0) (sym w.3))))
