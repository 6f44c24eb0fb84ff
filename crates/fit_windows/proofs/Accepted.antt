-- What accepted checks give: the records of specs/Ready.antt that the functions beneath the calls ask for.
--     ready-from    the tests of pieces, tiles and colours, from whatever list of checks they come
--     accepted-ready    the list of them that was accepted
--     ready-coloured    tiles whose colours a set can hold
--     set-readable, set-countable    a plane in which one cell was stored to, a bare one or a colour
-- Assumes nothing.
use Prim.Native.Nat.{ℕ, ◌+◌, ◌*◌, ◌<◌, ◌≤◌}
use mathlib.Core.Path.{◌≡◌, refl, sym, ◌∙◌, ap, subst}
use mathlib.Core.Bool.{true}
use mathlib.Core.List.{List}
use native.Mathlib.Omega.{arith}
use borrow.Author.Tests.{eqb-true, eqb-false}
use lib.Dec.{eqb}
use lib.ListN.{length, get_or, set, length-set}
use lib.Seq.{get_or-set_same, get_or-set_other}
use Rattle.base.specs.Refusal.{refusal}
use Rattle.base.proofs.Bools.{by-test}
use Rattle.base.proofs.Chain.{Passes, all_pass}
use Rattle.rules.specs.Bounds.{max_colours}
use Rattle.rules.specs.Tests.{board_sides, whole_tiles, tiles_in, pieces_stored}
use Rattle.rules.specs.Fit.{pieces_checks}
use Rattle.check_sizes.proofs.Sides.{board-rows, board-cols, long, tiles-most, whole-number, whole_length, count_most, none_above-entry, stored-least, stored-most}
use Rattle.fit_pattern.specs.Ready.{Readable}
use Rattle.fit_windows.specs.Ready.{Countable, Coloured, Ready}

module _ (pieces : List ℕ) (rows cols : ℕ) (tiles : List ℕ) (count : ℕ) where
  pub ready-from : Passes (pieces_checks pieces rows cols tiles count) → Ready pieces rows cols tiles count
  ready-from h =
      let sides : board_sides rows cols ≡ true = search in
      let whole : whole_tiles tiles ≡ true = search in
      let stored : pieces_stored pieces count ≡ true = search in
      let few : count ≤ max_colours = count_most count (search) in
      record {
        tried = record {
          board = record {
            tall = (board-rows rows cols sides).1;
            wide = (board-cols rows cols sides).1;
            plane = long pieces (rows * cols) (search);
            least = stored-least pieces count stored;
            most = λ k l. omega (arith, stored-most pieces count stored k l);
          };
          whole = whole_length tiles whole;
          few = tiles-most (tiles_in tiles) (whole-number tiles whole);
        };
        colours = few;
        known = none_above-entry tiles count (search);
      }

  pub accepted-ready : refusal (pieces_checks pieces rows cols tiles count) ≡ 0 → Ready pieces rows cols tiles count
  accepted-ready e = ready-from (all_pass (pieces_checks pieces rows cols tiles count) refl e)

  pub ready-coloured : Ready pieces rows cols tiles count → Coloured tiles
  ready-coloured r = record { whole = r.tried.whole; known = λ i h. omega (arith, r.known i h, r.colours) }

-- what holds of every entry and of the value stored holds of every entry then
set_keeps : (P : ℕ → Type 0) (l : List ℕ) (k v : ℕ) → P v → ((i : ℕ) → i < length l → P (get_or l i 0))
    → (i : ℕ) → i < length (set l k v) → P (get_or (set l k v) i 0)
set_keeps P l k v p h i b =
    let i< : i < length l = omega (arith, length-set l k v) in
    by-test (eqb i k)
    (λ e. let q : i ≡ k = eqb-true i k e in subst P (sym (ap (λ (x : List ℕ). get_or x i 0) (ap (λ (j : ℕ). set l j v) (sym q)) ∙ get_or-set_same l i v 0 i<)) p)
    (λ e. subst P (sym (get_or-set_other l k i v 0 (eqb-false i k e))) (h i i<))

module _ (pieces : List ℕ) (rows cols k v : ℕ) (least : 1 ≤ v) (most : v ≤ max_colours + 1) where
  pub set-readable : Readable pieces rows cols → Readable (set pieces k v) rows cols
  set-readable r =
      record {
        tall = r.tall;
        wide = r.wide;
        plane = length-set pieces k v ∙ r.plane;
        least = set_keeps (λ x. 1 ≤ x) pieces k v least r.least;
        most = set_keeps (λ x. x ≤ max_colours + 1) pieces k v most r.most;
      }

  pub set-countable : (tiles : List ℕ) → Countable pieces rows cols tiles → Countable (set pieces k v) rows cols tiles
  set-countable tiles r = record { board = set-readable r.board; whole = r.whole; few = r.few }
