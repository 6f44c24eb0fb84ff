-- What lay and lift answer by the checks of their planes and tiles, and what they lean on once these and those of the place have passed.
--     no-tiles, bad-contents, planes-passed    the ways past the lengths: the tiles, what the planes hold, or none of them refused
--     movable        what the rule beneath the checks asks of the board, the cell and the spans round it
--     colour-low      a colour that may be laid is a colour of the count, and the count is in bounds
-- Assumes nothing.
use Prim.Native.Nat.{ℕ, ◌≤◌}
use mathlib.Core.Path.{◌≡◌, refl, sym, ◌∙◌, ap}
use mathlib.Core.Bool.{true}
use mathlib.Core.List.{List}
use native.Mathlib.Omega.{arith}
use Rattle.std.specs.Prelude.{Ok, Err}
use Rattle.base.specs.Counting.{within}
use Rattle.base.specs.Refusal.{refusal}
use Rattle.base.proofs.Numbers.{within-high}
use Rattle.base.proofs.Chain.{Passes, all_pass, go, refuse-by, pass-by}
use Rattle.rules.specs.Bounds.{LENGTH, max_colours, max_weight}
use Rattle.rules.specs.Answers.{Answer, checked}
use Rattle.rules.specs.Tests.{colour_count, none_above, on_board}
use Rattle.rules.specs.Tiles.{tiles_counted}
use Rattle.rules.specs.Places.{cell_of}
use Rattle.rules.specs.Fit.{pieces_checks}
use Rattle.rules.specs.Board.{board_lengths, board_contents, board_checks, laying_checks}
use Rattle.rules.specs.Promises.{board, panel}
use Rattle.rules.specs.declared.Refusal.{Refusal}
use Rattle.rules.specs.declared.Refusal.TheVariants.{Length}
use Rattle.rules.specs.declared.World.{World}
use Rattle.rules.specs.declared.Offset.{Offset}
use Rattle.rules.specs.declared.Cell.{Cell}
use Rattle.rules.specs.declared.Spans.{Spans}
use Rattle.rules.proofs.Answered.{by-number, stopped, went-on}
use Rattle.check_sizes.proofs.Sides.{none_above-entry, count_most}
use Rattle.check_sizes.proofs.Tiled.{not-whole, is_whole, so-many}
use Rattle.places.proofs.Indices.{placed}
use Rattle.fit_windows.proofs.Accepted.{ready-from}
use Rattle.board_near.specs.Near.{near_spans}
use Rattle.board_near.proofs.Leaning.{on-plane}
use Rattle.board_near.proofs.Placing.{place-passes, nearby}
use Rattle.board_planes.proofs.Planes.{contents-by}
use Rattle.board_moves.specs.Movable.{Movable}

module _ (pieces weights counts : List ℕ) (rows cols : ℕ) (tiles : List ℕ) (count : ℕ) (o : Offset) where
  module _ {a : Answer ℕ} (z : 0 ≡ refusal (board_lengths rows cols (board pieces weights counts))) (e : a ≡ tiles_counted tiles) where
    pub no-tiles : {r : Refusal} → a ≡ Err r → Err Length ≡ checked (board_checks (panel rows cols tiles o) count (board pieces weights counts))
    no-tiles {r} t = went-on _ _ z (stopped _ _ (by-number _ (refuse-by _ (not-whole tiles a e r t))))

    module _ {n : ℕ} (t : a ≡ Ok n) where
      pub bad-contents : {r : Refusal} → Err r ≡ checked (board_contents tiles count (board pieces weights counts) n)
          → Err r ≡ checked (board_checks (panel rows cols tiles o) count (board pieces weights counts))
      bad-contents f = went-on _ _ z (went-on _ _ (pass-by LENGTH _ (is_whole tiles a e n t)) (contents-by tiles count _ n t e f))

      pub planes-passed : 0 ≡ refusal (board_contents tiles count (board pieces weights counts) n)
          → 0 ≡ refusal (board_checks (panel rows cols tiles o) count (board pieces weights counts))
      planes-passed f =
          go _ _ _ z
          (go _ _ _ (pass-by LENGTH _ (is_whole tiles a e n t))
          (f ∙ ap (λ (m : ℕ). refusal (board_contents tiles count (board pieces weights counts) m)) (so-many tiles a e n t)))

  module _ (e : 0 ≡ refusal (board_checks (panel rows cols tiles o) count (board pieces weights counts))) where
    passed : Passes (board_checks (panel rows cols tiles o) count (board pieces weights counts))
    passed = all_pass (board_checks (panel rows cols tiles o) count (board pieces weights counts)) refl (sym e)

    pub movable : (w : World) {a : Answer Spans} {spans : Spans} → a ≡ Ok spans → a ≡ near_spans rows cols w o
        → (cell : Cell) → cell ≡ cell_of w o → Movable (board pieces weights counts) rows cols tiles cell spans
    movable w z n cell q =
        let h = passed in
        let b : on_board rows cols w o ≡ true = (placed rows cols w o (sym (place-passes rows cols w o z n))).boarded in
        let y : Passes (pieces_checks pieces rows cols tiles count) = search in
        let low : none_above weights max_weight ≡ true = search in
        rw q
        record {
          pieces = on-plane pieces rows cols w o (search) (search) b;
          weights = on-plane weights rows cols w o (search) (search) b;
          counts = on-plane counts rows cols w o (search) (search) b;
          near = nearby rows cols w o z n;
          ready = (ready-from pieces rows cols tiles count y).tried;
          light = λ i l. omega (arith, none_above-entry weights max_weight low i l);
        }

    pub colour-low : (k colour : ℕ) → 0 ≡ refusal (laying_checks pieces k count colour) → colour ≤ max_colours
    colour-low k colour f =
        let h = passed in
        let l = all_pass (laying_checks pieces k count colour) refl (sym f) in
        let c : colour_count count ≡ true = search in
        let w : within 1 count colour ≡ true = search in
        omega (arith, count_most count c, within-high 1 count colour w)
