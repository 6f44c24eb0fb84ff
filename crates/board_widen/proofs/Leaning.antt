-- What widen leans on once its checks have passed.
--     accepted      what the checks give
--     weighable, countable    the larger pieces, once they are moved
--     widened_is    the three planes, joined
-- Assumes nothing.
use Prim.Native.Nat.{ℕ, ◌*◌}
use mathlib.Core.Path.{◌≡◌, refl, sym, ◌∙◌, ap}
use mathlib.Core.Bool.{true}
use mathlib.Core.List.{List}
use lib.ListN.{length}
use Rattle.base.specs.Tables.{tab}
use Rattle.base.specs.Refusal.{refusal}
use Rattle.base.proofs.Chain.{Passes, all_pass}
use Rattle.rules.specs.Tests.{offset_fits}
use Rattle.rules.specs.Grid.{flat}
use Rattle.rules.specs.Places.{new_rows, new_cols}
use Rattle.rules.specs.Fit.{pieces_checks}
use Rattle.rules.specs.Board.{Board, counts_of}
use Rattle.rules.specs.Widening.{widened_pieces, widened_weights, widened, widen_checks}
use Rattle.rules.specs.Promises.{board, panel}
use Rattle.rules.specs.declared.Offset.{Offset}
use Rattle.rules.specs.declared.Pads.{Pads}
use Rattle.check_sizes.proofs.Sides.{board-rows, board-cols, long}
use Rattle.fit_windows.specs.Ready.{Countable}
use Rattle.fit_windows.proofs.Accepted.{ready-from}
use Rattle.copy_checks.specs.Laid.{Sized}
use Rattle.board_widen.specs.Wide.{weight_after, Weighable}
use Rattle.board_widen.proofs.Pieces.{length-widened, widened-countable}

pub record Accepted (b lent : Board) (rows cols : ℕ) (p : Pads) (tiles : List ℕ) (o : Offset) : Type 0 where
  pub sized : Sized rows cols p (length b.pieces) (length lent.pieces)
  pub held : length b.weights ≡ rows * cols
  pub weights-room : length lent.weights ≡ new_rows rows p * new_cols cols p
  pub counts-room : length lent.counts ≡ new_rows rows p * new_cols cols p
  pub ready : Countable b.pieces rows cols tiles
  pub fitting : offset_fits o ≡ true

pub accepted : (b lent : Board) (rows cols : ℕ) (p : Pads) (tiles : List ℕ) (o : Offset) (count : ℕ)
    → 0 ≡ refusal (widen_checks (panel rows cols tiles o) count b p lent) → Accepted b lent rows cols p tiles o
accepted b lent rows cols p tiles o count e =
    let n : ℕ = new_rows rows p * new_cols cols p in
    let h = all_pass (widen_checks (panel rows cols tiles o) count b p lent) refl (sym e) in
    let y : Passes (pieces_checks b.pieces rows cols tiles count) = search in
    record {
      sized = record {
        old-sides = search;
        new-sides = search;
        held-is = long b.pieces (rows * cols) (search);
        room-is = long lent.pieces n (search);
      };
      held = long b.weights (rows * cols) (search);
      weights-room = long lent.weights n (search);
      counts-room = long lent.counts n (search);
      ready = (ready-from b.pieces rows cols tiles count y).tried;
      fitting = search;
    }

module _ {b lent : Board} {rows cols : ℕ} {p : Pads} {tiles : List ℕ} {o : Offset} {v : List ℕ} (e : v ≡ widened_pieces rows cols p b.pieces)
    (h : Accepted b lent rows cols p tiles o) where
  pub weighable : Weighable v b.weights rows cols p
  weighable =
      let s = h.sized.new-sides in
      record {
        tall = (board-rows (new_rows rows p) (new_cols cols p) s).1;
        some = (board-cols (new_rows rows p) (new_cols cols p) s).0;
        wide = (board-cols (new_rows rows p) (new_cols cols p) s).1;
        held = h.held;
        room = ap length e ∙ length-widened rows cols p b.pieces;
      }

  pub countable : Countable v (new_rows rows p) (new_cols cols p) tiles
  countable = rw e (widened-countable rows cols p b.pieces tiles h.sized.new-sides h.ready)

pub widened_is : (b : Board) (rows cols : ℕ) (p : Pads) (tiles : List ℕ) (o : Offset) {v w q : List ℕ} → v ≡ widened_pieces rows cols p b.pieces
    → w ≡ tab (new_rows rows p * new_cols cols p) (weight_after v b.weights rows cols p)
    → q ≡ counts_of (flat (new_rows rows p) (new_cols cols p)) tiles v → board v w q ≡ widened (panel rows cols tiles o) p b
unfolding widened widened_weights
widened_is b rows cols p tiles o e w-is q-is = rw (w-is, q-is, e)
