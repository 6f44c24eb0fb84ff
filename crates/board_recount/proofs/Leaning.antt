-- What the recount leans on once its checks have passed. Assumes nothing.
use Prim.Native.Nat.{ℕ}
use mathlib.Core.Path.{◌≡◌, refl, sym, ◌∙◌, ap}
use mathlib.Core.List.{List}
use Rattle.std.specs.Prelude.{Ok}
use Rattle.base.specs.Refusal.{refusal}
use Rattle.base.proofs.Chain.{Passes, all_pass}
use Rattle.rules.specs.Tests.{tiles_in}
use Rattle.rules.specs.Places.{cell_of}
use Rattle.rules.specs.Fit.{pieces_checks}
use Rattle.rules.specs.Tiles.{tiles_counted}
use Rattle.rules.specs.Board.{counted_contents, recount_checks}
use Rattle.rules.specs.declared.World.{World}
use Rattle.rules.specs.declared.Offset.{Offset}
use Rattle.check_sizes.proofs.Tiled.{so-many}
use Rattle.fit_windows.specs.Ready.{Countable}
use Rattle.fit_windows.proofs.Accepted.{ready-from}
use Rattle.board_near.specs.Near.{OnPlane}
use Rattle.board_near.proofs.Leaning.{on-plane}
use Rattle.rules.specs.Answers.{Answer, checked}

-- the contents, by the number of tiles that `tile_number` answers
pub counted-by : (counts pieces tiles : List ℕ) (count : ℕ) {a : Answer ℕ} (x : ℕ) → a ≡ Ok x → a ≡ tiles_counted tiles
    → {y : Answer Unit} → y ≡ checked (counted_contents tiles count pieces counts x) → y ≡ checked (counted_contents tiles count pieces counts (tiles_in tiles))
counted-by counts pieces tiles count {a} x t e p =
    p ∙ ap (λ (n : ℕ). checked (counted_contents tiles count pieces counts n)) (so-many tiles a e x t)

pub record Planed (counts pieces : List ℕ) (rows cols : ℕ) (tiles : List ℕ) (w : World) (o : Offset) : Type 0 where
  pub on : OnPlane counts rows cols (cell_of w o)
  pub ready : Countable pieces rows cols tiles

pub planed : (counts pieces : List ℕ) (rows cols : ℕ) (tiles : List ℕ) (count : ℕ) (w : World) (o : Offset)
    → 0 ≡ refusal (recount_checks counts pieces rows cols tiles count w o) → Planed counts pieces rows cols tiles w o
planed counts pieces rows cols tiles count w o e =
    let h = all_pass (recount_checks counts pieces rows cols tiles count w o) refl (sym e) in
    let y : Passes (pieces_checks pieces rows cols tiles count) = search in
    record { on = on-plane counts rows cols w o (search) (search) (search); ready = (ready-from pieces rows cols tiles count y).tried }
