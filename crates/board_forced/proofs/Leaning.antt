-- The ways out of a forced run: what it leans on once its checks have passed, and what it answers and leaves.
--     leans          what the run beneath the checks asks
--     unrun, ran     the call refused, and the call that ran
-- Assumes nothing.
use Prim.Native.Nat.{ℕ, ◌*◌, ◌≤◌}
use mathlib.Core.Path.{◌≡◌, refl, sym}
use mathlib.Core.Bool.{true}
use mathlib.Core.List.{[]}
use native.Mathlib.Omega.{arith}
use borrow.Author.Tests.{leb-true}
use Rattle.base.specs.Refusal.{refusal}
use Rattle.base.proofs.Chain.{Passes, all_pass}
use Rattle.rules.specs.Bounds.{max_budget, max_weight}
use Rattle.rules.specs.Tests.{none_above, on_wall}
use Rattle.std.specs.Prelude.{Option, Ok, Err}
use Rattle.rules.specs.Answers.{checked}
use Rattle.rules.specs.declared.Refusal.{Refusal}
use Rattle.rules.proofs.Answered.{refused, done}
use Rattle.rules.specs.Fit.{pieces_checks}
use Rattle.rules.specs.Board.{Panel, Board}
use Rattle.rules.specs.ForcedRun.{run_out, run_checks, running, after_run}
use Rattle.rules.specs.Promises.{RunsOut}
use Rattle.rules.specs.declared.World.{World}
use Rattle.check_sizes.proofs.Sides.{none_above-entry, long}
use Rattle.fit_windows.proofs.Accepted.{ready-from}
use Rattle.board_run.specs.Running.{Going, end_of, Ends}
use Rattle.rules.specs.declared.BoundingBox.{BoundingBox}
use Rattle.rules.specs.declared.RanOut.{RanOut}

pub leans : (j : Panel) (count : ℕ) (b : Board) (place : World) (bounds : Option BoundingBox) (budget : ℕ) → 0 ≡ refusal (run_checks j count b place bounds budget)
    → Going j count b [] 0 × (on_wall place ≡ true) × (budget ≤ max_budget)
leans j count b place bounds budget e =
    let h = all_pass (run_checks j count b place bounds budget) refl (sym e) in
    let y : Passes (pieces_checks b.pieces j.rows j.cols j.tiles count) = search in
    let low : none_above b.weights max_weight ≡ true = search in (
      record {
        ready = ready-from b.pieces j.rows j.cols j.tiles count y;
        weights = long b.weights (j.rows * j.cols) (search);
        counts = long b.counts (j.rows * j.cols) (search);
        light = λ i l. omega (arith, none_above-entry b.weights max_weight low i l);
        fits = search;
        on = tt;
      },
      search,
      leb-true budget max_budget (search),
    )

module _ (j : Panel) (count : ℕ) (b : Board) (place : World) (bounds : Option BoundingBox) (budget : ℕ) where
  pub unrun : {r : Refusal} → Err r ≡ checked (run_checks j count b place bounds budget) → RunsOut j count place bounds budget b (Err r) b
  unfolding running after_run
  unrun e =
      let s = run_out j count bounds b place budget in refused (run_checks j count b place bounds budget) (end_of s) s.board b e

  pub ran : {a : RanOut} {after : Board} → 0 ≡ refusal (run_checks j count b place bounds budget) → Ends j count place bounds budget b a after
      → RunsOut j count place bounds budget b (Ok a) after
  unfolding running after_run
  ran e r = let s = run_out j count bounds b place budget in done (run_checks j count b place bounds budget) (end_of s) s.board b e r.answered r.leaves
