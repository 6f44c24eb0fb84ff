-- `fit_windows::fit_count` meets its contract. The loop's invariant: the count is that of the tiles passed. Assumes nothing.
use Prim.Native.Nat.{ℕ, ◌+◌}
use mathlib.Core.Path.{◌≡◌, sym, ◌∙◌}
use native.Mathlib.Omega.{arith}
use mathlib.Core.Bool.{Bool}
use Rattle.std.specs.Int.{from_bool}
use Rattle.base.specs.Counting.{pick, tally}
use Rattle.base.proofs.Bools.{by-test}
use Rattle.base.proofs.Counted.{tally-le, tally-turn, tally-done}
use Rattle.rules.specs.Fit.{fits_tile, fit_count}
use Rattle.fit_pattern.specs.Patch.{shown_in}
use Rattle.rules.proofs.Fitting.{bare-fits}
use borrow.Author.Rules.{rules}
use Rattle.fit_windows.proofs.fit_count.Goals as goal

pub returns-then-is_bare : goal.returns-then-is_bare
returns-then-is_bare c = bare-fits _ _ (sym c.is_bare.ensures ∙ c.if-is_bare.true)

pub loop-n-init : goal.loop-n-init
unfolding tally
loop-n-init c = search rules

one : (b : Bool) → from_bool b ≡ pick b 1 0
one b = by-test b (λ e. rw e) (λ e. rw e)

pub overflow_add-count : goal.overflow_add-count
overflow_add-count c =
    let a = c.args in
    let l = c.loop-n in
    let f : ℕ → Bool = fits_tile a.tiles.now (shown_in a.region.now 3 0) in
    let t : l.count + c.from-count.result ≡ tally (l.n + 1) f = tally-turn f l.invariant c.tile_fits.ensures (c.from-count.ensures ∙ one _) in
    record { fits = omega (arith, tally-le f (l.n + 1)) }

pub loop-n-preserved : goal.loop-n-preserved
loop-n-preserved c =
    let a = c.args in
    tally-turn (fits_tile a.tiles.now (shown_in a.region.now 3 0)) c.loop-n.invariant c.tile_fits.ensures (c.from-count.ensures ∙ one _)

pub returns : goal.returns
unfolding fit_count
returns c = tally-done _ c.loop-n.auto.n-end c.loop-n-test.false c.loop-n.invariant
