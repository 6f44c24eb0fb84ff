-- `fit_windows::missing_past` meets its contract: a tile that does not fit takes nothing away, one that fits its colour at q. Assumes nothing.
use Prim.Native.Nat.{ℕ, ◌+◌, ◌*◌}
use mathlib.Core.Path.{◌≡◌, sym, ◌∙◌, ap}
use native.Mathlib.Omega.{arith}
use Rattle.rules.specs.Fit.{fits_tile}
use Rattle.fit_pattern.specs.Patch.{shown_in, window_of}
use Rattle.fit_windows.proofs.Lists.{past-misfit, past-fitting}
use Rattle.fit_windows.proofs.missing_past.Goals.{After-tile_fits}
use Rattle.fit_windows.proofs.missing_past.Goals as goal

-- the test, with the window's place as the definition has it
tested : (c : After-tile_fits) → let a = c.args in
    c.tile_fits.result ≡ fits_tile a.tiles.now (window_of a.patch.now a.q) a.n
tested c =
    let a = c.args in
    c.tile_fits.ensures ∙ ap (λ (at : ℕ). fits_tile a.tiles.now (shown_in a.patch.now 5 at) a.n) c.window_in-at.ensures

pub returns-then-not-tile_fits : goal.returns-then-not-tile_fits
returns-then-not-tile_fits c = past-misfit _ _ _ _ (sym (tested (goal.at.returns-then-not-tile_fits c).After-tile_fits) ∙ c.if-not-tile_fits.true)

pub overflow_cast-tiles : goal.overflow_cast-tiles
overflow_cast-tiles c =
    let a = c.args in
    record { fits = omega (arith, c.type_inv.tiles (a.n * 9 + a.q)) }

pub without_colour-requires : goal.without_colour-requires
without_colour-requires c =
    c.requires.coloured.known (c.args.n * 9 + c.args.q) (omega arith)

pub returns : goal.returns
returns c = past-fitting _ _ _ _ (sym (tested (goal.at.returns c).After-tile_fits) ∙ c.if-not-tile_fits.false) c.without_colour.ensures
