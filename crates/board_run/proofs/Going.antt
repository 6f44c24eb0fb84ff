-- What a forced run leans on holds from its checks on and after each step.
--     forced-low     an entry that is still forced has a colour of the count
--     going-none, going_more, going-rest, going-laid    without entries, with more, with the first one taken, and with a piece laid
--     begun-goes, going_step    at the beginning, and after a step
-- Assumes nothing.
use Rattle.std.specs.Prelude.{Option}
use Prim.Native.Nat.{ℕ, ◌+◌, ◌*◌, ◌<◌, ◌≤◌}
use mathlib.Core.Path.{◌≡◌, sym, ◌∙◌, subst}
use mathlib.Core.Bool.{true, false, ◌&&◌}
use mathlib.Core.Logic.{⊎_elim}
use mathlib.Core.List.{List, [], ◌∷◌}
use native.Mathlib.Omega.{arith}
use lib.ListN.{length, get_or}
use Rattle.base.specs.Tables.{Each}
use Rattle.base.proofs.Bools.{by-test, and_left, and_right}
use Rattle.base.proofs.Numbers.{lt-or-le, within-high}
use Rattle.base.proofs.Tabled.{length-tab, get_d-tab}
use Rattle.rules.specs.Bounds.{max_colours, max_weight, queue_room}
use Rattle.rules.specs.Tests.{on_board}
use Rattle.rules.specs.Forced.{admits, is_forced, forced_there, with_positions}
use Rattle.rules.specs.Board.{Panel, Board, shape_of, entry_in, reach, raised, recounted, laid}
use Rattle.rules.specs.ForcedRun.{Run, forced_by, still_forced, queueing, taking, stepped, begun}
use Rattle.rules.specs.declared.World.{World}
use Rattle.rules.specs.declared.ForcedPosition.{ForcedPosition}
use Rattle.rules.proofs.Listed.{still-in}
use Rattle.rules.proofs.Shares.{share-le}
use Rattle.rules.proofs.Queues.{each-with, each-forced}
use Rattle.rules.proofs.ForcedRun.{queued_by, laying_of, added-room, added_full, laid_then, dropped-then, by-step}
use Rattle.fit_windows.proofs.Accepted.{set-countable}
use Rattle.board_run.specs.Running.{Going}
use Rattle.rules.specs.declared.BoundingBox.{BoundingBox}

-- ---- the colour of an entry

pub forced-low : (j : Panel) (count : ℕ) (b : Board) (e : ForcedPosition) → still_forced j count b e ≡ true → e.colour ≤ count
forced-low j count b e still = within-high 1 count e.colour (still-in j count b e still)

-- ---- the entries

module _ (j : Panel) (count : ℕ) where
  -- a forced neighbour stands on the board
  abbrev On : ForcedPosition → Type 0
  On e = on_board j.rows j.cols e.coordinates j.offset ≡ true

  forced-on : (bounds : Option BoundingBox) (b : Board) (place : World) → Each On (forced_by j count bounds b place)
  unfolding is_forced forced_there
  forced-on bounds b place =
      each-forced j.kind b.pieces j.rows j.cols j.tiles count place j.offset bounds On
      (λ v e. and_right (admits bounds v) _ (and_left (admits bounds v && on_board j.rows j.cols v j.offset) _ e))

  module _ (b : Board) (l : List ForcedPosition) (taken : ℕ) (g : Going j count b l taken) where
    -- other entries that stand on the board, and more entries taken
    going-with : (l' : List ForcedPosition) (taken' : ℕ) → Each On l' → taken ≤ taken' → Going j count b l' taken'
    going-with l' taken' on h =
        record {
          ready = g.ready;
          weights = g.weights;
          counts = g.counts;
          light = λ i i<. omega (arith, g.light i i<);
          fits = g.fits;
          on = on;
        }

    -- the board alone
    pub going-none : Going j count b [] taken
    going-none = going-with [] taken tt (omega arith)

    pub going_more : (bounds : Option BoundingBox) (place : World) → Going j count b (with_positions l (forced_by j count bounds b place)) taken
    going_more bounds place = going-with _ taken (each-with On l (forced_by j count bounds b place) g.on (forced-on bounds b place)) (omega arith)

    -- a colour laid on a cell: a colour is a piece, and no weight grows by more than 3
    pub going-laid : (k colour : ℕ) → colour ≤ max_colours → Going j count (laid (shape_of j) j.tiles b k colour) l (taken + 1)
    unfolding laid raised recounted
    going-laid k colour low =
        record {
          ready =
              record {
                tried = set-countable b.pieces j.rows j.cols k (colour + 1) (omega arith) (omega arith) j.tiles g.ready.tried;
                colours = g.ready.colours;
                known = g.ready.known;
              };
          weights = length-tab (length b.weights) _ ∙ g.weights;
          counts = length-tab (length b.counts) _ ∙ g.counts;
          light = λ i i<. weight-in i (subst (λ (n : ℕ). i < n) (length-tab (length b.weights) _) i<);
          fits = g.fits;
          on = g.on;
        }
      where
        weight-in : (i : ℕ) → i < length b.weights → get_or (raised (shape_of j) k b.weights) i 0 ≤ max_weight + 3 * (taken + 1)
        weight-in i i< =
            let here : get_or (raised (shape_of j) k b.weights) i 0 ≡ get_or b.weights i 0 + reach (shape_of j) k i =
            get_d-tab (length b.weights) (λ n. get_or b.weights n 0 + reach (shape_of j) k n) i 0 i< in
            omega (arith, here, share-le ((shape_of j).apart k i), g.light i i<)

  -- the first entry taken: it stands on the board, and so do the others
  pub going-rest : (b : Board) (e : ForcedPosition) (rest : List ForcedPosition) (taken : ℕ) → Going j count b (e ∷ rest) taken
      → On e × Going j count b rest taken × Going j count b rest (taken + 1)
  going-rest b e rest taken g =
      let others = going-with b (e ∷ rest) taken g rest in
      (g.on.0, others taken g.on.1 (omega arith), others (taken + 1) g.on.1 (omega arith))

-- ---- a step

module _ (j : Panel) (count : ℕ) (bounds : Option BoundingBox) where
  -- what a run leans on
  abbrev pub Goes : Run → Type 0
  Goes s = Going j count s.board s.queue s.taken

  queueing-goes : (place : World) (s : Run) → Goes s → Goes (queueing j count bounds place s)
  queueing-goes place s g =
      ⊎_elim
      (λ (over : queue_room < length (queued_by j count bounds place s)). subst Goes (sym (added_full j count bounds place s over)) g)
      (λ (room : length (queued_by j count bounds place s) ≤ queue_room).
      subst Goes (sym (added-room j count bounds place s room)) (going_more j count s.board s.queue s.taken g bounds place))
      (lt-or-le queue_room (length (queued_by j count bounds place s)))

  pub begun-goes : (b : Board) (place : World) → Going j count b [] 0 → Goes (begun j count bounds b place)
  unfolding begun
  begun-goes b place g = queueing-goes place (record { board = b; queue = []; taken = 0; lain = []; full = false }) g

  pub going_step : (s : Run) → Goes s → Goes (stepped j count bounds s)
  going_step s g = by-step j count bounds Goes s (λ p. g) (λ p. g) one
    where
      one : (e : ForcedPosition) (rest : List ForcedPosition) → s.full ≡ false → s.queue ≡ e ∷ rest → Goes (taking j count bounds s e rest)
      one e rest p q =
          let h = going-rest j count s.board e rest s.taken (subst (λ (l : List ForcedPosition). Going j count s.board l s.taken) q g) in
          by-test (still_forced j count s.board e)
          (λ still.
          let low : e.colour ≤ max_colours = omega (arith, forced-low j count s.board e still, g.ready.colours) in
          subst Goes (sym (laid_then j count bounds s e rest still))
          (queueing-goes e.coordinates (laying_of j count bounds s e rest)
          (going-laid j count s.board rest s.taken h.1 (entry_in j e.coordinates) e.colour low)))
          (λ dropped. subst Goes (sym (dropped-then j count bounds s e rest dropped)) h.2)
