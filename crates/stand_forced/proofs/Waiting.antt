-- What holds of every entry that waits in an accepted forced run, at every moment of it: its place is on the board and waits only once, its
-- cell is bare, and lists the entry's colour and no other, or nothing, since laying never opens a choice (document 02, request 9).
--     waits, waits-once    so it is of all that wait
--     taken-waits          and so of the entry that is taken next
--     still-is, drop-is    it is laid exactly if its cell lists its colour and no other, and dropped exactly if its cell lists nothing
-- Asked are the panel's bounds, the number of the pieces and the colours that are named, which the call checks on entry. Assumes nothing.
use Rattle.std.specs.Prelude.{Option}
use Prim.Native.Nat.{ℕ, ◌+◌, ◌*◌}
use mathlib.Core.Path.{◌≡◌, refl, sym, ◌∙◌, ap, subst}
use mathlib.Core.Bool.{Bool, true, false, not, ◌&&◌, ◌||◌}
use mathlib.Core.Logic.{inl, ⊎_elim, ◌≢◌, ◌↔◌}
use mathlib.Core.List.{List, [], ◌∷◌, ◌++◌}
use borrow.Author.Tests.{eqb-true, not-true}
use lib.Dec.{ltb, eqb}
use lib.ListN.{length, set, length-set}
use lib.Seq.{get_or-set_other}
use Rattle.base.specs.Refusal.{refusal}
use Rattle.base.proofs.Bools.{never, by-test, and_left, and_right}
use Rattle.base.proofs.Chain.{all_pass}
use Rattle.base.proofs.Each.{Each}
use Rattle.rules.specs.Tests.{has_length, pieces_stored, on_board}
use Rattle.rules.specs.Grid.{laid_on}
use Rattle.rules.specs.Places.{same_place}
use Rattle.rules.specs.Forced.{admits, listed_at, forces_one, is_forced, forced_there, forced_round, is_queued, with_position, with_positions}
use Rattle.rules.specs.Board.{Panel, Board, shape_of, entry_in, laid}
use Rattle.rules.specs.ForcedRun.{Run, still_forced, run_checks, run_out}
use Rattle.rules.specs.declared.World.{World}
use Rattle.rules.specs.declared.ForcedPosition.{ForcedPosition}
use Rattle.rules.proofs.Fewer.{under-lay}
use Rattle.rules.proofs.Queues.{with-old, with-new, with-one, with_none, each-with, each-forced}
use Rattle.rules.proofs.Walled.{board-on-wall}
use Rattle.stand.specs.Runs.{wall_of}
use Rattle.stand.proofs.Walls.{On, one_place, place-itself, place-back, sides-in}
use Rattle.stand.proofs.Calls.{InBounds, Named}
use Rattle.rules.proofs.Listed.{not_none, OneOr, one_less, only_one, there, still_one, is-still}
use Rattle.stand_forced.proofs.Steps.{by-run}
use Rattle.rules.specs.declared.BoundingBox.{BoundingBox}

-- ---- what an accepted call finds

pub record Entered (j : Panel) (count : ℕ) (p : List ℕ) : Type 0 where
  pub panel : InBounds j
  pub long : length p ≡ j.rows * j.cols
  pub named : Named j.tiles count
  pub stored : pieces_stored p count ≡ true

pub enters : (j : Panel) (count : ℕ) (b : Board) (place : World) (bounds : Option BoundingBox) (budget : ℕ)
    → refusal (run_checks j count b place bounds budget) ≡ 0 → Entered j count b.pieces
unfolding has_length
enters j count b place bounds budget e =
    let h = all_pass (run_checks j count b place bounds budget) refl e in
    record { panel = search; long = eqb-true _ _ (search); named = search; stored = search }

-- ---- no place waits twice

abbrev pub Apart : List ForcedPosition → Type 0
Apart [] = Unit
Apart (e ∷ l) = (is_queued e.coordinates l ≡ false) × Apart l

-- of two tests neither of which holds
or-none : (a b : Bool) → (a || b) ≡ false → (a ≡ false) × (b ≡ false)
or-none true b e = never true refl e
or-none false b e = (refl, e)

not_same : (v w : World) → same_place v w ≡ false → same_place w v ≡ false
not_same v w e = by-test (same_place w v) (λ t. never (same_place v w) (ap (λ (x : World). same_place x w) (sym (one_place w v t)) ∙ place-itself w) e) (λ f. f)

-- an entry more at the end, at a place that does not wait
queued-last : (v : World) (l : List ForcedPosition) (e : ForcedPosition) → is_queued v l ≡ false → same_place e.coordinates v ≡ false
    → is_queued v (l ++ (e ∷ [])) ≡ false
unfolding is_queued
queued-last v [] e none other = rw other
queued-last v (x ∷ l) e none other =
    let n = or-none (same_place x.coordinates v) (is_queued v l) none in
    rw n.0 (queued-last v l e n.1 other)

apart-last : (l : List ForcedPosition) (e : ForcedPosition) → Apart l → is_queued e.coordinates l ≡ false → Apart (l ++ (e ∷ []))
unfolding is_queued
apart-last [] e apart none = (refl, tt)
apart-last (x ∷ l) e (alone, apart) none =
    let n = or-none (same_place x.coordinates e.coordinates) (is_queued e.coordinates l) none in
    (queued-last x.coordinates l e alone (not_same _ _ n.0), apart-last l e apart n.1)

apart-with : (l more : List ForcedPosition) → Apart l → Apart (with_positions l more)
apart-with l [] apart = rw (with_none l) apart
apart-with l (e ∷ more) apart =
    rw (with-one l e more)
    (apart-with (with_position l e) more
    (by-test (is_queued e.coordinates l) (λ q. rw (with-old l e q) apart) (λ q. rw (with-new l e q) (apart-last l e apart q))))

-- ---- an entry that waits

pub record Waits (j : Panel) (count : ℕ) (p : List ℕ) (e : ForcedPosition) : Type 0 where
  pub on : On j e.coordinates
  pub off : laid_on p (entry_in j e.coordinates) ≡ false
  pub one : OneOr e.colour (listed_at (shape_of j) j.tiles p count (entry_in j e.coordinates))

module _ (j : Panel) (count : ℕ) where
  -- a forced place
  module _ (p : List ℕ) (v : World) (bounds : Option BoundingBox) (forced : is_forced j.kind p j.rows j.cols j.tiles count v j.offset bounds ≡ true) where
    abbrev bare_there : Bool
    bare_there = not (laid_on p (entry_in j v))

    on-there : (admits bounds v && on_board j.rows j.cols v j.offset) ≡ true
    unfolding is_forced
    on-there = and_left (admits bounds v && on_board j.rows j.cols v j.offset) _ forced

    forces : (bare_there && eqb (length (listed_at (shape_of j) j.tiles p count (entry_in j v))) 1) ≡ true
    unfolding is_forced forces_one
    forces = and_right (admits bounds v && on_board j.rows j.cols v j.offset) _ forced

    pub forced-one : length (listed_at (shape_of j) j.tiles p count (entry_in j v)) ≡ 1
    forced-one = eqb-true _ 1 (and_right bare_there _ forces)

    -- it waits from when it is found
    forced-waits : InBounds j → Waits j count p (forced_there j.kind p j.rows j.cols j.tiles count v j.offset)
    unfolding forced_there
    forced-waits panel =
        let sides = sides-in j.rows j.cols panel.sides in
        let on : on_board j.rows j.cols v j.offset ≡ true = and_right (admits bounds v) _ on-there in
        record {
          on = record { wall = board-on-wall j.rows j.cols v j.offset sides.rows-low sides.cols-low panel.offset on; board = on };
          off = not-true _ (and_left bare_there _ forces);
          one = inl (only_one _ forced-one);
        }

  -- and goes on waiting when a piece is laid on another cell
  lay-waits : (p : List ℕ) (k x : ℕ) (e : ForcedPosition) → laid_on p k ≡ false → entry_in j e.coordinates ≢ k → Waits j count p e → Waits j count (set p k x) e
  lay-waits p k x e off other w =
      record {
        on = w.on;
        off = ap (λ (y : ℕ). ltb 1 y) (get_or-set_other p k (entry_in j e.coordinates) x 0 other) ∙ w.off;
        one = one_less (shape_of j) j.tiles count (entry_in j e.coordinates) (under-lay p k x off) e.colour w.one;
      }

  -- two places on the board that are not the same have two cells
  other-cell : (v w : World) → On j v → On j w → same_place v w ≡ false → entry_in j v ≢ entry_in j w
  other-cell v w a b other same =
      never (same_place v w) (ap (λ (x : World). same_place x w) (sym (place-back j v a.board) ∙ ap (wall_of j) same ∙ place-back j w b.board) ∙ place-itself w) other

  rest-waits : (p : List ℕ) (x : ℕ) (e : ForcedPosition) → Waits j count p e → (l : List ForcedPosition) → is_queued e.coordinates l ≡ false
      → Each (Waits j count p) l → Each (Waits j count (set p (entry_in j e.coordinates) x)) l
  unfolding is_queued
  rest-waits p x e w [] none h = tt
  rest-waits p x e w (y ∷ l) none (v, h) =
      let n = or-none (same_place y.coordinates e.coordinates) (is_queued e.coordinates l) none in (
        lay-waits p (entry_in j e.coordinates) x y w.off (other-cell y.coordinates e.coordinates v.on w.on n.0) v,
        rest-waits p x e w l n.1 h,
      )

  -- ---- at every moment

  pub record Keeps (s : Run) : Type 0 where
    pub long : length s.board.pieces ≡ j.rows * j.cols
    pub wait : Each (Waits j count s.board.pieces) s.queue
    pub apart : Apart s.queue

  -- the entry that is taken, and those that are left
  pub next-kept : {e : ForcedPosition} {rest : List ForcedPosition} (s : Run) → Keeps s → s.queue ≡ e ∷ rest
      → Each (Waits j count s.board.pieces) (e ∷ rest) × Apart (e ∷ rest)
  next-kept s h q = (subst (Each (Waits j count s.board.pieces)) q h.wait, subst Apart q h.apart)

  module _ (bounds : Option BoundingBox) (b : Board) (place : World) where
    pub keeps : Entered j count b.pieces → (n : ℕ) → Keeps (run_out j count bounds b place n)
    unfolding laid
    keeps enter =
        by-run j count bounds b place Keeps
        (record { long = enter.long; wait = all b.pieces [] place tt; apart = apart-with [] _ tt })
        (λ n e rest h q drop.
        let next = next-kept (run_out j count bounds b place n) h q in
        record { long = h.long; wait = next.0.1; apart = next.1.1 })
        (λ n e rest h q still l full a.
        let next = next-kept (run_out j count bounds b place n) h q in
        let p : List ℕ = (run_out j count bounds b place n).board.pieces in
        let waiting = rest-waits p (e.colour + 1) e next.0.0 rest next.1.0 next.0.1 in
        record {
          long = length-set p (entry_in j e.coordinates) (e.colour + 1) ∙ h.long;
          wait =
              ⊎_elim (λ z. subst (Each (Waits j count (set p (entry_in j e.coordinates) (e.colour + 1)))) (sym z) waiting)
              (λ z. subst (Each (Waits j count (set p (entry_in j e.coordinates) (e.colour + 1)))) (sym z) (all _ rest e.coordinates waiting))
              a;
          apart = ⊎_elim (λ z. subst Apart (sym z) next.1.1) (λ z. subst Apart (sym z) (apart-with rest _ next.1.1)) a;
        })
      where
        all : (p : List ℕ) (l : List ForcedPosition) (v : World) → Each (Waits j count p) l
            → Each (Waits j count p) (with_positions l (forced_round j.kind p j.rows j.cols j.tiles count v j.offset bounds))
        all p l v h =
            each-with (Waits j count p) l _ h
            (each-forced j.kind p j.rows j.cols j.tiles count v j.offset bounds (Waits j count p)
            (λ u forced. forced-waits p u bounds forced enter.panel))

    module _ (budget : ℕ) (accepted : refusal (run_checks j count b place bounds budget) ≡ 0) where
      abbrev at : ℕ → Run
      at n = run_out j count bounds b place n

      kept : (n : ℕ) → Keeps (at n)
      kept = keeps (enters j count b place bounds budget accepted)

      pub waits : (n : ℕ) → Each (Waits j count (at n).board.pieces) (at n).queue
      waits n = (kept n).wait

      pub waits-once : (n : ℕ) → Apart (at n).queue
      waits-once n = (kept n).apart

      -- the entry that is taken next
      pub taken-waits : {e : ForcedPosition} {rest : List ForcedPosition} (n : ℕ) → (at n).queue ≡ e ∷ rest → Waits j count (at n).board.pieces e
      taken-waits n q = (next-kept (at n) (kept n) q).0.0

  -- "if its cell is still bare and still lists only that colour, lay it ..; otherwise drop it"
  module _ (b : Board) (e : ForcedPosition) (w : Waits j count b.pieces e) where
    pub still-is : (still_forced j count b e ≡ true) ↔ (there j count b e ≡ e.colour ∷ [])
    still-is = (still_one j count b e, is-still j count b e w.off)

    pub drop-is : (still_forced j count b e ≡ false) ↔ (there j count b e ≡ [])
    drop-is = (
      (λ drop. ⊎_elim (λ one. never (still_forced j count b e) (is-still j count b e w.off one) drop) (λ none. none) w.one),
      (λ none. by-test (still_forced j count b e) (λ still. absurd (not_none (sym (still_one j count b e still) ∙ none))) (λ drop. drop)),
    )
