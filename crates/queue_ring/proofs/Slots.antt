-- Laws of a queue in slots.
--     length-waiting, waiting-at    how many wait, and which is entry i
--     next-out       the first of those that wait, and the others, from the next slot on
--     place_read, entry_read    what was read from a slot
--     out_none, out_first    taking: there is none, or there is a first one, and the others stand from the next slot on
--     put-kept, put_last-here    a position put behind the entries: they stand as they did, and it is the last of them
-- Assumes nothing.
use Prim.Native.Nat.{ℕ, suc, ◌+◌, ◌-◌, ◌^◌, ◌<◌, ◌≤◌}
use mathlib.Core.Path.{◌≡◌, refl, sym, ◌∙◌, ap}
use mathlib.Core.Logic.{◌≢◌}
use mathlib.Core.List.{List, [], ◌∷◌, ◌++◌}
use native.Mathlib.Numerals.{add-one}
use native.Mathlib.Omega.{arith}
use lib.IntN.{ℤ, pos}
use lib.Signed.{mag}
use mir.Syntax.{w32}
use mir.Val.{to_z, of_z}
use mir.Facts.{to_z-of_z}
use lib.ListN.{length, get_or, drop, set, length-set}
use lib.Seq.{get_or-set_same, get_or-set_other}
use Rattle.base.specs.Tables.{tab}
use Rattle.base.proofs.Tabled.{length-tab, get_d-tab, tab-ext, tab-last}
use Rattle.rules.specs.Bounds.{queue_room}
use Rattle.std.specs.Prelude.{Option, Some, None}
use Rattle.rules.specs.Answers.{next_of}
use Rattle.rules.specs.declared.World.{World}
use Rattle.rules.specs.declared.ForcedPosition.{ForcedPosition}
use Rattle.queue_ring.specs.Slots.{Slots, slots, in_slot, slot_of, waiting, Shaped}

module _ (s : Slots) (first : ℕ) where
  pub length-waiting : (len : ℕ) → length (waiting s first len) ≡ len
  unfolding waiting
  length-waiting len = length-tab len (λ i. in_slot s (slot_of first i))

  pub waiting-at : (len i : ℕ) (d : ForcedPosition) → i < len → get_or (waiting s first len) i d ≡ in_slot s (slot_of first i)
  unfolding waiting
  waiting-at len i d h = get_d-tab len (λ k. in_slot s (slot_of first k)) i d h

  -- the slots of the others, counted from the next one on
  slot_next : (i : ℕ) → slot_of first (suc i) ≡ slot_of (slot_of first 1) i
  slot_next i = omega arith

  pub next-out : (len : ℕ) → first < queue_room → waiting s first (len + 1) ≡ in_slot s first ∷ waiting s (slot_of first 1) len
  unfolding waiting tab
  next-out len h =
      let here : slot_of first 0 ≡ first = omega arith in
      rw add-one
      (ap (λ (n : ℕ). in_slot s n ∷ tab len (λ i. in_slot s (slot_of first (suc i)))) here
      ∙ ap (λ (l : List ForcedPosition). in_slot s first ∷ l) (tab-ext len _ _ (λ i i<. ap (in_slot s) (slot_next i))))

  -- the entries that wait are l
  pub out_none : (len : ℕ) (l : List ForcedPosition) → waiting s first len ≡ l → len ≡ 0
      → (◌≡◌ {A = Option ForcedPosition} None (next_of l)) × (l ≡ drop 1 l)
  unfolding waiting tab
  out_none len l v z = let e : [] ≡ l = ap (waiting s first) (sym z) ∙ v in rw (← e) (refl, refl)

  pub out_first : (len next : ℕ) (l : List ForcedPosition) {x : ForcedPosition} → waiting s first len ≡ l → 0 < len → first < queue_room
      → next ≡ slot_of first 1 → x ≡ in_slot s first
      → (◌≡◌ {A = Option ForcedPosition} (Some x) (next_of l)) × (waiting s next (len - 1) ≡ drop 1 l)
  out_first len next l {x} v h low n at =
      let one : len ≡ len - 1 + 1 = omega arith in
      let e : l ≡ x ∷ waiting s next (len - 1) =
      sym v ∙ ap (waiting s first) one ∙ next-out (len - 1) low ∙ ap (λ (m : ℕ). in_slot s first ∷ waiting s m (len - 1)) (sym n)
      ∙ ap (λ (y : ForcedPosition). y ∷ waiting s next (len - 1)) (sym at) in
      rw e (refl, refl)

-- the place of the two numbers that were read from a slot, and the entry that they are of
module _ (s : Slots) (at : ℕ) (row col : ℤ) (f : mag row < 2 ^ 31) (g : mag col < 2 ^ 31) (p : row ≡ get_or s.rows at (pos 0)) (q : col ≡ get_or s.cols at (pos 0)) where
  pub place_read : ◌≡◌ {A = World} (record { 0 = to_z w32 (of_z w32 row); 1 = to_z w32 (of_z w32 col) }) (in_slot s at).coordinates
  unfolding in_slot
  place_read =
      let r : to_z w32 (of_z w32 row) ≡ get_or s.rows at (pos 0) = to_z-of_z {w = w32} (record { sfits = f }) ∙ p in
      let c : to_z w32 (of_z w32 col) ≡ get_or s.cols at (pos 0) = to_z-of_z {w = w32} (record { sfits = g }) ∙ q in
      rw (r, c)

  pub entry_read : ◌≡◌ {A = ForcedPosition} (record { coordinates = record { 0 = to_z w32 (of_z w32 row); 1 = to_z w32 (of_z w32 col) }; colour = get_or s.colours at 0 }) (in_slot s at)
  unfolding in_slot
  entry_read = ap (λ (w : World). record { coordinates = w; colour = get_or s.colours at 0 }) place_read

-- two entries have two slots
slots_apart : (first i k : ℕ) → i < k → k < queue_room → slot_of first i ≢ slot_of first k
slots_apart first i k h g e = omega arith

module _ (s : Slots) (first len : ℕ) (e : ForcedPosition) (shaped : Shaped s) (free : len < queue_room) where
  -- the slots when the position is put behind the entries
  abbrev pub put_last : Slots
  put_last =
      let at : ℕ = slot_of first len in
      slots (set s.rows at e.coordinates.0) (set s.cols at e.coordinates.1) (set s.colours at e.colour)

  pub put-kept : (m : ℕ) → m ≤ len → waiting put_last first m ≡ waiting s first m
  unfolding waiting in_slot
  put-kept m h =
      tab-ext m _ _
      (λ i i<.
      let other : slot_of first i ≢ slot_of first len = slots_apart first i len (omega arith) free in
      rw (
        get_or-set_other s.rows (slot_of first len) (slot_of first i) e.coordinates.0 (pos 0) other,
        get_or-set_other s.cols (slot_of first len) (slot_of first i) e.coordinates.1 (pos 0) other,
        get_or-set_other s.colours (slot_of first len) (slot_of first i) e.colour 0 other,
      ))

  put-here : in_slot put_last (slot_of first len) ≡ e
  unfolding in_slot
  put-here =
      let low : slot_of first len < queue_room = omega arith in
      rw (
        get_or-set_same s.rows (slot_of first len) e.coordinates.0 (pos 0) (omega (arith, shaped.rows)),
        get_or-set_same s.cols (slot_of first len) e.coordinates.1 (pos 0) (omega (arith, shaped.cols)),
        get_or-set_same s.colours (slot_of first len) e.colour 0 (omega (arith, shaped.colours)),
      )

  pub put-shaped : Shaped put_last
  put-shaped =
      record {
        rows = length-set s.rows (slot_of first len) e.coordinates.0 ∙ shaped.rows;
        cols = length-set s.cols (slot_of first len) e.coordinates.1 ∙ shaped.cols;
        colours = length-set s.colours (slot_of first len) e.colour ∙ shaped.colours;
      }

  pub put_last-here : waiting put_last first (len + 1) ≡ waiting s first len ++ (e ∷ [])
  unfolding waiting
  put_last-here =
      rw add-one
      (tab-last len (λ i. in_slot put_last (slot_of first i))
      ∙ ap (λ (x : ForcedPosition). tab len (λ i. in_slot put_last (slot_of first i)) ++ (x ∷ [])) put-here
      ∙ ap (λ (l : List ForcedPosition). l ++ (e ∷ [])) (put-kept len (omega arith)))
