-- Positions and their entries: one position more, at the first free entry, in any room.
-- Assumes nothing.
use Prim.Native.Nat.{ℕ, suc, ◌+◌, ◌-◌, ◌<◌}
use mathlib.Core.Path.{◌≡◌, sym, ◌∙◌, ap}
use mathlib.Core.List.{List, [], ◌∷◌, ◌++◌, append-nil}
use native.Mathlib.Omega.{arith}
use borrow.Author.Tests.{eq-eqb, ne_eqb}
use lib.ListN.{length, set, replicate, length-append}
use lib.Seq.{set-append_seam, append_snoc}
use Rattle.rules.specs.Bounds.{added_room}
use Rattle.rules.specs.Forced.{padded, no_position, positions_of}
use Rattle.rules.specs.declared.World.{World}
use Rattle.rules.specs.declared.ForcedPosition.{ForcedPosition}
use Rattle.rules.specs.declared.ForcedPositions.{ForcedPositions}
use Rattle.fit_forced.specs.Round.{with_forced}

pub fill : (room : ℕ) (l : List ForcedPosition) (e : ForcedPosition) → length l < room → set (padded room l) (length l) e ≡ padded room (l ++ (e ∷ []))
unfolding padded
fill room l e h =
    let free : ℕ = room - (length l + 1) in
    let n : room - length l ≡ suc free = omega arith in
    let m : length (l ++ (e ∷ [])) ≡ length l + 1 = length-append l (e ∷ []) in
    rw (n, m) (set-append_seam l no_position (replicate free no_position) e ∙ sym (append_snoc l e (replicate free no_position)))

pub length_found : (found : ForcedPositions) (l : List ForcedPosition) → found ≡ positions_of l → found.len ≡ length l
unfolding positions_of
length_found found l e = ap (λ (p : ForcedPositions). p.len) e

module _ (found : ForcedPositions) (l : List ForcedPosition) (w : World) (colour : ℕ) (e : found ≡ positions_of l) where
  pub as_before : colour ≡ 0 → found ≡ positions_of (with_forced l w colour)
  unfolding with_forced
  as_before z = rw (eq-eqb colour 0 z, append-nil l) e

  abbrev new : ForcedPosition
  new = record { coordinates = w; colour = colour }

  more : (l : List ForcedPosition) (es : List ForcedPosition) (n : ℕ) → es ≡ padded added_room l → n ≡ length l → n < added_room
      → ◌≡◌ {A = ForcedPositions} (record { entries = set es n new; len = n + 1 }) (positions_of (l ++ (new ∷ [])))
  unfolding positions_of
  more l es n p q h = rw (p, q, fill added_room l new (rw q at h), length-append l (new ∷ []))

  pub one_more : found.len < added_room → (colour ≡ 0 → ⊥)
      → ◌≡◌ {A = ForcedPositions} (record { entries = set found.entries found.len new; len = found.len + 1 }) (positions_of (with_forced l w colour))
  unfolding with_forced positions_of
  one_more h z =
      rw (ne_eqb colour 0 z)
      (more l found.entries found.len (ap (λ (p : ForcedPositions). p.entries) e) (ap (λ (p : ForcedPositions). p.len) e) h)
