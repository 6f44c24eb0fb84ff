-- Laws of adding to the entries that wait.
--     adds-all, adds-full    an adding with room for all of them, and one without
--     was-all, was-full      which of the two it was, seen by the answer
--     grows-few, grows-adds    what an accepted adding to slots says of the entries that wait in them
-- Assumes nothing.
use Prim.Native.Nat.{ℕ, ◌<◌, ◌≤◌}
use mathlib.Core.Path.{◌≡◌, refl, sym, ◌∙◌, ap}
use mathlib.Core.Logic.{⊎_elim}
use mathlib.Core.List.{List}
use native.Mathlib.Omega.{arith}
use lib.ListN.{length}
use borrow.Author.Tests.{le-leb, lt-leb}
use Rattle.std.specs.Prelude.{Ok, Err}
use Rattle.base.specs.Refusal.{refusal}
use Rattle.base.proofs.Numbers.{lt-or-le}
use Rattle.rules.specs.Bounds.{queue_room}
use Rattle.rules.specs.Answers.{Answer}
use Rattle.rules.specs.Forced.{with_positions, room_checks}
use Rattle.rules.specs.declared.Refusal.{Refusal}
use Rattle.rules.specs.declared.Refusal.TheVariants as Refusal·
use Rattle.rules.specs.declared.ForcedPosition.{ForcedPosition}
use Rattle.rules.proofs.Answered.{refused, done}
use Rattle.queue_ring.specs.Slots.{Slots, waiting, Grows}
use Rattle.queue_ring.specs.Waiting.{Adds}
use Rattle.queue_ring.proofs.Grown.{room-said}

-- ---- with room for all of l, and without

module _ (l old : List ForcedPosition) where
  pub adds-all : length l ≤ queue_room → {new : List ForcedPosition} → new ≡ l → Adds l old (Ok tt) new
  unfolding refusal
  adds-all h e = done (room_checks l) tt l old (rw (le-leb (length l) queue_room h)) refl e

  pub adds-full : queue_room < length l → Adds l old (Err Refusal·.Room) old
  unfolding refusal
  adds-full h = refused (room_checks l) tt l old (rw (lt-leb (length l) queue_room h))

  -- which of the two it was, seen by the answer
  module _ {new : List ForcedPosition} where
    pub was-all : Adds l old (Ok tt) new → (length l ≤ queue_room) × (new ≡ l)
    was-all w =
        ⊎_elim (λ h. absurd (let z : ◌≡◌ {A = ℕ} 0 1 = cc (w.answered, (adds-full h).answered) in omega arith))
        (λ h. (h, w.leaves ∙ sym (adds-all h refl).leaves))
        (lt-or-le queue_room (length l))

    pub was-full : {r : Refusal} → Adds l old (Err r) new → (queue_room < length l) × (r ≡ Refusal·.Room) × (new ≡ old)
    was-full {r} w =
        ⊎_elim
        (λ h. (
          h,
          (let e : ◌≡◌ {A = Answer Unit} (Err r) (Err Refusal·.Room) = w.answered ∙ sym (adds-full h).answered in cc),
          w.leaves ∙ sym (adds-full h).leaves,
        ))
        (λ h. absurd (let z : ◌≡◌ {A = ℕ} 0 1 = cc (w.answered, (adds-all h refl).answered) in omega arith))
        (lt-or-le queue_room (length l))

-- ---- in slots

-- the entries that wait in s are old
module _ (s : Slots) (first len : ℕ) {old : List ForcedPosition} (v : waiting s first len ≡ old) (p : List ForcedPosition) {r : Answer ℕ} (new : Slots)
    (g : Grows s first len (with_positions (waiting s first len) p) r new) where
  -- how many wait is a number that can be
  pub grows-few : (n : ℕ) → r ≡ Ok n → n ≤ queue_room
  grows-few n e = let said = room-said (with_positions (waiting s first len) p) n (sym e ∙ g.answered) in omega (arith, said.0, said.1)

  pub grows-adds : (n : ℕ) → r ≡ Ok n → {left : List ForcedPosition} → waiting new first n ≡ left → Adds (with_positions old p) old (Ok tt) left
  grows-adds n e w =
      let said = room-said (with_positions (waiting s first len) p) n (sym e ∙ g.answered) in
      rw (← v) (adds-all (with_positions (waiting s first len) p) (waiting s first len) said.0 (sym w ∙ ap (waiting new first) said.1 ∙ g.grown said.0))
