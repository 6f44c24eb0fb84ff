-- Laws of adding to a queue in slots.
--     grows-old, grows_none, grows-new    the three ways of adding one position
--     room-said, full-said    what the answer says of the room
--     Adding    the state of the loop that adds many: what is still to be added to the entries so far gives what all the positions give
-- Assumes nothing.
use Prim.Native.Nat.{ℕ, ◌+◌, ◌<◌, ◌≤◌}
use mathlib.Core.Path.{◌≡◌, refl, sym, ◌∙◌, ap, subst}
use mathlib.Core.Bool.{true, false}
use mathlib.Core.Logic.{⊎_elim}
use mathlib.Core.List.{List, [], ◌∷◌}
use native.Mathlib.Omega.{arith}
use lib.IntN.{ℤ}
use lib.ListN.{length, get_or, drop, set, length-append}
use borrow.Author.Tests.{le-leb, lt-leb}
use Rattle.base.specs.Refusal.{refusal}
use Rattle.base.proofs.Numbers.{lt-or-le}
use Rattle.rules.specs.Bounds.{queue_room}
use Rattle.rules.specs.Answers.{Answer, answered}
use Rattle.rules.specs.Forced.{is_queued, with_position, with_positions, room_checks}
use Rattle.rules.specs.declared.ForcedPosition.{ForcedPosition}
use Rattle.std.specs.Prelude.{Ok, Err}
use Rattle.rules.specs.declared.Refusal.{Refusal}
use Rattle.rules.specs.declared.Refusal.TheVariants as Refusal·
use Rattle.rules.proofs.Queues.{with-old, with-new, one_grows, with-one, with_none, grows}
use Rattle.queue_entries.proofs.Places.{still, none_left}
use Rattle.queue_ring.specs.Slots.{Slots, slots, slot_of, waiting, Ringed, Grows}
use Rattle.queue_ring.proofs.Slots.{length-waiting, put_last, put-kept, put_last-here, put-shaped}

-- ---- the answer

module _ (l : List ForcedPosition) where
  abbrev pub room_answer : Answer ℕ
  room_answer = answered (refusal (room_checks l)) (length l)

  pub has_room : length l ≤ queue_room → Ok (length l) ≡ room_answer
  unfolding refusal
  has_room h = rw (le-leb (length l) queue_room h)

  pub no_room : queue_room < length l → Err Refusal·.Room ≡ room_answer
  unfolding refusal
  no_room h = rw (lt-leb (length l) queue_room h)

  pub room-said : (n : ℕ) → Ok n ≡ room_answer → (length l ≤ queue_room) × (n ≡ length l)
  room-said n e =
      ⊎_elim (λ h. absurd (let z : ◌≡◌ {A = ℕ} 0 1 = cc (e ∙ sym (no_room h)) in omega arith))
      (λ h. (h, cc (e ∙ sym (has_room h))))
      (lt-or-le queue_room (length l))

  pub full-said : (r : Refusal) → Err r ≡ room_answer → queue_room < length l
  full-said r e =
      ⊎_elim (λ h. h) (λ h. absurd (let z : ◌≡◌ {A = ℕ} 0 1 = cc (e ∙ sym (has_room h)) in omega arith)) (lt-or-le queue_room (length l))

-- ---- one position

module _ (s : Slots) (first len : ℕ) (e : ForcedPosition) (ring : Ringed s first len) where
  abbrev now : List ForcedPosition
  now = waiting s first len

  abbrev then : List ForcedPosition
  then = with_position now e

  pub grows-old : is_queued e.coordinates now ≡ true → Grows s first len then (Ok len) s
  grows-old h =
      let same : then ≡ now = with-old now e h in
      let long : length then ≡ len = ap length same ∙ length-waiting s first len in
      record {
        answered = ap Ok (sym long) ∙ has_room then (omega (arith, ring.in-room));
        kept = λ m g. refl;
        grown = λ g. ap (waiting s first) long ∙ sym same;
        shaped = ring.shaped;
      }

  module _ (h : is_queued e.coordinates now ≡ false) where
    longer : length then ≡ len + 1
    longer = ap length (with-new now e h) ∙ length-append now (e ∷ []) ∙ ap (λ (n : ℕ). n + 1) (length-waiting s first len)

    pub grows_none : len ≡ queue_room → Grows s first len then (Err Refusal·.Room) s
    grows_none k =
        record {
          answered = no_room then (omega (arith, longer));
          kept = λ m g. refl;
          grown = λ g. absurd (omega (arith, longer));
          shaped = ring.shaped;
        }

    -- the position in the slot behind the entries
    module _ (free : len < queue_room) where
      put : Grows s first len then (Ok (len + 1)) (put_last s first len e ring.shaped free)
      put =
          record {
            answered = ap Ok (sym longer) ∙ has_room then (omega (arith, longer));
            kept = put-kept s first len e ring.shaped free;
            grown = λ g. ap (waiting (put_last s first len e ring.shaped free) first) longer ∙ put_last-here s first len e ring.shaped free ∙ sym (with-new now e h);
            shaped = put-shaped s first len e ring.shaped free;
          }

      pub grows-new : (at : ℕ) → at ≡ slot_of first len → (rows cols : List ℤ) (colours : List ℕ)
          → rows ≡ set s.rows at e.coordinates.0 → cols ≡ set s.cols at e.coordinates.1 → colours ≡ set s.colours at e.colour
          → Grows s first len then (Ok (len + 1)) (slots rows cols colours)
      grows-new at a rows cols colours p q r =
          subst (Grows s first len then (Ok (len + 1)))
          (λ i.
          slots
          (sym (p ∙ ap (λ (n : ℕ). set s.rows n e.coordinates.0) a) i)
          (sym (q ∙ ap (λ (n : ℕ). set s.cols n e.coordinates.1) a) i)
          (sym (r ∙ ap (λ (n : ℕ). set s.colours n e.colour) a) i))
          put

-- ---- many

-- the state of the loop at turn i, in which so many wait
pub record Adding (old : Slots) (first len : ℕ) (more : List ForcedPosition) (new : Slots) (wait i : ℕ) : Type 0 where
  pub ring : Ringed new first wait
  pub longer : len ≤ wait
  pub kept : (m : ℕ) → m ≤ len → waiting new first m ≡ waiting old first m
  pub rest : with_positions (waiting new first wait) (drop i more) ≡ with_positions (waiting old first len) more

module _ (old : Slots) (first len : ℕ) (more : List ForcedPosition) where
  abbrev all : List ForcedPosition
  all = with_positions (waiting old first len) more

  pub adding-from : Ringed old first len → Adding old first len more old len 0
  adding-from h = record { ring = h; longer = omega arith; kept = λ m g. refl; rest = refl }

  module _ (new : Slots) (wait i : ℕ) (d : ForcedPosition) (h : i < length more) (s : Adding old first len more new wait i)
      (a : Answer ℕ) (after : Slots) (g : Grows new first wait (with_position (waiting new first wait) (get_or more i d)) a after) where
    abbrev one : List ForcedPosition
    one = with_position (waiting new first wait) (get_or more i d)

    next : with_positions one (drop (i + 1) more) ≡ all
    next =
        sym (with-one (waiting new first wait) (get_or more i d) (drop (i + 1) more))
        ∙ ap (with_positions (waiting new first wait)) (sym (still more i d h))
        ∙ s.rest

    still_kept : (m : ℕ) → m ≤ len → waiting after first m ≡ waiting old first m
    still_kept m l = g.kept m (omega (arith, s.longer)) ∙ s.kept m l

    pub adding-on : (wait' : ℕ) → a ≡ Ok wait' → Adding old first len more after wait' (i + 1)
    adding-on wait' e =
        let said = room-said one wait' (sym e ∙ g.answered) in
        record {
          ring = record { shaped = g.shaped; begins = s.ring.begins; in-room = omega (arith, said.0, said.1) };
          longer = omega (arith, said.1, one_grows (waiting new first wait) (get_or more i d), length-waiting new first wait, s.longer);
          kept = still_kept;
          rest =
              ap (λ (l : List ForcedPosition). with_positions l (drop (i + 1) more))
              (ap (waiting after first) said.1 ∙ g.grown said.0)
              ∙ next;
        }

    pub adding-too-far : (m : Refusal) → a ≡ Err m → Grows old first len all a after
    adding-too-far m e =
        let over : queue_room < length one = full-said one m (sym e ∙ g.answered) in
        let past : queue_room < length all = omega (arith, over, grows one (drop (i + 1) more), ap length next) in
        record { answered = g.answered ∙ sym (no_room one over) ∙ no_room all past; kept = still_kept; grown = λ l. absurd (omega arith); shaped = g.shaped }

  pub adding-end : (new : Slots) (wait i : ℕ) → length more ≤ i → Adding old first len more new wait i → Grows old first len all (Ok wait) new
  adding-end new wait i h s =
      let done : waiting new first wait ≡ all =
      sym (with_none (waiting new first wait)) ∙ ap (with_positions (waiting new first wait)) (sym (none_left more i h)) ∙ s.rest in
      let long : length all ≡ wait = ap length (sym done) ∙ length-waiting new first wait in
      record {
        answered = ap Ok (sym long) ∙ has_room all (omega (arith, s.ring.in-room));
        kept = s.kept;
        grown = λ l. ap (waiting new first) long ∙ done;
        shaped = s.ring.shaped;
      }
