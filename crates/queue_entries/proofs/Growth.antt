-- Laws of adding: what one position more makes of a queue, and the state of the loop that adds: what is still to be added to the queue so
-- far gives what all the positions give.
-- Assumes nothing.
use Prim.Native.Nat.{ℕ, ◌+◌, ◌<◌, ◌≤◌}
use mathlib.Core.Path.{◌≡◌, sym, ◌∙◌, ap}
use mathlib.Core.Bool.{true, false}
use mathlib.Core.List.{List, [], ◌∷◌, ◌++◌}
use native.Mathlib.Omega.{arith}
use borrow.Author.Tests.{le-leb, lt-leb}
use lib.ListN.{length, get_or, drop, set, length-append}
use Rattle.base.specs.Refusal.{refusal}
use Rattle.base.proofs.Numbers.{lt-or-le}
use Rattle.rules.specs.Bounds.{queue_room}
use Rattle.rules.specs.Forced.{queued, queue_of, padded, is_queued, with_position, with_positions}
use Rattle.rules.specs.declared.ForcedPosition.{ForcedPosition}
use Rattle.rules.specs.declared.ForcedPipeline.{ForcedPipeline}
use Rattle.rules.specs.declared.Grown.{Grown}
use mathlib.Core.Logic.{⊎_elim}
use Rattle.rules.proofs.Queues.{with-old, with-new, with-one, with_none, grows}
use Rattle.queue_entries.specs.Unchecked.{Tidy, Adds, grown_to}
use Rattle.queue_entries.proofs.Places.{still, none_left}
use Rattle.queue_entries.proofs.Entries.{queue-is, queued-of, filled}
use Rattle.std.specs.Prelude.{Ok, Err}
use Rattle.rules.specs.Answers.{Answer}
use Rattle.rules.specs.declared.Refusal.{Refusal}
use Rattle.rules.specs.declared.Refusal.TheVariants as Refusal·

-- with room for all of l, and without
module _ (q : ForcedPipeline) (l : List ForcedPosition) where
  pub grown-all : length l ≤ queue_room → ◌≡◌ {A = Grown} (record { answer = Ok tt; queue = queue_of l }) (grown_to q l)
  unfolding grown_to refusal
  grown-all h = rw (le-leb (length l) queue_room h)

  pub grown-none : queue_room < length l → ◌≡◌ {A = Grown} (record { answer = Err Refusal·.Room; queue = q }) (grown_to q l)
  unfolding grown_to refusal
  grown-none h = rw (lt-leb (length l) queue_room h)

  adds-by : {a : Answer Unit} {after : ForcedPipeline} → ◌≡◌ {A = Grown} (record { answer = a; queue = after }) (grown_to q l) → Adds q l a after
  adds-by e = record { answered = ap (λ (g : Grown). g.answer) e; leaves = ap (λ (g : Grown). g.queue) e }

  -- which of the two it was, seen by the answer
  module _ {after : ForcedPipeline} where
    pub was-all : Adds q l (Ok tt) after → (length l ≤ queue_room) × (after ≡ queue_of l)
    was-all w =
        ⊎_elim (λ h. absurd (let z : ◌≡◌ {A = ℕ} 0 1 = cc (grown-none h, w.answered) in omega arith))
        (λ h. (h, w.leaves ∙ ap (λ (g : Grown). g.queue) (sym (grown-all h))))
        (lt-or-le queue_room (length l))

    pub was-none : {r : Refusal} → Adds q l (Err r) after → (queue_room < length l) × (r ≡ Refusal·.Room)
    was-none {r} w =
        ⊎_elim (λ h. (h, let e : ◌≡◌ {A = Answer Unit} (Err r) (Err Refusal·.Room) = w.answered ∙ ap (λ (g : Grown). g.answer) (sym (grown-none h)) in cc))
        (λ h. absurd (let z : ◌≡◌ {A = ℕ} 0 1 = cc (grown-all h, w.answered) in omega arith))
        (lt-or-le queue_room (length l))

pub tidy_of : (q : ForcedPipeline) (l : List ForcedPosition) → q ≡ queue_of l → length l ≤ queue_room → Tidy q
unfolding queue_of
tidy_of q l e h = record { in-room = rw e h; as-list = e ∙ ap queue_of (sym (queued-of l) ∙ ap queued (sym e)) }

pub tidy-length : (q : ForcedPipeline) → Tidy q → length (queued q) ≡ q.len
unfolding queue_of
tidy-length q t = sym (ap (λ (r : ForcedPipeline). r.len) t.as-list)

tidy-entries : (q : ForcedPipeline) → Tidy q → q.entries ≡ padded queue_room (queued q)
unfolding queue_of
tidy-entries q t = ap (λ (r : ForcedPipeline). r.entries) t.as-list

-- the three ways of adding one
module _ (q : ForcedPipeline) (e : ForcedPosition) (t : Tidy q) where
  pub adds-old : is_queued e.coordinates (queued q) ≡ true → Adds q (with_position (queued q) e) (Ok tt) q
  adds-old h =
      adds-by q (with_position (queued q) e)
      (ap (λ (r : ForcedPipeline). record { answer = Ok tt; queue = r }) t.as-list
      ∙ grown-all q (queued q) (omega (arith, tidy-length q t, t.in-room))
      ∙ ap (grown_to q) (sym (with-old (queued q) e h)))

  module _ (h : is_queued e.coordinates (queued q) ≡ false) where
    longer : length (queued q ++ (e ∷ [])) ≡ q.len + 1
    longer = length-append (queued q) (e ∷ []) ∙ ap (λ (n : ℕ). n + 1) (tidy-length q t)

    pub adds_none : q.len ≡ queue_room → Adds q (with_position (queued q) e) (Err Refusal·.Room) q
    adds_none k =
        adds-by q (with_position (queued q) e)
        (grown-none q (queued q ++ (e ∷ [])) (omega (arith, longer)) ∙ ap (grown_to q) (sym (with-new (queued q) e h)))

    pub adds-new : q.len < queue_room
        → Adds q (with_position (queued q) e) (Ok tt) (record { entries = set q.entries q.len e; len = q.len + 1 })
    adds-new k =
        let l : List ForcedPosition = queued q ++ (e ∷ []) in
        let g : set q.entries q.len e ≡ padded queue_room l =
        filled q.entries (queued q) q.len e (tidy-entries q t) (tidy-length q t) k in
        adds-by q (with_position (queued q) e)
        (ap (λ (r : ForcedPipeline). record { answer = Ok tt; queue = r }) (queue-is (set q.entries q.len e) l (q.len + 1) g (sym longer))
        ∙ grown-all q (queued q ++ (e ∷ [])) (omega (arith, longer))
        ∙ ap (grown_to q) (sym (with-new (queued q) e h)))

-- the state of the loop at turn i over the positions
pub record Grows (q : ForcedPipeline) (more : List ForcedPosition) (grown : ForcedPipeline) (i : ℕ) : Type 0 where
  pub tidy : Tidy grown
  pub rest : with_positions (queued grown) (drop i more) ≡ with_positions (queued q) more

module _ (q : ForcedPipeline) (more : List ForcedPosition) where
  pub grows_from : (grown : ForcedPipeline) → grown ≡ queue_of (queued q) → length (queued q) ≤ queue_room → Grows q more grown 0
  grows_from grown e h =
      record {
        tidy = tidy_of grown (queued q) e h;
        rest = ap (λ (l : List ForcedPosition). with_positions l more) (ap queued e ∙ queued-of (queued q));
      }

  module _ (grown : ForcedPipeline) (i : ℕ) (d : ForcedPosition) (h : i < length more) (s : Grows q more grown i) where
    next : with_positions (with_position (queued grown) (get_or more i d)) (drop (i + 1) more) ≡ with_positions (queued q) more
    next =
        sym (with-one (queued grown) (get_or more i d) (drop (i + 1) more)) ∙ ap (with_positions (queued grown)) (sym (still more i d h)) ∙ s.rest

    module _ {after : ForcedPipeline} where
      pub grows-on : Adds grown (with_position (queued grown) (get_or more i d)) (Ok tt) after → Grows q more after (i + 1)
      grows-on a =
          let l : List ForcedPosition = with_position (queued grown) (get_or more i d) in
          let w = was-all grown l a in
          record {
            tidy = tidy_of after l w.1 w.0;
            rest = ap (λ (m : List ForcedPosition). with_positions m (drop (i + 1) more)) (ap queued w.1 ∙ queued-of l) ∙ next;
          }

      pub grows-too-far : {r : Refusal} → Adds grown (with_position (queued grown) (get_or more i d)) (Err r) after
          → ◌≡◌ {A = Grown} (record { answer = Err r; queue = q }) (grown_to q (with_positions (queued q) more))
      grows-too-far a =
          let l : List ForcedPosition = with_position (queued grown) (get_or more i d) in
          let w = was-none grown l a in
          ap (λ (x : Refusal). record { answer = Err x; queue = q }) w.1
          ∙ grown-none q (with_positions (queued q) more) (omega (arith, w.0, grows l (drop (i + 1) more), ap length next))

  pub grows_end : (grown : ForcedPipeline) (i : ℕ) → length more ≤ i → Grows q more grown i
      → ◌≡◌ {A = Grown} (record { answer = Ok tt; queue = grown }) (grown_to q (with_positions (queued q) more))
  grows_end grown i h s =
      let e : queued grown ≡ with_positions (queued q) more =
      sym (with_none (queued grown)) ∙ ap (with_positions (queued grown)) (sym (none_left more i h)) ∙ s.rest in
      ap (λ (r : ForcedPipeline). record { answer = Ok tt; queue = r }) (s.tidy.as-list ∙ ap queue_of e)
      ∙ grown-all q (with_positions (queued q) more) (omega (arith, ap length e, tidy-length grown s.tidy, s.tidy.in-room))
