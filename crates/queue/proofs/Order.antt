-- What a reader may lean on: the queue is first in, first out, over every run of calls, refused ones included; adding puts the new
-- places at the back, in order, and skips those that are queued; no place is queued twice.
-- Assumes nothing.
use Prim.Native.Nat.{ℕ, zero, suc}
use mathlib.Core.Path.{◌≡◌, refl, sym, ◌∙◌, ap}
use mathlib.Core.Bool.{Bool, true, false, not}
use mathlib.Core.List.{List, [], ◌∷◌, ◌++◌, append-nil, append_assoc}
use lib.ListN.{drop}
use Rattle.base.specs.Refusal.{refusal}
use Rattle.base.proofs.Bools.{by-test, and_left, and_right, and_both, not-is-true}
use Rattle.std.specs.Prelude.{Ok}
use Rattle.rules.specs.Answers.{next_of}
use Rattle.rules.specs.Forced.{queued, offered, queue_of, is_queued, with_positions, queue_checks, add_checks, taken_from, grown_by}
use Rattle.rules.specs.declared.ForcedPosition.{ForcedPosition}
use Rattle.rules.specs.declared.ForcedPositions.{ForcedPositions}
use Rattle.rules.specs.declared.ForcedPipeline.{ForcedPipeline}
use Rattle.queue.specs.Runs.{new_ones, none_twice, QueueCall, adding, taking, queue_left, comes_in, goes_out, position_in, queue_after, all_in, all_out}
use Rattle.queue_entries.proofs.Entries.{queued-of}
use Rattle.rules.proofs.Queues.{with-old, with-new, with-one, with_none}

-- the new places stand behind the old ones, in the order in which they were offered
pub appended : (l more : List ForcedPosition) → with_positions l more ≡ l ++ new_ones l more
unfolding new_ones
appended l [] = with_none l ∙ sym (append-nil l)
appended l (e ∷ more) =
    with-one l e more
    ∙ by-test (is_queued e.coordinates l)
    (λ h. rw (with-old l e h, h) (appended l more))
    (λ h. rw (with-new l e h, h) (appended (l ++ (e ∷ [])) more ∙ append_assoc l (e ∷ []) (new_ones (l ++ (e ∷ [])) more)))

-- no place is queued twice
twice-last : (before l : List ForcedPosition) (e : ForcedPosition) → none_twice before l ≡ true
    → is_queued e.coordinates (before ++ l) ≡ false → none_twice before (l ++ (e ∷ [])) ≡ true
unfolding none_twice
twice-last before [] e h k =
    and_both (not (is_queued e.coordinates before)) true (not-is-true (is_queued e.coordinates before) (rw append-nil at k)) refl
twice-last before (x ∷ l) e h k =
    let new : Bool = not (is_queued x.coordinates before) in
    and_both new (none_twice (before ++ (x ∷ [])) (l ++ (e ∷ []))) (and_left new (none_twice (before ++ (x ∷ [])) l) h)
    (twice-last (before ++ (x ∷ [])) l e (and_right new (none_twice (before ++ (x ∷ [])) l) h) (rw append_assoc k))

pub once : (l more : List ForcedPosition) → none_twice [] l ≡ true → none_twice [] (with_positions l more) ≡ true
once l [] h = rw (with_none l) h
once l (e ∷ more) h =
    rw (with-one l e more)
    (by-test (is_queued e.coordinates l)
    (λ k. rw (with-old l e k) (once l more h))
    (λ k. rw (with-new l e k) (once (l ++ (e ∷ [])) more (twice-last [] l e h k))))

-- one call: what was queued, and then what comes in, is what goes out, and then what is left
first_out : (l : List ForcedPosition) → l ++ [] ≡ position_in (Ok (next_of l)) ++ drop 1 l
first_out [] = refl
first_out (e ∷ l) = append-nil (e ∷ l)

taking-keeps : (q : ForcedPipeline) (n : ℕ) → n ≡ refusal (queue_checks q)
    → queued q ++ comes_in q taking ≡ goes_out q taking ++ queued (queue_left q taking)
unfolding comes_in goes_out queue_left taken_from
taking-keeps q zero e =
    rw (sym e)
    (first_out (queued q) ∙ ap (λ (l : List ForcedPosition). position_in (Ok (next_of (queued q))) ++ l) (sym (queued-of (drop 1 (queued q)))))
taking-keeps q (suc n) e = rw (sym e) (append-nil (queued q))

adding-keeps : (q : ForcedPipeline) (p : ForcedPositions) (n : ℕ) → n ≡ refusal (add_checks q p)
    → queued q ++ comes_in q (adding p) ≡ goes_out q (adding p) ++ queued (queue_left q (adding p))
unfolding comes_in goes_out queue_left grown_by
adding-keeps q p zero e = rw (sym e) (sym (appended (queued q) (offered p)) ∙ sym (queued-of (with_positions (queued q) (offered p))))
adding-keeps q p (suc n) e = rw (sym e) (append-nil (queued q))

keeps : (q : ForcedPipeline) (c : QueueCall) → queued q ++ comes_in q c ≡ goes_out q c ++ queued (queue_left q c)
keeps q (adding p) = adding-keeps q p (refusal (add_checks q p)) refl
keeps q taking = taking-keeps q (refusal (queue_checks q)) refl

-- first in, first out: over a run, what was queued and then all that comes in is, in this order, all that goes out and then what is left
pub first-in-first-out : (q : ForcedPipeline) (cs : List QueueCall) → queued q ++ all_in q cs ≡ all_out q cs ++ queued (queue_after q cs)
unfolding all_in all_out queue_after
first-in-first-out q [] = append-nil (queued q)
first-in-first-out q (c ∷ cs) =
    sym (append_assoc (queued q) (comes_in q c) (all_in (queue_left q c) cs))
    ∙ ap (λ (l : List ForcedPosition). l ++ all_in (queue_left q c) cs) (keeps q c)
    ∙ append_assoc (goes_out q c) (queued (queue_left q c)) (all_in (queue_left q c) cs)
    ∙ ap (λ (l : List ForcedPosition). goes_out q c ++ l) (first-in-first-out (queue_left q c) cs)
    ∙ sym (append_assoc (goes_out q c) (all_out (queue_left q c) cs) (queued (queue_after (queue_left q c) cs)))

-- from a new queue on: what has gone out, and then what still waits, is what has come in
pub from-new : (cs : List QueueCall) → all_in (queue_of []) cs ≡ all_out (queue_of []) cs ++ queued (queue_after (queue_of []) cs)
from-new cs = ap (λ (l : List ForcedPosition). l ++ all_in (queue_of []) cs) (sym (queued-of [])) ∙ first-in-first-out (queue_of []) cs
