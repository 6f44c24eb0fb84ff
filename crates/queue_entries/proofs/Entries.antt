-- Laws of a queue's entries: the queue that stands for a list, and the list that stands in a queue.
-- Assumes nothing.
use Prim.Native.Nat.{ℕ, suc, ◌+◌, ◌-◌, ◌<◌, ◌≤◌}
use mathlib.Core.Path.{◌≡◌, sym, ◌∙◌, ap}
use mathlib.Core.List.{List, [], ◌∷◌, ◌++◌}
use native.Mathlib.Omega.{arith}
use lib.ListN.{length, get_or, drop, set, replicate, length-append}
use lib.Seq.{take-append_seam, set-append_seam, append_snoc, length-take-le, length-slice, slice, slice-cons}
use borrow.Rule.Slice.PartMut.{put_mid}
use Rattle.std.specs.List.{between}
use Rattle.std.proofs.lemmas.Slice.{between_is}
use Rattle.std.proofs.lemmas.List.{drop-replicate}
use Rattle.std.specs.Prelude.{Ok, Some, None}
use Rattle.rules.specs.Bounds.{queue_room}
use Rattle.rules.specs.Forced.{padded, no_position, queued, queue_of}
use Rattle.rules.specs.declared.ForcedPosition.{ForcedPosition}
use Rattle.rules.specs.declared.ForcedPipeline.{ForcedPipeline}
use Rattle.rules.specs.declared.Taken.{Taken}
use Rattle.queue_entries.specs.Unchecked.{next_out}

pub queue-is : (es l : List ForcedPosition) (n : ℕ) → es ≡ padded queue_room l → n ≡ length l
    → ◌≡◌ {A = ForcedPipeline} (record { entries = es; len = n }) (queue_of l)
unfolding queue_of
queue-is es l n p q = rw (p, q)

pub queued-of : (l : List ForcedPosition) → queued (queue_of l) ≡ l
unfolding queued queue_of padded
queued-of l = take-append_seam l (replicate (queue_room - length l) no_position)

pub length-queued : (q : ForcedPipeline) → length q.entries ≡ queue_room → q.len ≤ queue_room → length (queued q) ≡ q.len
unfolding queued
length-queued q p h = length-take-le q.len q.entries (omega arith)

-- taking: there is none, or the first one is entry 0
pub out_none : (q left : ForcedPipeline) → q.len ≡ 0 → left ≡ queue_of []
    → ◌≡◌ {A = Taken} (record { next = Ok None; queue = left }) (next_out (queued q))
unfolding queued next_out
out_none q left h e = rw (h, e)

pub out_first : (q left : ForcedPipeline) (d : ForcedPosition) → 0 < q.len → q.len ≤ length q.entries
    → left ≡ queue_of (drop 1 (queued q))
    → ◌≡◌ {A = Taken} (record { next = Ok (Some (get_or q.entries 0 d)); queue = left }) (next_out (queued q))
unfolding queued next_out
out_first q left d h k e = rw (e, slice-cons 0 q.len q.entries d h k)

-- one position more, in the first free entry
fill : (l : List ForcedPosition) (e : ForcedPosition) → length l < queue_room
    → set (padded queue_room l) (length l) e ≡ padded queue_room (l ++ (e ∷ []))
unfolding padded
fill l e h =
    let free : ℕ = queue_room - (length l + 1) in
    let n : queue_room - length l ≡ suc free = omega arith in
    let m : length (l ++ (e ∷ [])) ≡ length l + 1 = length-append l (e ∷ []) in
    rw (n, m) (set-append_seam l no_position (replicate free no_position) e ∙ sym (append_snoc l e (replicate free no_position)))

pub filled : (es l : List ForcedPosition) (n : ℕ) (e : ForcedPosition) → es ≡ padded queue_room l → length l ≡ n → n < queue_room
    → set es n e ≡ padded queue_room (l ++ (e ∷ []))
filled es l n e p q h = rw (p, sym q) (fill l e (rw (sym q) at h))

-- what stands in a queue's room when the entries from `start` on were copied to its front
pub moved : (es out ys : List ForcedPosition) (start n : ℕ) → n ≤ length es → out ≡ padded queue_room [] → ys ≡ between start n es
    → put_mid 0 (n - start) out ys ≡ padded queue_room (slice start n es)
unfolding padded
moved es out ys start n h e y =
    let l : ys ≡ slice start n es = y ∙ between_is es start n in
    let m : length (slice start n es) ≡ n - start = length-slice start n es h in
    rw (e, l, m) (ap (λ (r : List ForcedPosition). slice start n es ++ r) (drop-replicate (n - start) queue_room no_position))

pub left-is : (es out ys : List ForcedPosition) (start n : ℕ) → n ≤ length es → out ≡ padded queue_room [] → ys ≡ between start n es
    → ◌≡◌ {A = ForcedPipeline} (record { entries = put_mid 0 (n - start) out ys; len = n - start }) (queue_of (slice start n es))
left-is es out ys start n h e y =
    queue-is _ (slice start n es) _ (moved es out ys start n h e y) (sym (length-slice start n es h))
