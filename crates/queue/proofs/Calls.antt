-- Laws of the calls that hand a queue back: what each answers where the checks made on entry refuse, and where they pass; and what their
-- passing gives to the functions beneath.
-- Assumes nothing.
use mathlib.Core.Path.{◌≡◌, refl, sym}
use lib.ListN.{drop}
use mathlib.Core.List.{List}
use Prim.Native.Nat.{◌≤◌}
use borrow.Author.Tests.{leb-true}
use Rattle.std.specs.Prelude.{Err}
use Rattle.base.specs.Refusal.{refusal}
use Rattle.base.proofs.Chain.{go, all_pass}
use Rattle.rules.proofs.Answered.{refused, stopped}
use Rattle.rules.specs.Answers.{checked, next_of}
use Rattle.rules.specs.Bounds.{queue_room, added_room}
use Rattle.rules.specs.Forced.{queued, offered, queue_of, with_positions, queue_checks, entry_checks, add_checks, room_checks, taken_from, grown_by}
use Rattle.rules.specs.declared.Refusal.{Refusal}
use Rattle.rules.specs.declared.ForcedPosition.{ForcedPosition}
use Rattle.rules.specs.declared.ForcedPositions.{ForcedPositions}
use Rattle.rules.specs.declared.ForcedPipeline.{ForcedPipeline}
use Rattle.rules.specs.declared.Grown.{Grown}
use Rattle.rules.specs.declared.Taken.{Taken}
use Rattle.queue_entries.specs.Unchecked.{Adding, grown_to, next_out}

-- taking
module _ (q : ForcedPipeline) where
  pub in-room-of : 0 ≡ refusal (queue_checks q) → q.len ≤ queue_room
  in-room-of e = let h = all_pass (queue_checks q) refl (sym e) in leb-true q.len queue_room (search)

  pub taken_refused : {r : Refusal} → Err r ≡ checked (queue_checks q) → ◌≡◌ {A = Taken} (record { next = Err r; queue = q }) (taken_from q)
  unfolding taken_from
  taken_refused e = let w = refused (queue_checks q) (next_of (queued q)) (queue_of (drop 1 (queued q))) q e in cc (w.answered, w.leaves)

  pub taken : 0 ≡ refusal (queue_checks q) → next_out (queued q) ≡ taken_from q
  unfolding taken_from next_out
  taken e = rw (sym e)

-- adding: the checks made on entry, and then ROOM
module _ (q : ForcedPipeline) (p : ForcedPositions) where
  abbrev all : List ForcedPosition
  all = with_positions (queued q) (offered p)

  pub adding-of : 0 ≡ refusal (entry_checks q p) → Adding q p
  adding-of e =
      let h = all_pass (entry_checks q p) refl (sym e) in
      record { in-room = leb-true q.len queue_room (search); few = leb-true p.len added_room (search) }

  pub grown-refused : {r : Refusal} → Err r ≡ checked (entry_checks q p) → ◌≡◌ {A = Grown} (record { answer = Err r; queue = q }) (grown_by q p)
  unfolding grown_by
  grown-refused e =
      let w = refused (add_checks q p) (tt {0}) (queue_of all) q (stopped (entry_checks q p) (room_checks all) e) in cc (w.answered, w.leaves)

  pub grown : 0 ≡ refusal (entry_checks q p) → grown_to q all ≡ grown_by q p
  unfolding grown_by grown_to
  grown e = rw (sym (go _ (entry_checks q p) (room_checks all) e refl))
