-- From the checks of a copy, passed, to what the rows are laid in and what the target then holds, over any kind of entry.
-- Assumes nothing.
use Prim.Native.Nat.{ℕ}
use mathlib.Core.Path.{◌≡◌, sym, ◌∙◌}
use mathlib.Core.List.{List}
use lib.ListN.{replicate, get_or-replicate}
use Rattle.std.specs.Prelude.{Ok}
use Rattle.std.proofs.lemmas.List.{length-replicate}
use Rattle.base.specs.Refusal.{refusal}
use Rattle.base.proofs.Tabled.{is-tab}
use Rattle.rules.specs.Answers.{Answer, checked}
use Rattle.rules.specs.Places.{copied}
use Rattle.rules.specs.declared.Pads.{Pads}
use Rattle.rules.proofs.Answered.{passed}
use Rattle.copy_checks.specs.Laid.{size_checks, rows_laid, Sized}
use Rattle.copy_checks.proofs.Copied.{laid-copied}
use Rattle.copy_checks.proofs.Sides.{sized}

module _ (rows cols : ℕ) (p : Pads) (held room : ℕ) {x : Answer Unit} (e : x ≡ checked (size_checks rows cols p held room)) (was : x ≡ Ok tt) where
  pub sides-passed : 0 ≡ refusal (size_checks rows cols p held room)
  sides-passed = passed (size_checks rows cols p held room) tt e was

  -- the target has kept its length
  pub still-sized : {n : ℕ} → n ≡ room → Sized rows cols p held n
  still-sized q = rw q (sized rows cols p held room (sym sides-passed))

-- it was filled, and then the rows were laid in it
pub rows-copied : {A : Type 0} (none fill : A) (plane : List A) (rows cols : ℕ) (p : Pads) {held room : ℕ} {v w : List A} → Sized rows cols p held room
    → w ≡ replicate room fill → v ≡ rows_laid none plane rows cols p w → v ≡ copied none fill plane rows cols p
rows-copied none fill plane rows cols p {held} {room} s f q =
    q
    ∙ rw (f, is-tab none (replicate room fill) room (λ k. fill) (length-replicate room fill) (λ k h. get_or-replicate room k fill none h), s.room-is)
    (laid-copied none fill plane rows cols p)
