-- Laws of a queue of forced positions, as a list.
--     with-old, with-new, with-one, with_none    one position more, and many
--     grows, few-more    adding never shortens a queue, and makes it longer by no more than what is added
--     each-with          what holds of each entry, and of each position that is added, holds of each entry then
--     each-forced        what holds of each place that is forced holds of each forced neighbour
--     forced-few         there are at most eight of them
-- Assumes nothing.
use Rattle.std.specs.Prelude.{Option}
use Prim.Native.Nat.{ℕ, ◌+◌, ◌≤◌}
use mathlib.Core.Path.{◌≡◌, refl}
use mathlib.Core.Bool.{Bool, true, false, not, ◌&&◌}
use mathlib.Core.List.{List, [], ◌∷◌, ◌++◌}
use native.Mathlib.Nat.{le_trans}
use native.Mathlib.Omega.{arith}
use lib.Dec.{eqb}
use lib.ListN.{length, length-append}
use Rattle.base.specs.Counting.{pick, tally}
use Rattle.base.specs.Tables.{fold, those}
use Rattle.base.proofs.Bools.{by-test, pick_yes, pick_no, and_right}
use Rattle.base.proofs.Counted.{tally-le}
use Rattle.base.proofs.Tabled.{length-those}
use Rattle.base.proofs.Each.{Each, each_more, each-those}
use Rattle.rules.specs.Grid.{Kind}
use Rattle.rules.specs.Forced.{neighbour, is_forced, forced_there, forced_round, is_queued, with_position, with_positions}
use Rattle.rules.specs.declared.World.{World}
use Rattle.rules.specs.declared.Offset.{Offset}
use Rattle.rules.specs.declared.ForcedPosition.{ForcedPosition}
use Rattle.rules.specs.declared.BoundingBox.{BoundingBox}

-- ---- one position

module _ (l : List ForcedPosition) (e : ForcedPosition) where
  pub with-old : is_queued e.coordinates l ≡ true → with_position l e ≡ l
  unfolding with_position
  with-old h = pick_yes (is_queued e.coordinates l) l (l ++ (e ∷ [])) h

  pub with-new : is_queued e.coordinates l ≡ false → with_position l e ≡ l ++ (e ∷ [])
  unfolding with_position
  with-new h = pick_no (is_queued e.coordinates l) l (l ++ (e ∷ [])) h

  pub one_grows : length l ≤ length (with_position l e)
  one_grows =
      by-test (is_queued e.coordinates l) (λ h. rw (with-old h) (omega arith))
      (λ h. rw (with-new h) (omega (arith, length-append l (e ∷ []))))

  one_more : length (with_position l e) ≤ length l + 1
  one_more =
      by-test (is_queued e.coordinates l) (λ h. rw (with-old h) (omega arith))
      (λ h. rw (with-new h) (omega (arith, length-append l (e ∷ []))))

-- ---- many

pub with-one : (l : List ForcedPosition) (e : ForcedPosition) (more : List ForcedPosition)
    → with_positions l (e ∷ more) ≡ with_positions (with_position l e) more
unfolding with_positions fold
with-one l e more = refl

pub with_none : (l : List ForcedPosition) → with_positions l [] ≡ l
unfolding with_positions fold
with_none l = refl

pub grows : (l more : List ForcedPosition) → length l ≤ length (with_positions l more)
unfolding with_positions fold
grows l [] = omega arith
grows l (e ∷ more) = le_trans (one_grows l e) (grows (with_position l e) more)

pub few-more : (l more : List ForcedPosition) → length (with_positions l more) ≤ length l + length more
unfolding with_positions fold
few-more l [] = omega arith
few-more l (e ∷ more) = omega (arith, few-more (with_position l e) more, one_more l e)

module _ (P : ForcedPosition → Type 0) where
  pub each-with : (l more : List ForcedPosition) → Each P l → Each P more → Each P (with_positions l more)
  unfolding with_positions fold
  each-with l [] h k = h
  each-with l (e ∷ more) h (p, k) =
      each-with (with_position l e) more
      (by-test (is_queued e.coordinates l) (λ q. rw (with-old l e q) h) (λ q. rw (with-new l e q) (each_more P l (e ∷ []) h (p, tt))))
      k

-- ---- forced neighbours

module _ (kind : Kind) (pieces : List ℕ) (rows cols : ℕ) (tiles : List ℕ) (count : ℕ) (place : World) (offset : Offset) (bounds : Option BoundingBox) where
  pub each-forced : (P : ForcedPosition → Type 0)
      → ((v : World) → is_forced kind pieces rows cols tiles count v offset bounds ≡ true → P (forced_there kind pieces rows cols tiles count v offset))
      → Each P (forced_round kind pieces rows cols tiles count place offset bounds)
  unfolding forced_round
  each-forced P h = each-those P 9 _ _ (λ d d< e. h (neighbour place d) (and_right (not (eqb d 4)) _ e))

  pub forced-few : length (forced_round kind pieces rows cols tiles count place offset bounds) ≤ 8
  unfolding forced_round tally
  forced-few =
      let test : ℕ → Bool = λ d. not (eqb d 4) && is_forced kind pieces rows cols tiles count (neighbour place d) offset bounds in
      let four : tally 4 test ≤ 4 = tally-le test 4 in
      let long : length (those 9 test (λ d. forced_there kind pieces rows cols tiles count (neighbour place d) offset)) ≡ tally 9 test =
      length-those 9 test (λ d. forced_there kind pieces rows cols tiles count (neighbour place d) offset) in
      omega (arith, four, long, at_most (test 5), at_most (test 6), at_most (test 7), at_most (test 8))
    where
      at_most : (b : Bool) → pick b 1 0 ≤ 1
      at_most true = omega arith
      at_most false = omega arith
