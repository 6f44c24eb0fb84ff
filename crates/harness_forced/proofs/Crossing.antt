-- Laws of positions that cross as slices: an entry is made of its three elements, and a loop that stores one entry after the other stores
-- them all; an answer of a call on a queue is told by its definition.
-- Assumes nothing.
use Prim.Native.Nat.{ℕ, zero, suc, ◌+◌, ◌*◌, ◌^◌, ◌<◌, ◌≤◌}
use mathlib.Core.Path.{◌≡◌, refl, ◌∙◌, ap, subst}
use mathlib.Core.List.{List}
use native.Mathlib.Numerals.{add-one}
use native.Mathlib.Omega.{arith}
use lib.ListN.{length, get_or, length-set}
use lib.IntN.{ℤ, pos}
use lib.Signed.{mag}
use mir.Syntax.{w32}
use mir.Val.{to_z, of_z}
use Rattle.rules.specs.Forced.{no_position}
use Rattle.rules.specs.declared.ForcedPosition.{ForcedPosition}
use Rattle.places.proofs.Wide.{same}
use Rattle.boundary_slots.specs.Slots.{put, world}
use Rattle.rules.specs.declared.Grown.{Grown}
use Rattle.rules.specs.declared.Taken.{Taken}
use Rattle.boundary.specs.Boundary.{Tells}
use Rattle.harness_forced.specs.Slices.{Slices, Taking, grown_stored, next_stored, entry_at, slices, place_stored, places_stored, colours_stored, stored}

-- ---- what goes in

made : {a b x y : ℤ} {c d : ℕ} → a ≡ x → b ≡ y → c ≡ d
    → ◌≡◌ {A = ForcedPosition} (record { coordinates = world a b; colour = c }) (record { coordinates = world x y; colour = d })
made p q r = rw (p, q, r)

pub entry-is : (cs : List ℤ) (ws : List ℕ) (i : ℕ) (z y : ℤ) {c : ℕ} → mag z < 2 ^ 31 → mag y < 2 ^ 31
    → z ≡ get_or cs (2 * i) (pos 0) → y ≡ get_or cs (2 * i + 1) (pos 0) → c ≡ get_or ws i 0
    → ◌≡◌ {A = ForcedPosition} (record { coordinates = world (to_z w32 (of_z w32 z)) (to_z w32 (of_z w32 y)); colour = c }) (entry_at cs ws i)
unfolding entry_at
entry-is cs ws i z y f g p q r = made (same {z = z} f ∙ p) (same {z = y} g ∙ q) r

-- ---- what comes back

length-put : {A : Type 0} (l : List A) (i : ℕ) (v : A) → length (put l i v) ≡ length l
unfolding put
length-put l i v = length-set l i v

-- how far a loop that stores entries has come: the first i of them
pub record Storing (es : List ForcedPosition) (i : ℕ) (cs : List ℤ) (ws : List ℕ) (cs' : List ℤ) (ws' : List ℕ) : Type 0 where
  pub places : cs' ≡ places_stored i es cs
  pub colours : ws' ≡ colours_stored i es ws

module _ (es : List ForcedPosition) (cs : List ℤ) (ws : List ℕ) where
  pub none-stored : Storing es 0 cs ws cs ws
  unfolding places_stored colours_stored
  none-stored = record { places = refl; colours = refl }

  pub one-stored : (i : ℕ) {so_far cs' : List ℤ} {up_to_lem ws' : List ℕ} → Storing es i cs ws so_far up_to_lem
      → (cs' ≡ place_stored (get_or es i no_position) i so_far) × (ws' ≡ put up_to_lem i (get_or es i no_position).colour) → Storing es (i + 1) cs ws cs' ws'
  unfolding places_stored colours_stored
  one-stored i p q = record {
    places = rw add-one (q.0 ∙ ap (place_stored (get_or es i no_position) i) p.places);
    colours = rw add-one (q.1 ∙ ap (λ (l : List ℕ). put l i (get_or es i no_position).colour) p.colours);
  }

  places-long : (i : ℕ) → length (places_stored i es cs) ≡ length cs
  unfolding places_stored
  places-long zero = refl
  places-long (suc i) =
      let e = get_or es i no_position in
      let l = places_stored i es cs in
      length-put (put l (2 * i) e.coordinates.0) (2 * i + 1) e.coordinates.1 ∙ length-put l (2 * i) e.coordinates.0 ∙ places-long i

  colours-long : (i : ℕ) → length (colours_stored i es ws) ≡ length ws
  unfolding colours_stored
  colours-long zero = refl
  colours-long (suc i) = length-put (colours_stored i es ws) i (get_or es i no_position).colour ∙ colours-long i

  pub keeps-places : (i : ℕ) {cs' : List ℤ} {ws' : List ℕ} → Storing es i cs ws cs' ws' → length cs' ≡ length cs
  keeps-places i p = ap length p.places ∙ places-long i

  pub keeps-colours : (i : ℕ) {cs' : List ℤ} {ws' : List ℕ} → Storing es i cs ws cs' ws' → length ws' ≡ length ws
  keeps-colours i p = ap length p.colours ∙ colours-long i

  -- all of them, and the length
  pub all-stored : (room i n : ℕ) (ls : List ℕ) {cs' : List ℤ} {ws' ls' : List ℕ} → i ≤ room → room ≤ i → Storing es i cs ws cs' ws'
      → ls' ≡ put ls 0 n → slices cs' ws' ls' ≡ stored room es n (slices cs ws ls)
  unfolding stored
  all-stored room i n ls h k p r = let e : room ≡ i = omega arith in rw (e, p.places, p.colours, r)

-- the same call of equal places, offsets and boxes
pub alike : {W O B A : Type 0} (f : W → O → B → A) {w v : W} {o p : O} {b c : B} → w ≡ v → o ≡ p → b ≡ c → f w o b ≡ f v p c
alike f e d g = rw (e, d, g)

-- what is told of a queue's answer is told of the definition that it equals
pub grown-on : {g h : Grown} (held after : Slices) (r : ℕ) → g ≡ h → Tells (grown_stored g.queue) g.answer held r after
    → Tells (grown_stored h.queue) h.answer held r after
grown-on held after r e t = subst (λ (x : Grown). Tells (grown_stored x.queue) x.answer held r after) e t

pub taken-on : {g h : Taken} (held after : Taking) (r : ℕ) → g ≡ h → Tells (next_stored g.queue) g.next held r after
    → Tells (next_stored h.queue) h.next held r after
taken-on held after r e t = subst (λ (x : Taken). Tells (next_stored x.queue) x.next held r after) e t
