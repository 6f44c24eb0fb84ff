-- The set of a tile's colours, gathered cell by cell. Assumes nothing.
use Prim.Native.Nat.{ℕ, ◌+◌, ◌^◌, ◌<◌, ◌≤◌}
use mathlib.Core.Path.{◌≡◌, sym, ◌∙◌, ap}
use mathlib.Core.Bool.{Bool, false, ◌||◌}
use mathlib.Core.List.{List}
use lib.Dec.{eqb}
use lib.ListN.{get_or}
use Rattle.base.specs.Counting.{some}
use Rattle.base.proofs.Counted.{some-none, some_more}
use Rattle.rules.specs.Sets.{has, bits_of}
use Rattle.bitset_colours.proofs.Digits.{bits-lt, bits-ext, bits-has, none_is}

-- the colours of the first k cells
abbrev pub colours_to : List ℕ → ℕ → ℕ → ℕ
colours_to tile count k = bits_of count (λ t. some k (λ j. eqb t (get_or tile j 0)))

pub to_none : (tile : List ℕ) (count : ℕ) → 0 ≡ colours_to tile count 0
to_none tile count = none_is count ∙ bits-ext count (λ t. false) (λ t. some 0 (λ j. eqb t (get_or tile j 0))) (λ t a b. sym (some-none (λ j. eqb t (get_or tile j 0))))

pub to-turn : (tile : List ℕ) (count k bits r : ℕ) → bits ≡ colours_to tile count k → get_or tile k 0 ≤ count
    → ((n : ℕ) → bits < 2 ^ n → get_or tile k 0 ≤ n → r ≡ bits_of n (λ u. has bits u || eqb u (get_or tile k 0))) → r ≡ colours_to tile count (k + 1)
to-turn tile count k bits r e h w =
    w count (rw e (bits-lt count (λ t. some k (λ j. eqb t (get_or tile j 0))))) h
    ∙ bits-ext count (λ u. has bits u || eqb u (get_or tile k 0)) (λ t. some (k + 1) (λ j. eqb t (get_or tile j 0)))
    (λ u a b. ap (λ (x : ℕ). has x u || eqb u (get_or tile k 0)) e
    ∙ ap (λ (x : Bool). x || eqb u (get_or tile k 0)) (bits-has count (λ t. some k (λ j. eqb t (get_or tile j 0))) u a b)
    ∙ sym (some_more (λ j. eqb u (get_or tile j 0)) k))
