-- Document 01, "a set is 32 bits with its size": sets of colours, over any number of bits.
use Rattle.std.specs.Prelude.{ℕ, zero, suc, ◌+◌, ◌-◌, ◌^◌, ◌/◌, ◌%◌, Bool, true, false, ◌&&◌, ◌||◌, List, ◌++◌, ltb, eqb, length, replicate}
use Rattle.base.specs.Counting.{pick}
use Rattle.base.specs.Tables.{those}
use Rattle.base.specs.Refusal.{Checks, ◌unless◌, ◌then◌, refusal}
use Rattle.rules.specs.Bounds.{max_colours, COUNT, CELL}
use Rattle.rules.specs.Tests.{colour_count}
use Rattle.rules.specs.Answers.{Answer, answered}
use Rattle.rules.specs.declared.TileBitset.{TileBitset}
use Rattle.rules.specs.declared.ColourList.{ColourList}

-- colour t is in the set of these bits; 0 is in none
unfoldable pub has : ℕ → ℕ → Bool
has bits zero = false
has bits (suc k) = eqb (bits / 2 ^ k % 2) 1

-- the bits of the set of the colours 1 to n of which f holds
unfoldable pub bits_of : ℕ → (ℕ → Bool) → ℕ
bits_of zero f = 0
bits_of (suc n) f = bits_of n f + pick (f (suc n)) (2 ^ n) 0

abbrev pub set_of : ℕ → (ℕ → Bool) → TileBitset
set_of n f = record { bits = bits_of n f; size = n }

-- the colours 1 to n of which f holds, ascending
unfoldable pub colours_of : ℕ → (ℕ → Bool) → List ℕ
colours_of n f = those n (λ k. f (k + 1)) (λ k. k + 1)

-- COUNT for the size, CELL for a colour marked past it
unfoldable pub marks_within : TileBitset → Bool
marks_within s = ltb s.bits (2 ^ s.size)

abbrev pub set_checks : TileBitset → Checks
set_checks s =
    COUNT unless colour_count s.size
    then CELL unless marks_within s

-- two sets: COUNT for either size and for two that differ, then CELL for either
abbrev pub sets_checks : TileBitset → TileBitset → Checks
sets_checks s u =
    COUNT unless colour_count s.size
    then COUNT unless eqb s.size u.size
    then CELL unless marks_within s
    then CELL unless marks_within u

abbrev pub new_set_checks : ℕ → Checks
new_set_checks n = COUNT unless colour_count n

unfoldable pub empty_set : ℕ → Answer TileBitset
empty_set n = answered (refusal (new_set_checks n)) (set_of n (λ t. false))

unfoldable pub full_set : ℕ → Answer TileBitset
full_set n = answered (refusal (new_set_checks n)) (set_of n (λ t. true))

-- 0 and a colour past the size are left out, as in the text
unfoldable pub inserted : TileBitset → ℕ → Answer TileBitset
inserted s t = answered (refusal (set_checks s)) (set_of s.size (λ u. has s.bits u || eqb u t))

unfoldable pub contained : TileBitset → ℕ → Answer Bool
contained s t = answered (refusal (set_checks s)) (has s.bits t)

unfoldable pub intersected : TileBitset → TileBitset → Answer TileBitset
intersected s u = answered (refusal (sets_checks s u)) (set_of s.size (λ t. has s.bits t && has u.bits t))

abbrev pub members_of : TileBitset → List ℕ
members_of s = colours_of s.size (has s.bits)

unfoldable pub emptiness : TileBitset → Answer Bool
emptiness s = answered (refusal (set_checks s)) (eqb (length (members_of s)) 0)

unfoldable pub members_counted : TileBitset → Answer ℕ
members_counted s = answered (refusal (set_checks s)) (length (members_of s))

-- the members and, in the entries past them, 0
abbrev pub colour_list : List ℕ → ColourList
colour_list l = record { colours = l ++ replicate (max_colours - length l) 0; len = length l }

unfoldable pub members_listed : TileBitset → Answer ColourList
members_listed s = answered (refusal (set_checks s)) (colour_list (members_of s))
