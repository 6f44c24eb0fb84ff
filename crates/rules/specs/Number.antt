-- Document 01, "Refusal numbers": the number of each refusal, and the refusal that a number names.
use Rattle.std.specs.Prelude.{ℕ, pred, List, [], ◌∷◌, get_or}
use Rattle.rules.specs.declared.Refusal.{Refusal}
use Rattle.rules.specs.declared.Refusal.TheVariants as Refusal·

abbrev pub number : Refusal → ℕ
number Refusal·.Shape = 1
number Refusal·.Length = 2
number Refusal·.Count = 3
number Refusal·.Cell = 4
number Refusal·.Number = 5
number Refusal·.Place = 6
number Refusal·.Type = 7
number Refusal·.Taken = 8
number Refusal·.Bare = 9
number Refusal·.Room = 10

-- in the order of their numbers, which begin with 1
abbrev pub refusals : List Refusal
refusals = Refusal·.Shape ∷ Refusal·.Length ∷ Refusal·.Count ∷ Refusal·.Cell ∷ Refusal·.Number ∷ Refusal·.Place ∷ Refusal·.Type ∷ Refusal·.Taken ∷ Refusal·.Bare ∷ Refusal·.Room ∷ []

-- checks name no number above 10; for one the last stands
abbrev pub reason : ℕ → Refusal
reason n = get_or refusals (pred n) Refusal·.Room
