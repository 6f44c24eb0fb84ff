-- Each answer at the boundary: its number (0 where the call is accepted, else document 01's refusal number) and what the slices lent for
-- its values hold then. An entry past the end of a slice is not stored; a refused call stores none. `Tells` is the promise of a function
-- that tells an answer so, by what of an accepted one is stored; `Numbered` that of one that tells the answer of a call which writes, and
-- `NumberedBy` the same in whatever way answers are numbered.
use Rattle.std.specs.Prelude.{ℕ, ◌≡◌, Bool, List, Option, Some, None, Ok, Err}
use Rattle.base.specs.Refusal.{Gives}
use Rattle.boundary_slots.specs.Slots.{put, digit_of}
use Rattle.rules.specs.Answers.{Answer, number_of}
use Rattle.rules.specs.declared.TileBitset.{TileBitset}
use Rattle.rules.specs.declared.Cell.{Cell}
use Rattle.rules.specs.declared.RunEnd.{RunEnd}
use Rattle.rules.specs.declared.RunEnd.TheVariants as RunEnd·
use Rattle.rules.specs.declared.RanOut.{RanOut}
use Rattle.rules.specs.declared.Spans.{Spans}

-- r is the number of the answer of which, and of what the call leaves, its promise holds
pub record NumberedBy {A B : Type 0} (number : A → ℕ) (promise : A → B → Type 0) (r : ℕ) (left : B) : Type 0 where
  pub answer : A
  pub numbers : r ≡ number answer
  pub promised : promise answer left

-- by the number of the refusal
abbrev pub Numbered : {A B : Type 0} → (Answer A → B → Type 0) → ℕ → B → Type 0
Numbered promise = NumberedBy number_of promise

-- what is left of the slices lent for an answer's values
abbrev pub told_left : {A B : Type 0} → (A → B → B) → Answer A → B → B
told_left stored (Ok a) out = stored a out
told_left stored (Err r) out = out

abbrev pub Tells : {A B : Type 0} → (A → B → B) → Answer A → B → ℕ → B → Type 0
Tells stored answer out = Gives (number_of answer) (told_left stored answer out)

-- ---- what is stored of an accepted answer; of an offset, its two numbers (`offset_stored`)

-- a number, a fraction
abbrev pub value_stored : {A : Type 0} → A → List A → List A
value_stored a out = put out 0 a

-- a verdict: 1 or 0
abbrev pub truth_stored : Bool → List ℕ → List ℕ
truth_stored b out = put out 0 (digit_of b)

-- a set: its bits, then its size
abbrev pub set_stored : TileBitset → List ℕ → List ℕ
set_stored s out = put (put out 0 s.bits) 1 s.size

-- a dead end: 1 and its cell, or 0 where there is none
abbrev pub dead_end_stored : Option Cell → List ℕ → List ℕ
dead_end_stored (Some c) out = put (put (put out 0 1) 1 c.0) 2 c.1
dead_end_stored None out = put out 0 0

-- two spans: the start and the end of the rows, then of the columns
abbrev pub spans_stored : Spans → List ℕ → List ℕ
spans_stored s out = put (put (put (put out 0 s.rows.0) 1 s.rows.1) 2 s.cols.0) 3 s.cols.1

-- a forced run: how it ended (0 done, 1 spent, 2 full), how many entries were taken, and how many laid
abbrev pub end_number : RunEnd → ℕ
end_number RunEnd·.Done = 0
end_number RunEnd·.Spent = 1
end_number RunEnd·.Full = 2

abbrev pub run_stored : RanOut → List ℕ → List ℕ
run_stored run out = put (put (put out 0 (end_number run.end)) 1 run.taken) 2 run.laid
