-- Document 01, "Listing program": the numbers in their order. Sample rows, columns, colour count, rotations, reflections (0 or 1),
-- sample cells, board rows, columns, then steps `1 row col colour` or `2 row col`. Sample sides 1..=16, board sides 1..=32.
use Rattle.std.specs.Prelude.{ℕ, zero, suc, ◌+◌, ◌*◌, Bool, true, false, ◌&&◌, List, [], ◌∷◌, Option, Some, None, leb, eqb, length, get_or, take, drop}
use Rattle.base.specs.Counting.{pick, within}
use Rattle.listing_job.specs.declared.Sides.{Sides}
use Rattle.listing_job.specs.declared.Setup.{Setup}

-- ---- steps

pub data Step : Type 0 where
  lay : ℕ → ℕ → ℕ → Step
  lift : ℕ → ℕ → Step

-- numbers are whole steps, or they are of another form
pub data Steps : Type 0 where
  misformed : Steps
  steps : List Step → Steps

abbrev pub and_then : Step → Steps → Steps
and_then s misformed = misformed
and_then s (steps l) = steps (s ∷ l)

unfoldable pub steps_in : List ℕ → Steps
steps_in [] = steps []
steps_in (suc zero ∷ row ∷ col ∷ colour ∷ l) = and_then (lay row col colour) (steps_in l)
steps_in (suc (suc zero) ∷ row ∷ col ∷ l) = and_then (lift row col) (steps_in l)
-- a step that is cut off
steps_in (suc zero ∷ []) = misformed
steps_in (suc zero ∷ row ∷ []) = misformed
steps_in (suc zero ∷ row ∷ col ∷ []) = misformed
steps_in (suc (suc zero) ∷ []) = misformed
steps_in (suc (suc zero) ∷ row ∷ []) = misformed
-- a step that starts with another number
steps_in (zero ∷ l) = misformed
steps_in (suc (suc (suc n)) ∷ l) = misformed

abbrev pub is_whole : Steps → Bool
is_whole misformed = false
is_whole (steps l) = true

abbrev pub list_of : Steps → List Step
list_of misformed = []
list_of (steps l) = l

-- where the step that starts at p ends; past the last number where none starts so
unfoldable pub step_end : List ℕ → ℕ → ℕ
step_end ns p = pick (eqb (get_or ns p 0) 1) (p + 4) (pick (eqb (get_or ns p 0) 2) (p + 3) (length ns + 1))

-- ---- the whole

abbrev pub max_sample : ℕ
max_sample = 16

abbrev pub max_board : ℕ
max_board = 32

unfoldable pub sides_up_to : ℕ → ℕ → ℕ → Bool
sides_up_to most rows cols = within 1 most rows && within 1 most cols

-- the sample's sides, and the options, which are 0 or 1; a colour count out of bounds is a refusal and no matter of form
unfoldable pub head_fits : List ℕ → Bool
head_fits ns = sides_up_to max_sample (get_or ns 0 0) (get_or ns 1 0) && (leb (get_or ns 3 0) 1 && leb (get_or ns 4 0) 1)

abbrev pub sample_cells : List ℕ → ℕ
sample_cells ns = get_or ns 0 0 * get_or ns 1 0

-- all cells of the sample, the board's sides, and steps up to the end
unfoldable pub tail_fits : List ℕ → ℕ → Bool
tail_fits ns cells =
    leb (cells + 7) (length ns)
    && (sides_up_to max_board (get_or ns (cells + 5) 0) (get_or ns (cells + 6) 0) && is_whole (steps_in (drop (cells + 7) ns)))

unfoldable pub is_formed : List ℕ → Bool
is_formed ns = head_fits ns && tail_fits ns (sample_cells ns)

abbrev pub sides_of : ℕ → ℕ → Sides
sides_of rows cols = record { rows = rows; cols = cols }

unfoldable pub setup_of : List ℕ → Setup
setup_of ns =
    record {
      sample = sides_of (get_or ns 0 0) (get_or ns 1 0);
      count = get_or ns 2 0;
      rotations = eqb (get_or ns 3 0) 1;
      reflections = eqb (get_or ns 4 0) 1;
      board = sides_of (get_or ns (sample_cells ns + 5) 0) (get_or ns (sample_cells ns + 6) 0);
    }

unfoldable pub sample_in : List ℕ → List ℕ
sample_in ns = take (sample_cells ns) (drop 5 ns)

unfoldable pub step_numbers : List ℕ → List ℕ
step_numbers ns = drop (sample_cells ns + 7) ns

unfoldable pub form_of : List ℕ → Option Setup
form_of ns = pick (is_formed ns) (Some (setup_of ns)) None
