-- Document 01, "Listing program": what it prints, byte by byte, for every input. The steps' answers are in `listing_steps`, what
-- stands under them in `listing_end`.
use Rattle.std.specs.Prelude.{ℕ, zero, suc, ◌*◌, List, [], ◌∷◌, ◌++◌}
use Rattle.base.specs.Counting.{pick}
use Rattle.base.specs.Refusal.{refusal}
use Rattle.rules.specs.Tests.{tiles_in}
use Rattle.rules.specs.Tiles.{sample_checks, extracted}
use Rattle.rules.specs.Board.{Panel, Board, fresh_board}
use Rattle.listing_numbers.specs.Decimals.{Text, bad, numbers}
use Rattle.listing_numbers.specs.Input.{input_text}
use Rattle.listing_job.specs.Form.{Step, is_formed, setup_of, sample_in, step_numbers, steps_in, list_of}
use Rattle.listing_job.specs.declared.Setup.{Setup}
use Rattle.listing_end.specs.Ending.{refused_line, panel_with, end_text}
use Rattle.listing_steps.specs.Steps.{answers_text, board_in}

-- `bad input`, on a line of its own
abbrev pub bad_line : List ℕ
bad_line = 98 ∷ 97 ∷ 100 ∷ 32 ∷ 105 ∷ 110 ∷ 112 ∷ 117 ∷ 116 ∷ 10 ∷ []

-- the job's tiles
unfoldable pub tiles_of : List ℕ → Setup → List ℕ
tiles_of ns s = extracted (sample_in ns) s.sample.rows s.sample.cols s.rotations s.reflections

-- a job's steps on a board, then its planes and the scan
unfoldable pub run_text : Panel → ℕ → Board → List Step → List ℕ
run_text j count b l = answers_text j count b l ++ end_text j count (board_in j count b l)

unfoldable pub fresh_for : Panel → Board
fresh_for j = fresh_board (j.rows * j.cols) (tiles_in j.tiles)

-- what a job prints from a fresh board on, by its set-up and its tiles
abbrev pub fresh_run : Setup → List ℕ → List Step → List ℕ
fresh_run s tiles l = run_text (panel_with s tiles) s.count (fresh_for (panel_with s tiles)) l

-- a refused set-up prints only its refusal
abbrev pub unless_number : ℕ → List ℕ → List ℕ
unless_number zero text = text
unless_number (suc n) text = refused_line (suc n)

abbrev pub setup_refusal : List ℕ → Setup → ℕ
setup_refusal ns s = refusal (sample_checks (sample_in ns) s.sample.rows s.sample.cols s.count)

unfoldable pub job_text : List ℕ → Setup → List ℕ
job_text ns s = unless_number (setup_refusal ns s) (fresh_run s (tiles_of ns s) (list_of (steps_in (step_numbers ns))))

-- Input of another form prints only `bad input`
unfoldable pub numbers_text : List ℕ → List ℕ
numbers_text ns = pick (is_formed ns) (job_text ns (setup_of ns)) bad_line

abbrev pub text_for : Text → List ℕ
text_for bad = bad_line
text_for (numbers ns) = numbers_text ns

unfoldable pub printed : List ℕ → List ℕ
printed input = text_for (input_text input)
