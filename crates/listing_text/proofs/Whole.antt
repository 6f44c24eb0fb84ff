-- No output is cut off: what the program prints for any input has at most 65,536 bytes. A step has three numbers at the least and prints a
-- line; each plane keeps its length through all steps.
-- Assumes nothing.
use Prim.Native.Nat.{ℕ, zero, suc, ◌+◌, ◌*◌, ◌≤◌}
use mathlib.Core.Path.{◌≡◌, refl, sym, ◌∙◌, ap}
use mathlib.Core.Bool.{true}
use mathlib.Core.List.{List, [], ◌∷◌, ◌++◌}
use native.Mathlib.Omega.{arith}
use lib.Dec.{leb}
use lib.ListN.{length, take, drop, length-append, length-set, length-drop}
use lib.Seq.{take_at}
use Rattle.base.specs.Tables.{fold}
use Rattle.base.specs.Refusal.{refusal, unless_refused}
use Rattle.base.proofs.Bools.{and_left, and_right, by-test}
use Rattle.base.proofs.Tabled.{length-tab}
use Rattle.rules.specs.Bounds.{bare}
use Rattle.rules.specs.Forced.{dead_end}
use Rattle.rules.specs.Board.{Panel, Board, raised, lowered, recounted, laid, lifted, fresh_board, lay_checks, after_lay, lift_checks, after_lift}
use Rattle.rules.specs.declared.Cell.{Cell}
use Rattle.listing_numbers.specs.Decimals.{Text, bad, numbers}
use Rattle.listing_numbers.specs.Input.{input_text}
use Rattle.listing_job.specs.Form.{Step, lay, lift, Steps, misformed, steps, steps_in, list_of, is_whole, max_board, sides_up_to, sample_cells, tail_fits, is_formed, setup_of, step_numbers}
use Rattle.listing_job.specs.declared.Setup.{Setup}
use Rattle.listing_numbers.proofs.Meaning.{input-few}
use Rattle.listing_job.proofs.Meaning.{spelled, steps-are}
use Rattle.listing_job.proofs.Forming.{formed-tail}
use Rattle.listing_lines.specs.Lines.{number_line}
use Rattle.listing_lines.specs.Pages.{Prints}
use Rattle.listing_lines.proofs.Texts.{decimal-length, line-length, plane-length}
use Rattle.listing_lines.proofs.Written.{writes-all}
use Rattle.listing_steps.specs.Steps.{answer_to, board_past, answers_text, board_in}
use Rattle.listing_end.specs.Ending.{refused_line, planes_text, dead_end_text, scan_text, end_text, panel_with}
use Rattle.listing_text.specs.Printed.{run_text, fresh_for, unless_number, setup_refusal, tiles_of, job_text, numbers_text, text_for, printed}
use Rattle.listing_text.proofs.Telling.{board-few}
use Rattle.std.specs.Prelude.{Option, Some, None, Ok, Err}
use Rattle.rules.specs.Answers.{Answer, number}

-- ---- planes keep their lengths
pub record Sized (n : ℕ) (b : Board) : Type 0 where
  pub pieces : length b.pieces ≡ n
  pub weights : length b.weights ≡ n
  pub counts : length b.counts ≡ n

-- what is left of a board is the new one or the old one
either : (P : Board → Type 0) (n : ℕ) (new old : Board) → P new → P old → P (unless_refused n new old)
either P zero new old p q = p
either P (suc n) new old p q = q

step-sized : (j : Panel) (count n : ℕ) (b : Board) (s : Step) → Sized n b → Sized n (board_past j count b s)
unfolding board_past after_lay after_lift laid lifted raised lowered recounted
step-sized j count n b (lay row col colour) h =
    either (Sized n) (refusal (lay_checks j count b _ colour)) _ b
    (record { pieces = length-set b.pieces _ (colour + 1) ∙ h.pieces; weights = length-tab (length b.weights) _ ∙ h.weights; counts = length-tab (length b.counts) _ ∙ h.counts })
    h
step-sized j count n b (lift row col) h =
    either (Sized n) (refusal (lift_checks j count b _)) _ b
    (record { pieces = length-set b.pieces _ bare ∙ h.pieces; weights = length-tab (length b.weights) _ ∙ h.weights; counts = length-tab (length b.counts) _ ∙ h.counts })
    h

run-sized : (j : Panel) (count n : ℕ) (b : Board) (l : List Step) → Sized n b → Sized n (board_in j count b l)
unfolding board_in fold
run-sized j count n b [] h = h
run-sized j count n b (s ∷ l) h = run-sized j count n (board_past j count b s) l (step-sized j count n b s h)

pub fresh-sized : (j : Panel) → Sized (j.rows * j.cols) (fresh_for j)
unfolding fresh_for fresh_board
fresh-sized j =
    record { pieces = length-tab (j.rows * j.cols) _; weights = length-tab (j.rows * j.cols) _; counts = length-tab (j.rows * j.cols) _ }

-- ---- steps and their lines
spelled-length : (l : List Step) → length l * 3 ≤ length (spelled l)
unfolding spelled
spelled-length [] = omega arith
spelled-length (lay row col colour ∷ l) = omega (arith, spelled-length l)
spelled-length (lift row col ∷ l) = omega (arith, spelled-length l)

steps-few : (ns : List ℕ) → length (list_of (steps_in ns)) * 3 ≤ length ns
steps-few ns = go (steps_in ns) refl
  where
    go : (x : Steps) → steps_in ns ≡ x → length (list_of x) * 3 ≤ length ns
    go misformed e = omega arith
    go (steps l) e = omega (arith, spelled-length l, ap length (steps-are ns l e))

answers-length : (j : Panel) (count : ℕ) (b : Board) (l : List Step) → length (answers_text j count b l) ≤ length l * 11
unfolding answers_text
answers-length j count b [] = omega arith
answers-length j count b (s ∷ l) =
    omega (arith, length-append (number_line (answer_to j count b s)) (answers_text j count (board_past j count b s) l), line-length (answer_to j count b s), answers-length j count (board_past j count b s) l)

-- ---- the planes and the scan
refused-length : (n : ℕ) → length (refused_line n) ≤ 19
unfolding refused_line
refused-length n = simp length-append (omega (arith, line-length n))

dead-end-length : (cell : Cell) → length (dead_end_text cell) ≤ 31
unfolding dead_end_text
dead-end-length cell = simp length-append (omega (arith, decimal-length cell.0, line-length cell.1))

scan-length : (d : Answer (Option Cell)) → length (scan_text d) ≤ 31
unfolding scan_text
scan-length (Ok (Some cell)) = dead-end-length cell
scan-length (Ok None) = omega arith
scan-length (Err r) = omega (arith, refused-length (number r))

planes-length : (n : ℕ) (b : Board) (cols : ℕ) → Sized n b → length (planes_text b cols) ≤ 20 + n * 33
unfolding planes_text
planes-length n b cols h =
    simp length-append
    (omega (arith, plane-length bare b.pieces cols, plane-length 0 b.weights cols, plane-length 0 b.counts cols, h.pieces, h.weights, h.counts))

run_length : (j : Panel) (count n : ℕ) (b : Board) (l : List Step) → Sized n b → length (run_text j count b l) ≤ length l * 11 + (51 + n * 33)
unfolding run_text end_text
run_length j count n b l h =
    let c : Board = board_in j count b l in
    let d : Answer (Option Cell) = dead_end j.kind c.pieces c.weights j.rows j.cols j.tiles count in
    omega (
      arith,
      length-append (answers_text j count b l) (planes_text c j.cols ++ scan_text d),
      length-append (planes_text c j.cols) (scan_text d),
      answers-length j count b l,
      planes-length n c j.cols (run-sized j count n b l h),
      scan-length d,
    )

-- ---- the whole
formed-board : (ns : List ℕ) → is_formed ns ≡ true → sides_up_to max_board (setup_of ns).board.rows (setup_of ns).board.cols ≡ true
unfolding setup_of tail_fits
formed-board ns t =
    and_left (sides_up_to max_board _ _) (is_whole (steps_in (drop (sample_cells ns + 7) ns)))
    (and_right (leb (sample_cells ns + 7) (length ns)) _ (formed-tail ns t))

job-length : (ns : List ℕ) (s : Setup) → length ns ≤ 8192 → sides_up_to max_board s.board.rows s.board.cols ≡ true → length (job_text ns s) ≤ 65536
unfolding job_text panel_with step_numbers
job-length ns s h t = go (setup_refusal ns s)
  where
    j : Panel
    j = panel_with s (tiles_of ns s)

    rest : List ℕ
    rest = drop (sample_cells ns + 7) ns

    few : j.rows * j.cols ≤ 1024
    few = board-few s.board.rows s.board.cols t

    go : (n : ℕ) → length (unless_number n (run_text j s.count (fresh_for j) (list_of (steps_in rest)))) ≤ 65536
    go zero =
        omega (
          arith,
          run_length j s.count (j.rows * j.cols) (fresh_for j) (list_of (steps_in rest)) (fresh-sized j),
          steps-few rest,
          length-drop (sample_cells ns + 7) ns,
          few,
        )
    go (suc n) = omega (arith, refused-length (suc n))

numbers-length : (ns : List ℕ) → length ns ≤ 8192 → length (numbers_text ns) ≤ 65536
unfolding numbers_text
numbers-length ns h =
    by-test (is_formed ns) (λ t. rw t (job-length ns (setup_of ns) h (formed-board ns t))) (λ t. rw t (omega arith))

pub printed-length : (input : List ℕ) → length (printed input) ≤ 65536
unfolding printed
printed-length input = go (input_text input) refl
  where
    go : (x : Text) → input_text input ≡ x → length (text_for x) ≤ 65536
    go bad e = omega arith
    go (numbers ns) e = numbers-length ns (input-few input ns e)

-- so a buffer of that length starts with the whole of it
pub printed-whole : (input d : List ℕ) (r : ℕ) (x : List ℕ) → length d ≡ 65536 → Prints (printed input) 0 d r x → take r x ≡ printed input
printed-whole input d r x e w =
    let q = writes-all (printed input) d r x w (omega (arith, printed-length input)) in
    ap (take r) q.1 ∙ take_at (printed input) (drop (length (printed input)) d) r (sym q.0)
