-- Laws of the exits: what each way through the program's functions writes is what the definition says, and what the functions beneath ask.
-- Assumes nothing.
use Prim.Native.Nat.{ℕ, zero, suc, ◌+◌, ◌*◌, ◌≤◌}
use mathlib.Core.Path.{◌≡◌, refl, sym, ◌∙◌, ap, subst}
use mathlib.Core.Bool.{Bool, true, false, ◌&&◌}
use mathlib.Core.List.{List, ◌++◌}
use native.Mathlib.Omega.{arith}
use lib.Dec.{leb}
use lib.ListN.{length, get_or, take, drop}
use lib.Seq.{take_at, length-take-le}
use borrow.Author.Tests.{leb-true, le-leb, eq-eqb}
use Rattle.listing_text.specs.Counts.{IsPrefixLen}
use Rattle.base.specs.Counting.{pick, within}
use Rattle.base.specs.Refusal.{refusal}
use Rattle.base.proofs.Bools.{and_left, and_right, and_both, pick_yes, pick_no}
use Rattle.base.proofs.Numbers.{mul-le, within_low, within-high, within-is}
use Rattle.base.proofs.Chain.{Passes, none-fails, has_new}
use Rattle.rules.specs.Tests.{board_sides, has_length, tiles_in, whole_tiles}
use Rattle.rules.specs.Tiles.{extracted, sample_checks}
use Rattle.rules.specs.Board.{Panel, Board, fresh_checks}
use Rattle.rules.specs.Promises.{Freshens, Extracts}
use Rattle.check_sizes.proofs.Sides.{whole-number}
use Rattle.listing_numbers.specs.Decimals.{Text, bad, numbers, parsed_into, over, numbers_stored, Parses}
use Rattle.listing_numbers.specs.Input.{input_text}
use Rattle.listing_job.specs.Form.{Step, steps_in, is_whole, max_sample, max_board, sides_up_to, head_fits, sample_cells, tail_fits, is_formed, setup_of, sample_in, step_numbers, form_of}
use Rattle.std.specs.Prelude.{Option, Some, None, Result, Ok, Err}
use Rattle.listing_numbers.specs.declared.ParseError.{ParseError}
use Rattle.listing_numbers.specs.declared.ParseError.TheVariants as ParseError·
use Rattle.rules.specs.Answers.{number}
use Rattle.rules.specs.declared.Refusal.{Refusal}
use Rattle.listing_job.specs.declared.Setup.{Setup}
use Rattle.listing_job.proofs.Forming.{formed-head, formed-tail, head-sides, sides-up, few-cells}
use Rattle.listing_numbers.proofs.Meaning.{input-few, input-small}
use Rattle.listing_lines.specs.Pages.{end_after, Prints}
use Rattle.listing_lines.proofs.Written.{length-page, writes_then, writes_as}
use Rattle.listing_steps.specs.Steps.{answers_text, board_in}
use Rattle.listing_text.specs.Printed.{bad_line, run_text, fresh_for, fresh_run, unless_number, setup_refusal, tiles_of, job_text, numbers_text, text_for, printed}
use Rattle.listing_end.specs.Ending.{refused_line, end_text}
use Rattle.listing_steps.specs.Walks.{Small, Walks, steps_from, Ran}
use Rattle.listing_text.specs.Runs.{Planes, Formed, clipped}
use Rattle.listing_text.proofs.Setting.{told-refused, told-accepted, told-few, told-tiles, tiles-whole}
use Rattle.rules.specs.Answers.{Answer}

-- ---- a fresh board
has-length : {A : Type 0} (l : List A) (n : ℕ) → length l ≡ n → has_length l n ≡ true
unfolding has_length
has-length l n e = eq-eqb (length l) n e

fresh-passes : (j : Panel) (b : Board) → Planes j b → refusal (fresh_checks j.rows j.cols (tiles_in j.tiles) b) ≡ 0
fresh-passes j b p =
    let cells : ℕ = j.rows * j.cols in
    let sides = p.sides in
    let pieces = has-length b.pieces cells p.pieces in
    let weights = has-length b.weights cells p.weights in
    let counts = has-length b.counts cells p.counts in
    let few = whole-number j.tiles p.tiles in
    let y : Passes (fresh_checks j.rows j.cols (tiles_in j.tiles) b) = search in
    none-fails _ y

pub ran-fresh : {a : Answer Unit} {p r : ℕ} {x y z : List ℕ} {c₀ c : Board} (j : Panel) (count : ℕ) (b : Board) (l : List Step) → Planes j b
    → Freshens j.rows j.cols (tiles_in j.tiles) b a c₀ → Ran j count c₀ l 0 x p c y → Prints (end_text j count c) p y r z
    → Prints (run_text j count (fresh_for j) l) 0 x r z
unfolding run_text fresh_for
ran-fresh j count b l p e w f =
    let q = e.leaves ∙ has_new _ _ b (fresh-passes j b p) in
    writes_as (ap (λ (d : Board). answers_text j count d l ++ end_text j count (board_in j count d l)) q)
    (writes_then w.writes (writes_as (ap (end_text j count) w.leaves) f))

-- ---- what the form gives
pub board-few : (rows cols : ℕ) → sides_up_to max_board rows cols ≡ true → rows * cols ≤ 1024
board-few rows cols t =
    let w = sides-up max_board rows cols t in
    mul-le {a = rows} {b = cols} {m = 32} {n = 32} (within-high 1 max_board rows w.0) (within-high 1 max_board cols w.1)

side-of : (n : ℕ) → within 1 max_board n ≡ true → within 1 64 n ≡ true
side-of n t = within-is 1 64 n (within_low 1 max_board n t) (omega (arith, within-high 1 max_board n t))

pub board-sides : (rows cols : ℕ) → sides_up_to max_board rows cols ≡ true → board_sides rows cols ≡ true
unfolding board_sides
board-sides rows cols t =
    let w = sides-up max_board rows cols t in
    and_both (within 1 64 rows) (within 1 64 cols) (side-of rows w.0) (side-of cols w.1)

module _ (ns : List ℕ) (s : Setup) (f : Formed ns s) where
  cells_is : s.sample.rows * s.sample.cols ≡ sample_cells ns
  unfolding setup_of
  cells_is = ap (λ (q : Setup). q.sample.rows * q.sample.cols) f.is

  head : head_fits ns ≡ true
  head = formed-head ns f.formed

  tail : (leb (sample_cells ns + 7) (length ns) && (sides_up_to max_board (get_or ns (sample_cells ns + 5) 0) (get_or ns (sample_cells ns + 6) 0) && is_whole (steps_in (drop (sample_cells ns + 7) ns)))) ≡ true
  unfolding tail_fits
  tail = formed-tail ns f.formed

  pub cells-few : s.sample.rows * s.sample.cols ≤ 256
  cells-few = rw cells_is (few-cells ns head)

  sample-sides : (within 1 max_sample (get_or ns 0 0) ≡ true) × (within 1 max_sample (get_or ns 1 0) ≡ true)
  sample-sides = sides-up max_sample (get_or ns 0 0) (get_or ns 1 0) (head-sides ns head)

  tall : s.sample.rows ≤ 16
  unfolding setup_of
  tall = rw f.is (within-high 1 max_sample (get_or ns 0 0) sample-sides.0)

  broad : s.sample.cols ≤ 16
  unfolding setup_of
  broad = rw f.is (within-high 1 max_sample (get_or ns 1 0) sample-sides.1)

  pub cells-there : s.sample.rows * s.sample.cols + 7 ≤ length ns
  cells-there =
      rw cells_is (leb-true (sample_cells ns + 7) (length ns) (and_left (leb (sample_cells ns + 7) (length ns)) _ tail))

  long : 5 + s.sample.rows * s.sample.cols ≤ length ns
  long = omega (arith, cells-there)

  tail-rest : (sides_up_to max_board (get_or ns (sample_cells ns + 5) 0) (get_or ns (sample_cells ns + 6) 0) && is_whole (steps_in (drop (sample_cells ns + 7) ns))) ≡ true
  tail-rest = and_right (leb (sample_cells ns + 7) (length ns)) _ tail

  pub board-up : sides_up_to max_board s.board.rows s.board.cols ≡ true
  unfolding setup_of
  board-up = rw f.is (and_left (sides_up_to max_board (get_or ns (sample_cells ns + 5) 0) (get_or ns (sample_cells ns + 6) 0)) _ tail-rest)

  pub walks : Walks ns (s.sample.rows * s.sample.cols + 7)
  walks =
      record {
        within = cells-there;
        whole = rw cells_is (and_right (sides_up_to max_board (get_or ns (sample_cells ns + 5) 0) (get_or ns (sample_cells ns + 6) 0)) (is_whole (steps_in (drop (sample_cells ns + 7) ns))) tail-rest);
        small = f.small;
      }

  -- ---- a job
  module _ (bytes d : List ℕ) (a : Answer ℕ) (x : List ℕ) (are : bytes ≡ clipped ns (s.sample.rows * s.sample.cols)) (room : length d ≡ 14112)
      (g : Extracts bytes s.sample.rows s.sample.cols s.count s.rotations s.reflections d a x) where
    given : Extracts (clipped ns (s.sample.rows * s.sample.cols)) s.sample.rows s.sample.cols s.count s.rotations s.reflections d a x
    given = subst (λ (l : List ℕ). Extracts l s.sample.rows s.sample.cols s.count s.rotations s.reflections d a x) are g

    -- the refusal of the set-up, over the sample as the form counts its cells
    same-setup : refusal (sample_checks (take (s.sample.rows * s.sample.cols) (drop 5 ns)) s.sample.rows s.sample.cols s.count) ≡ setup_refusal ns s
    unfolding sample_in
    same-setup = ap (λ (n : ℕ). refusal (sample_checks (take n (drop 5 ns)) s.sample.rows s.sample.cols s.count)) cells_is

    pub job-refused : (r : Refusal) → a ≡ Err r → refused_line (number r) ≡ job_text ns s
    unfolding job_text
    job-refused r e =
        let w = told-refused ns s.sample.rows s.sample.cols s.count s.rotations s.reflections d tall broad long room a x given r e in
        ap refused_line (sym w.0 ∙ same-setup) ∙ go (setup_refusal ns s) (λ z. w.1 (same-setup ∙ z)) _
      where
        go : (m : ℕ) → (m ≡ 0 → ⊥) → (text : List ℕ) → refused_line m ≡ unless_number m text
        go zero h text = absurd (h refl)
        go (suc m) h text = refl

    module _ (n : ℕ) (e : a ≡ Ok n) where
      pub tiles-few : n * 9 ≤ 14112
      tiles-few = told-few ns s.sample.rows s.sample.cols s.count s.rotations s.reflections d tall broad long room a x given n e

      pub tiles-are : take (n * 9) x ≡ tiles_of ns s
      unfolding tiles_of sample_in
      tiles-are =
          told-tiles ns s.sample.rows s.sample.cols s.count s.rotations s.reflections d tall broad long room a x given n e
          ∙ ap (λ (k : ℕ). extracted (take k (drop 5 ns)) s.sample.rows s.sample.cols s.rotations s.reflections) cells_is

      pub tiles-fine : whole_tiles (take (n * 9) x) ≡ true
      unfolding tiles_of
      tiles-fine =
          ap whole_tiles tiles-are ∙ tiles-whole (sample_in ns) s.sample.rows s.sample.cols s.rotations s.reflections tall broad

      pub job-done : {r : ℕ} {y z : List ℕ}
          → Prints (fresh_run s (take (n * 9) x) (steps_from ns (s.sample.rows * s.sample.cols + 7))) 0 y r z
          → Prints (job_text ns s) 0 y r z
      unfolding job_text step_numbers
      job-done w =
          let q : setup_refusal ns s ≡ 0 =
          sym same-setup ∙ told-accepted ns s.sample.rows s.sample.cols s.count s.rotations s.reflections d tall broad long room a x given n e in
          writes_as
          (ap (λ (t : List ℕ). fresh_run s t (steps_from ns (s.sample.rows * s.sample.cols + 7))) tiles-are
          ∙ ap (λ (k : ℕ). fresh_run s (tiles_of ns s) (steps_from ns (k + 7))) cells_is
          ∙ ap (λ (m : ℕ). unless_number m (fresh_run s (tiles_of ns s) (steps_from ns (sample_cells ns + 7)))) (sym q))
          w

-- ---- numbers
form-cases : (t : Bool) (s r : Setup) → pick t (Some s) None ≡ Some r → (t ≡ true) × (r ≡ s)
form-cases true s r e = (refl, cc)
form-cases false s r e = absurd (let z : ◌≡◌ {A = ℕ} 0 1 = cc in omega arith)

form-other : (t : Bool) (s : Setup) → pick t (Some s) None ≡ None → t ≡ false
form-other true s e = absurd (let z : ◌≡◌ {A = ℕ} 0 1 = cc in omega arith)
form-other false s e = refl

module _ (ns : List ℕ) (a : Option Setup) (is : a ≡ form_of ns) where
  pub form-formed : (s : Setup) → a ≡ Some s → Small ns → Formed ns s
  unfolding form_of
  form-formed s e h = let w = form-cases (is_formed ns) (setup_of ns) s (sym is ∙ e) in record { formed = w.0; is = w.1; small = h }

  pub form-told : (s : Setup) → a ≡ Some s → job_text ns s ≡ numbers_text ns
  unfolding form_of numbers_text
  form-told s e =
      let w = form-cases (is_formed ns) (setup_of ns) s (sym is ∙ e) in
      ap (job_text ns) w.1 ∙ sym (pick_yes (is_formed ns) (job_text ns (setup_of ns)) bad_line w.0)

  pub form-misses : a ≡ None → bad_line ≡ numbers_text ns
  unfolding form_of numbers_text
  form-misses e = sym (pick_no (is_formed ns) (job_text ns (setup_of ns)) bad_line (form-other (is_formed ns) (setup_of ns) (sym is ∙ e)))

-- ---- the input
parsed-numbers : (room : ℕ) (t : Text) (n : ℕ) → parsed_into room t ≡ Ok n → (ns : List ℕ) × (t ≡ numbers ns) × (n ≡ length ns) × (n ≤ room)
parsed-numbers room bad n e = absurd (let z : ◌≡◌ {A = ℕ} 0 1 = cc in omega arith)
parsed-numbers room (numbers ns) n e = go (leb (length ns) room) refl e
  where
    go : (b : Bool) → leb (length ns) room ≡ b → pick b (Ok (length ns)) (Err ParseError·.Full) ≡ Ok n
        → (ms : List ℕ) × (numbers ns ≡ numbers ms) × (n ≡ length ms) × (n ≤ room)
    go true t e = let q : n ≡ length ns = cc in (ns, refl, q, omega (arith, leb-true (length ns) room t))
    go false t e = absurd (let z : ◌≡◌ {A = ℕ} 0 1 = cc in omega arith)

-- where there is room for the numbers of any text that is numbers, only a bad one is not read
parsed-not : (room : ℕ) (t : Text) (err : ParseError) → ((ns : List ℕ) → t ≡ numbers ns → length ns ≤ room) → parsed_into room t ≡ Err err → t ≡ bad
parsed-not room bad err h e = refl
parsed-not room (numbers ns) err h e =
    let q : Ok (length ns) ≡ Err err = sym (pick_yes (leb (length ns) room) (Ok (length ns)) (Err ParseError·.Full) (le-leb (length ns) room (h ns refl))) ∙ e in
    absurd (let z : ◌≡◌ {A = ℕ} 0 1 = cc in omega arith)

module _ (input d : List ℕ) (a : Result ℕ ParseError) (x : List ℕ) (room : length d ≡ 8192) (g : Parses (input_text input) d a x) where
  module _ (n : ℕ) (e : a ≡ Ok n) where
    found : (ns : List ℕ) × (input_text input ≡ numbers ns) × (n ≡ length ns) × (n ≤ length d)
    found = parsed-numbers (length d) (input_text input) n (sym g.answered ∙ e)

    pub input-fits : n ≤ 8192
    input-fits = omega (arith, found.3, room)

    stored : take n x ≡ found.0
    unfolding over
    stored =
        let ns : List ℕ = found.0 in
        let t : leb (length ns) (length d) ≡ true = le-leb (length ns) (length d) (omega (arith, found.2, found.3)) in
        ap (take n) (g.leaves ∙ ap (λ (q : Text). numbers_stored q d) found.1 ∙ pick_yes (leb (length ns) (length d)) (ns ++ drop (length ns) d) d t)
        ∙ take_at ns (drop (length ns) d) n (sym found.2)

    pub input-small-there : Small (take n x)
    input-small-there = subst Small (sym stored) (input-small input found.0 found.1)

    pub input-told : numbers_text (take n x) ≡ printed input
    unfolding printed
    input-told = ap numbers_text stored ∙ sym (ap text_for found.1)

  pub input-not : (err : ParseError) → a ≡ Err err → bad_line ≡ printed input
  unfolding printed
  input-not err e =
      sym (ap text_for (parsed-not (length d) (input_text input) err (λ ns q. omega (arith, room, input-few input ns q)) (sym g.answered ∙ e)))

-- ---- the call
pub writes-counts : (t : List ℕ) (x : List ℕ) (r : ℕ) (y : List ℕ) → Prints t 0 x r y → IsPrefixLen r y × Prints t 0 x r y
unfolding end_after
writes-counts t x r y w =
    let n : length y ≡ length x = ap length w.bytes ∙ length-page t 0 x in
    let h : r ≤ length y = omega (arith, w.end, n) in
    ((h, sym (length-take-le r y h)), w)
