-- `score_mean::box_sum` meets its contract. The loop's invariant: the sum so far is that of the rows passed. Assumes nothing.
use mathlib.Core.Path.{◌≡◌, sym, ap, ◌∙◌}
use Prim.Native.Nat.{ℕ}
use mathlib.Core.List.{List}
use native.Mathlib.Omega.{arith}
use lib.Ieee.{Float}
use Rattle.base.specs.Tables.{fold}
use Rattle.base.proofs.Tabled.{fold-append}
use Rattle.rules.specs.Floats.{zero64}
use Rattle.rules.specs.Scores.{plus_term}
use Rattle.score_mean.specs.Box.{term_of, box_row, box_rows}
use Rattle.score_mean.proofs.Box.{rows_none, rows_next}
use Rattle.score_mean.proofs.box_sum.Goals as goal

pub loop-i-init : goal.loop-i-init
unfolding fold
loop-i-init g c =
    let a = c.args in
    sym
    (ap (λ (l : List ℕ). fold (plus_term (term_of g.T.Term.of a.counts.now a.tiles)) zero64 l)
    (ap (λ (n : ℕ). box_rows n a.cols a.r a.c) c.missing-i.ensures ∙ rows_none a.cols a.r a.c))

pub loop-i-preserved : goal.loop-i-preserved
loop-i-preserved g c =
    let a = c.args in
    let l = c.loop-i in
    let P = plus_term (term_of g.T.Term.of a.counts.now a.tiles) in
    let so_far = box_rows l.i a.cols a.r a.c in
    c.add_row-total.ensures
    ∙ ap (λ (x : Float). fold P x (box_row a.cols a.r a.c l.i)) l.invariant
    ∙ sym (fold-append P zero64 so_far (box_row a.cols a.r a.c l.i))
    ∙ ap (λ (m : List ℕ). fold P zero64 m) (sym (rows_next a.cols a.r a.c l.i (omega arith)))

pub returns : goal.returns
returns g c =
    let a = c.args in
    let e : c.loop-i.i ≡ 3 = omega arith in
    c.loop-i.invariant
    ∙ ap (λ (n : ℕ). fold (plus_term (term_of g.T.Term.of a.counts.now a.tiles)) zero64 (box_rows n a.cols a.r a.c)) e
