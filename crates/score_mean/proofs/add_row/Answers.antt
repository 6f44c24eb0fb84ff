-- `score_mean::add_row` meets its contract. The loop's invariant: the sum so far is that of the row's cells passed. Assumes nothing.
use mathlib.Core.Path.{◌≡◌, sym, ap, ◌∙◌}
use Prim.Native.Nat.{ℕ, ◌-◌, ◌≤◌}
use mathlib.Core.List.{List}
use lib.Ieee.{Float, binary64, add}
use native.Mathlib.Omega.{arith}
use lib.Dec.{leb}
use borrow.Author.Tests.{le-leb}
use Rattle.base.specs.Tables.{those, fold}
use Rattle.base.proofs.Tabled.{those-next, fold-last}
use Rattle.rules.specs.Scores.{plus_term}
use Rattle.score_mean.specs.Box.{term_of, place_in, box_row}
use Rattle.score_mean.proofs.Box.{row-none}
use Rattle.score_mean.proofs.add_row.Goals as goal

pub loop-j-init : goal.loop-j-init
unfolding fold
loop-j-init g c =
    let a = c.args in
    sym
    (ap (λ (l : List ℕ). fold (plus_term (term_of g.T.Term.of a.counts.now a.tiles)) a.sum l)
    (ap (λ (n : ℕ). those n (leb (2 - a.c)) (place_in a.cols a.r a.c a.i)) c.missing-j.ensures ∙ row-none a.cols a.r a.c _))

pub loop-j-preserved : goal.loop-j-preserved
loop-j-preserved g c =
    let a = c.args in
    let l = c.loop-j in
    let P = plus_term (term_of g.T.Term.of a.counts.now a.tiles) in
    let G = place_in a.cols a.r a.c a.i in
    let here = leb (2 - a.c) in
    let low : 2 - a.c ≤ l.j = omega arith in
    ap (λ (x : Float). add binary64 l.total x) c.term_at-total.ensures
    ∙ ap (λ (x : Float). P x (G l.j)) l.invariant
    ∙ sym (fold-last P a.sum (those l.j here G) (G l.j))
    ∙ ap (λ (m : List ℕ). fold P a.sum m) (sym (those-next l.j here G (le-leb _ _ low)))

pub returns : goal.returns
unfolding box_row
returns g c =
    let a = c.args in
    let e : c.loop-j.j ≡ 3 = omega arith in
    c.loop-j.invariant
    ∙ ap (λ (n : ℕ). fold (plus_term (term_of g.T.Term.of a.counts.now a.tiles)) a.sum (those n (leb (2 - a.c)) (place_in a.cols a.r a.c a.i))) e
