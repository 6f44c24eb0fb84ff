-- Laws of writing: a byte, nothing, two texts one after the other, a text that does not fit; and what stands in the buffer in the end.
-- Assumes nothing.
use Prim.Native.Nat.{ℕ, suc, ◌+◌, ◌<◌, ◌≤◌, min, max}
use mathlib.Core.Path.{◌≡◌, refl, sym, ◌∙◌, ap, subst}
use mathlib.Core.List.{List, [], ◌∷◌, ◌++◌}
use mathlib.Core.Logic.{⊎_elim}
use native.Mathlib.Nat.{add-suc, suc-add}
use native.Mathlib.Omega.{arith}
use lib.ListN.{length, set, drop, length-append}
use lib.Seq.{sets, length-sets, sets-eq, set_out}
use Rattle.base.proofs.Numbers.{lt-or-le}
use Rattle.listing_lines.specs.Pages.{page_with, end_after, Prints}

pub length-page : (t : List ℕ) (at : ℕ) (x : List ℕ) → length (page_with t at x) ≡ length x
unfolding page_with
length-page t at x = length-sets x at t

-- past the end nothing is written
page-out : (t : List ℕ) (at : ℕ) (x : List ℕ) → length x ≤ at → page_with t at x ≡ x
unfolding page_with
page-out [] at x h = refl
page-out (b ∷ t) at x h =
    let e : set x at b ≡ x = set_out x at b h in
    ap (λ (y : List ℕ). sets y (suc at) t) e ∙ page-out t (suc at) x (omega arith)

page-append : (t u : List ℕ) (at : ℕ) (x : List ℕ) → page_with (t ++ u) at x ≡ page_with u (at + length t) (page_with t at x)
unfolding page_with
page-append [] u at x = ap (λ (k : ℕ). sets x k u) (omega arith)
page-append (b ∷ t) u at x =
    page-append t u (suc at) (set x at b)
    ∙ ap (λ (k : ℕ). sets (sets (set x at b) (suc at) t) k u) (suc-add at (length t) ∙ sym (add-suc at (length t)))

-- the end of a text serves as well as the sum: they differ only past the end
page-there : (t u : List ℕ) (at : ℕ) (x : List ℕ) → page_with u (end_after t at x) (page_with t at x) ≡ page_with (t ++ u) at x
unfolding end_after
page-there t u at x =
    ⊎_elim (λ past. out (omega arith) (omega arith)) (λ fits. near fits) (lt-or-le (length x) (at + length t))
    ∙ sym (page-append t u at x)
  where
    y : List ℕ
    y = page_with t at x

    n : length y ≡ length x
    n = length-page t at x

    out : length x ≤ max at (min (at + length t) (length x)) → length x ≤ at + length t
        → page_with u (max at (min (at + length t) (length x))) y ≡ page_with u (at + length t) y
    out h k = page-out u (max at (min (at + length t) (length x))) y (omega (arith, n)) ∙ sym (page-out u (at + length t) y (omega (arith, n)))

    near : at + length t ≤ length x → page_with u (max at (min (at + length t) (length x))) y ≡ page_with u (at + length t) y
    near h = ap (λ (k : ℕ). page_with u k y) (omega arith)

end-there : (t u : List ℕ) (at : ℕ) (x y : List ℕ) → length y ≡ length x → end_after u (end_after t at x) y ≡ end_after (t ++ u) at x
unfolding end_after
end-there t u at x y e = omega (arith, length-append t u)

-- ---- a call that writes
pub writes_byte : (b at : ℕ) (x : List ℕ) → at < length x → Prints (b ∷ []) at x (at + 1) (set x at b)
unfolding page_with end_after
writes_byte b at x h = record { end = omega arith; bytes = refl }

pub writes-full : (t : List ℕ) (at : ℕ) (x : List ℕ) → length x ≤ at → Prints t at x at x
unfolding end_after
writes-full t at x h = record { end = omega arith; bytes = sym (page-out t at x h) }

pub writes-none : (at : ℕ) (x : List ℕ) → Prints [] at x at x
unfolding page_with end_after
writes-none at x = record { end = omega arith; bytes = refl }

pub writes_then : {t u : List ℕ} {at r s : ℕ} {x y z : List ℕ} → Prints t at x r y → Prints u r y s z → Prints (t ++ u) at x s z
writes_then {t} {u} {at} {r} {s} {x} {y} {z} f g =
    record {
      end = g.end ∙ ap (λ (k : ℕ). end_after u k y) f.end ∙ end-there t u at x y (ap length f.bytes ∙ length-page t at x);
      bytes = g.bytes ∙ ap (λ (k : ℕ). page_with u k y) f.end ∙ ap (page_with u (end_after t at x)) f.bytes ∙ page-there t u at x;
    }

-- the same text by another name
pub writes_as : {t u : List ℕ} {at r : ℕ} {x y : List ℕ} → t ≡ u → Prints t at x r y → Prints u at x r y
writes_as {at = at} {r = r} {x = x} {y = y} e f = subst (λ (q : List ℕ). Prints q at x r y) e f

-- ---- what stands there in the end, where there was room
pub writes-all : (t x : List ℕ) (r : ℕ) (y : List ℕ) → Prints t 0 x r y → length t ≤ length x → (r ≡ length t) × (y ≡ t ++ drop (length t) x)
unfolding page_with end_after
writes-all t x r y f h =
    let n : max 0 (min (0 + length t) (length x)) ≡ length t = omega arith in
    let m : 0 + length t ≡ length t = omega arith in
    (f.end ∙ n, f.bytes ∙ sets-eq t x 0 (omega arith) ∙ ap (λ (k : ℕ). t ++ drop k x) m)
