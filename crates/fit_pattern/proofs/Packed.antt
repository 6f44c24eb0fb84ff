-- Cells read as one number: equal exactly if they are equal cell by cell; `+` and `&` go cell by cell. So a window and a tile, each read as
-- one number, compare as the fit test does.
--     packed-ext, packed_lt, packed-mono, packed_join, packed_none    the number of some cells
--     one-is, pair_is, joined    the cells of a list from one on
--     packed-eq, packed-add, packed-times, and-packed    comparison, `+`, `*` and `&`
--     laid-bit, masks-is    the masks of some colours at once
--     masked-fits, bare-cells    the fit test, and the test for a bare window; left_there, ninth-decides the two ways of the first
-- Assumes nothing.
use Prim.Native.Nat.{ℕ, zero, suc, ◌+◌, ◌*◌, ◌/◌, ◌%◌, ◌^◌, ◌<◌, ◌≤◌}
use mathlib.Core.Path.{◌≡◌, refl, sym, ◌∙◌, ap, ap₂, subst}
use mathlib.Core.Bool.{Bool, true, false, ◌&&◌, ◌||◌}
use mathlib.Core.List.{List}
use native.Mathlib.Nat.{mul-le-mul_right, lt-suc_self, le_step, add-suc, add-zero, mul_assoc, mul_comm, zero-mul, add_assoc, add-mul, mod-eq_of_lt}
use native.Mathlib.Omega.{arith}
use borrow.Author.Tests.{eqb-true, eq-eqb, ne_eqb}
use lib.Arith.{digits_lt, digits_div, digits_mod}
use lib.Bits.{bit_and, and_block, and_mask, and_zero_l, and_zero_r, and_lt}
use lib.Dec.{eqb}
use lib.ListN.{get_or}
use lib.Pow.{pow-add}
use Rattle.base.specs.Counting.{pick, every}
use Rattle.base.proofs.Bools.{and_left, and_right, and_both, or_left, by-test, same_test}
use Rattle.base.proofs.Counted.{every-ext}
use Rattle.rules.specs.Fit.{agrees, agrees_at, fits_tile}
use Rattle.fit_pattern.specs.Packed.{cells_from, packed, mask_of}

pub packed-ext : (n : ℕ) (f g : ℕ → ℕ) → ((i : ℕ) → i < n → f i ≡ g i) → packed n f ≡ packed n g
unfolding packed
packed-ext zero f g h = refl
packed-ext (suc n) f g h = rw (h n (lt-suc_self n), packed-ext n f g (λ i l. h i (le_step l)))

power : (n : ℕ) → 256 * 2 ^ (8 * n) ≡ 2 ^ (8 * suc n)
power n = sym (pow-add 2 8 (8 * n)) ∙ ap (λ (k : ℕ). 2 ^ k) (omega arith)

pub packed_lt : (n : ℕ) (f : ℕ → ℕ) → ((i : ℕ) → i < n → f i < 256) → packed n f < 2 ^ (8 * n)
unfolding packed
packed_lt zero f h = omega arith
packed_lt (suc n) f h = subst (λ (p : ℕ). f n * 2 ^ (8 * n) + packed n f < p) (power n) (digits_lt (h n (lt-suc_self n)) (packed_lt n f (λ i l. h i (le_step l))))

pub packed-mono : (n : ℕ) (f g : ℕ → ℕ) → ((i : ℕ) → i < n → f i ≤ g i) → packed n f ≤ packed n g
unfolding packed
packed-mono zero f g h = omega arith
packed-mono (suc n) f g h = omega (arith, mul-le-mul_right (2 ^ (8 * n)) (h n (lt-suc_self n)), packed-mono n f g (λ i l. h i (le_step l)))

pub packed_join : (m n : ℕ) (f : ℕ → ℕ) → packed (m + n) f ≡ packed n (λ i. f (m + i)) * 2 ^ (8 * m) + packed m f
unfolding packed
packed_join m zero f = ap (λ (k : ℕ). packed k f) (add-zero m) ∙ omega arith
packed_join m (suc n) f =
    ap (λ (k : ℕ). packed k f) (add-suc m n)
    ∙ ap₂ (λ (a b : ℕ). f (m + n) * a + b)
    (ap (λ (k : ℕ). 2 ^ k) (let e : 8 * (m + n) ≡ 8 * n + 8 * m = omega arith in e) ∙ pow-add 2 (8 * n) (8 * m))
    (packed_join m n f)
    ∙ gather (f (m + n)) (2 ^ (8 * n)) (2 ^ (8 * m)) (packed n (λ i. f (m + i))) (packed m f)
  where
    gather : (a p q b d : ℕ) → a * (p * q) + (b * q + d) ≡ (a * p + b) * q + d
    gather a p q b d = rw (add-mul (a * p) b q, mul_assoc a p q) (omega arith)

-- the cells of a list from one on, as the code reads them
pub pair_is : (cells : List ℕ) (at : ℕ) → get_or cells (at + 1) 0 * 256 + get_or cells at 0 ≡ packed 2 (cells_from cells at)
unfolding packed
pair_is cells at = let e : get_or cells (at + 0) 0 ≡ get_or cells at 0 = ap (λ (k : ℕ). get_or cells k 0) (add-zero at) in omega arith

pub one-is : (cells : List ℕ) (at : ℕ) → get_or cells at 0 ≡ packed 1 (cells_from cells at)
unfolding packed
one-is cells at = let e : get_or cells (at + 0) 0 ≡ get_or cells at 0 = ap (λ (k : ℕ). get_or cells k 0) (add-zero at) in omega arith

pub joined : (m n : ℕ) (cells : List ℕ) (at : ℕ) {high low : ℕ} → high ≡ packed n (cells_from cells (at + m)) → low ≡ packed m (cells_from cells at)
    → high * 2 ^ (8 * m) + low ≡ packed (m + n) (cells_from cells at)
joined m n cells at p q =
    rw (p, q)
    (ap (λ (x : ℕ). x * 2 ^ (8 * m) + packed m (cells_from cells at)) (packed-ext n _ _ (λ i l. ap (λ (k : ℕ). get_or cells k 0) (add_assoc at m i)))
    ∙ sym (packed_join m n (cells_from cells at)))

pub packed_none : (n : ℕ) → packed n (λ i. 0) ≡ 0
unfolding packed
packed_none zero = refl
packed_none (suc n) = omega (arith, packed_none n)

digit-eq : (p a b r s : ℕ) → r < p → s < p → eqb (a * p + r) (b * p + s) ≡ (eqb r s && eqb a b)
digit-eq p a b r s l m = same_test _ _ from to
  where
    from : eqb (a * p + r) (b * p + s) ≡ true → (eqb r s && eqb a b) ≡ true
    from e =
        let q = eqb-true (a * p + r) (b * p + s) e in
        and_both (eqb r s) (eqb a b)
        (eq-eqb r s (sym (digits_mod a {m = p} {r = r} l) ∙ ap (λ (x : ℕ). x % p) q ∙ digits_mod b {m = p} {r = s} m))
        (eq-eqb a b (sym (digits_div a {m = p} {r = r} l) ∙ ap (λ (x : ℕ). x / p) q ∙ digits_div b {m = p} {r = s} m))

    to : (eqb r s && eqb a b) ≡ true → eqb (a * p + r) (b * p + s) ≡ true
    to e =
        eq-eqb _ _ (ap₂ (λ (x y : ℕ). x * p + y) (eqb-true a b (and_right (eqb r s) (eqb a b) e)) (eqb-true r s (and_left (eqb r s) (eqb a b) e)))

pub packed-eq : (n : ℕ) (f g : ℕ → ℕ) → ((i : ℕ) → i < n → f i < 256) → ((i : ℕ) → i < n → g i < 256)
    → eqb (packed n f) (packed n g) ≡ every n (λ i. eqb (f i) (g i))
unfolding packed every
packed-eq zero f g h k = refl
packed-eq (suc n) f g h k =
    digit-eq (2 ^ (8 * n)) (f n) (g n) (packed n f) (packed n g) (packed_lt n f (λ i l. h i (le_step l))) (packed_lt n g (λ i l. k i (le_step l)))
    ∙ ap (λ (b : Bool). b && eqb (f n) (g n)) (packed-eq n f g (λ i l. h i (le_step l)) (λ i l. k i (le_step l)))

pub and-packed : (n : ℕ) (f g : ℕ → ℕ) → ((i : ℕ) → i < n → f i < 256) → ((i : ℕ) → i < n → g i < 256)
    → bit_and (packed n f) (packed n g) ≡ packed n (λ i. bit_and (f i) (g i))
unfolding packed
and-packed zero f g h k = and_zero_l 0
and-packed (suc n) f g h k =
    and_block (8 * n) (f n) (g n) (packed n f) (packed n g) (packed_lt n f (λ i l. h i (le_step l))) (packed_lt n g (λ i l. k i (le_step l)))
    ∙ ap (λ (x : ℕ). bit_and (f n) (g n) * 2 ^ (8 * n) + x) (and-packed n f g (λ i l. h i (le_step l)) (λ i l. k i (le_step l)))

pub packed-add : (n : ℕ) (f g : ℕ → ℕ) → packed n f + packed n g ≡ packed n (λ i. f i + g i)
unfolding packed
packed-add zero f g = refl
packed-add (suc n) f g = omega (arith, packed-add n f g, add-mul (f n) (g n) (2 ^ (8 * n)))

pub packed-times : (n k : ℕ) (f : ℕ → ℕ) → packed n f * k ≡ packed n (λ i. f i * k)
unfolding packed
packed-times zero k f = zero-mul k
packed-times (suc n) k f = add-mul (f n * 2 ^ (8 * n)) (packed n f) k ∙ ap₂ (λ (a b : ℕ). a + b) (swap (f n) (2 ^ (8 * n)) k) (packed-times n k f)
  where
    swap : (a b c : ℕ) → a * b * c ≡ a * c * b
    swap a b c = mul_assoc a b c ∙ ap (λ (x : ℕ). a * x) (mul_comm b c) ∙ sym (mul_assoc a c b)

mask_lt : (b : Bool) → pick b 0 255 < 256
mask_lt true = omega arith
mask_lt false = omega arith

-- one colour: with 127 added it reaches the highest bit of a byte exactly if it is not 0
pub laid-bit : (colour : ℕ) → colour ≤ 128 → bit_and (colour + 127) 128 ≡ pick (eqb colour 0) 0 1 * 128
laid-bit zero l = refl
laid-bit (suc c) l =
    ap (λ (x : ℕ). bit_and x 128) (let e : suc c + 127 ≡ 1 * 2 ^ 7 + c = omega arith in e)
    ∙ and_block 7 1 1 c 0 (omega arith) (omega arith) ∙ ap (λ (x : ℕ). 128 + x) (and_zero_r c)
    ∙ sym (ap (λ (b : Bool). pick b 0 1 * 128) (ne_eqb (suc c) 0 (λ e. omega arith)))

-- the masks of some colours, as the code makes them
pub masks-is : (n : ℕ) (f : ℕ → ℕ) → ((i : ℕ) → i < n → f i ≤ 128)
    → bit_and (packed n f + packed n (λ i. 127)) (packed n (λ i. 128)) / 128 * 255 ≡ packed n (λ i. mask_of (f i))
masks-is n f h =
    ap (λ (x : ℕ). x / 128 * 255)
    (ap (λ (x : ℕ). bit_and x (packed n (λ i. 128))) (packed-add n f (λ i. 127))
    ∙ and-packed n (λ i. f i + 127) (λ i. 128) (λ i l. omega (arith, h i l)) (λ i l. omega arith)
    ∙ packed-ext n _ _ (λ i l. laid-bit (f i) (h i l))
    ∙ sym (packed-times n 128 (λ i. pick (eqb (f i) 0) 0 1)))
    ∙ ap (λ (x : ℕ). x * 255) (back (packed n (λ i. pick (eqb (f i) 0) 0 1)))
    ∙ packed-times n 255 (λ i. pick (eqb (f i) 0) 0 1)
    ∙ packed-ext n _ _ (λ i l. mask (eqb (f i) 0))
  where
    back : (x : ℕ) → x * 128 / 128 ≡ x
    back x = omega arith

    mask : (b : Bool) → pick b 0 1 * 255 ≡ pick b 0 255
    mask true = refl
    mask false = refl

turn : (a b : ℕ) → eqb a b ≡ eqb b a
turn a b = same_test (eqb a b) (eqb b a) (λ e. eq-eqb b a (sym (eqb-true a b e))) (λ e. eq-eqb a b (sym (eqb-true b a e)))

-- one cell: what its mask leaves of it is the colour shown exactly if they agree
masked : (colour cell : ℕ) → cell < 256 → eqb (bit_and cell (mask_of colour)) colour ≡ agrees colour cell
unfolding agrees
masked colour cell l = by-test (eqb colour 0) bare laid
  where
    bare : eqb colour 0 ≡ true → eqb (bit_and cell (mask_of colour)) colour ≡ (eqb colour 0 || eqb colour cell)
    bare e =
        ap (λ (b : Bool). eqb (bit_and cell (pick b 0 255)) colour) e ∙ ap (λ (x : ℕ). eqb x colour) (and_zero_r cell)
        ∙ eq-eqb 0 colour (sym (eqb-true colour 0 e)) ∙ sym (or_left (eqb colour 0) (eqb colour cell) e)

    laid : eqb colour 0 ≡ false → eqb (bit_and cell (mask_of colour)) colour ≡ (eqb colour 0 || eqb colour cell)
    laid e =
        ap (λ (b : Bool). eqb (bit_and cell (pick b 0 255)) colour) e ∙ ap (λ (x : ℕ). eqb x colour) (and_mask cell 8 ∙ mod-eq_of_lt l)
        ∙ turn cell colour ∙ sym (ap (λ (b : Bool). b || eqb colour cell) e)

-- eight cells in one number, and the ninth
module _ (tiles : List ℕ) (shown : ℕ → ℕ) (n : ℕ) (colours : (i : ℕ) → shown i < 256) (low : (i : ℕ) → get_or tiles i 0 < 256) where
  -- what the masks leave of the tile's first eight cells, and the test of its ninth
  abbrev pub first_left : ℕ
  first_left = bit_and (packed 8 (cells_from tiles (n * 9))) (packed 8 (λ i. mask_of (shown i)))

  abbrev pub ninth : Bool
  ninth = eqb (bit_and (cells_from tiles (n * 9) 8) (mask_of (shown 8))) (shown 8)

  pub masked-fits : (eqb first_left (packed 8 shown) && ninth) ≡ fits_tile tiles shown n
  unfolding fits_tile every
  masked-fits = ap₂ ◌&&◌ eight (at 8)
    where
      at : (i : ℕ) → eqb (bit_and (cells_from tiles (n * 9) i) (mask_of (shown i))) (shown i) ≡ agrees_at tiles shown n i
      at i = masked (shown i) (cells_from tiles (n * 9) i) (low (n * 9 + i))

      eight : eqb first_left (packed 8 shown) ≡ every 8 (agrees_at tiles shown n)
      eight =
          ap (λ (x : ℕ). eqb x (packed 8 shown))
          (and-packed 8 (cells_from tiles (n * 9)) (λ i. mask_of (shown i)) (λ i l. low (n * 9 + i)) (λ i l. mask_lt (eqb (shown i) 0)))
          ∙ packed-eq 8 _ _ (λ i l. and_lt 8 (cells_from tiles (n * 9) i) (mask_of (shown i)) (low (n * 9 + i)) (mask_lt (eqb (shown i) 0))) (λ i l. colours i)
          ∙ every-ext _ _ 8 (λ i l. at i)

  -- a tile that differs within the first eight cells does not fit; where it does not differ there, the ninth decides
  pub left_there : (first_left ≡ packed 8 shown → ⊥) → false ≡ fits_tile tiles shown n
  left_there h = sym (ap (λ (b : Bool). b && ninth) (ne_eqb _ _ h)) ∙ masked-fits

  pub ninth-decides : first_left ≡ packed 8 shown → ninth ≡ fits_tile tiles shown n
  ninth-decides h = sym (ap (λ (b : Bool). b && ninth) (eq-eqb _ _ h)) ∙ masked-fits

-- eight cells and the ninth are all 0
pub bare-cells : (shown : ℕ → ℕ) → ((i : ℕ) → shown i < 256) → (eqb (packed 8 shown) 0 && eqb (shown 8) 0) ≡ every 9 (λ i. eqb (shown i) 0)
unfolding every
bare-cells shown low =
    ap (λ (b : Bool). b && eqb (shown 8) 0)
    (ap (λ (z : ℕ). eqb (packed 8 shown) z) (sym (packed_none 8))
    ∙ packed-eq 8 shown (λ i. 0) (λ i l. low i) (λ i l. omega arith))
