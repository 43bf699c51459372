-- Holes counted by the word.
--     joined_more, joined_fits   what the code's arithmetic asks: no byte is shifted out, and eight joined bytes are a word
--     joined_join              bytes are joined in two parts
--     joined_holes             the ones among the first m bits of joined mark bytes are the marks of 1 at m positions
--     word_holes               and those of eight joined bytes at 64
use Prim.Native.Nat.{ℕ, zero, suc, ◌+◌, ◌-◌, ◌*◌, ◌/◌, ◌%◌, ◌^◌, ◌<◌, ◌≤◌}
use mathlib.Core.Path.{◌≡◌, refl, sym, ap, ◌∙◌}
use mathlib.Core.Logic.{⊎_elim}
use mathlib.Core.List.{List}
use native.Mathlib.Nat.{add-zero, add-suc, add_assoc, add-mul, mul_assoc, mod-eq_of_lt, mod-lt, lt_of_lt_of_le, suc-mul, mul-le-mul_right, not-suc-le-zero, le_of_suc-le-suc}
use native.Mathlib.Numerals.{add-one, one-add}
use native.Mathlib.Omega.{arith}
use lib.Count.{ones, ones_cat}
use lib.ListN.{get_or}
use lib.Pow.{pow_pos, pow_mono, pow-add, shl_exact, shr-shr, high, low, mod-pow-add, mod-mod-pow, field}
use Rattle.model.specs.Lists.{sum_to}
use Rattle.model.specs.Marks.{mark_at, row_holes}
use Rattle.model.proofs.Choice.{lt_or_le}
use Rattle.model.proofs.Packing.{bit_of}
use Rattle.words.specs.Words.{joined}

-- a row of bytes
abbrev pub Bytes : List ℕ → Type 0
Bytes row = (i : ℕ) → get_or row i 0 < 256

-- a byte shifted into a word loses nothing
pub shl_byte : (b n : ℕ) → b < 256 → n < 8 → b * 2 ^ (8 * n) % 2 ^ 64 ≡ b * 2 ^ (8 * n)
shl_byte b n hb hn = shl_exact 8 (8 * n) 64 hb (omega arith)

-- the next byte stands above the others
joined_next : (row : List ℕ) (j n : ℕ) → joined row j (suc n) ≡ get_or row (j + n) 0 * 2 ^ (8 * n) + joined row j n
unfolding joined sum_to
joined_next row j n = omega arith

pub joined_join : (row : List ℕ) (j m n : ℕ) → joined row j (m + n) ≡ joined row j m + joined row (j + m) n * 2 ^ (8 * m)
unfolding joined sum_to
joined_join row j m zero = rw (add-zero m) (omega arith)
joined_join row j m (suc n) =
    let e : 8 * (m + n) ≡ 8 * n + 8 * m = omega arith in
    let a = add-mul (joined row (j + m) n) (get_or row (j + m + n) 0 * 2 ^ (8 * n)) (2 ^ (8 * m)) in
    let b = mul_assoc (get_or row (j + m + n) 0) (2 ^ (8 * n)) (2 ^ (8 * m)) in
    rw (add-suc m n, ← add_assoc j m n, e, pow-add 2 (8 * n) (8 * m)) (omega (arith, a, b, joined_join row j m n))

-- n bytes take 8 n bits
joined_lt : (row : List ℕ) → Bytes row → (j n : ℕ) → joined row j n < 2 ^ (8 * n)
unfolding joined sum_to
joined_lt row h j zero = omega arith
joined_lt row h j (suc n) =
    let e : 8 * suc n ≡ 8 + 8 * n = omega arith in
    rw (e, pow-add 2 8 (8 * n)) (above (get_or row (j + n) 0) (joined row j n) (2 ^ (8 * n)) (h (j + n)) (joined_lt row h j n))
  where
    above : (b x p : ℕ) → b < 256 → x < p → x + b * p < 256 * p
    above b x p hb hx = omega (arith, suc-mul b p, mul-le-mul_right p hb)

pub joined_fits : (row : List ℕ) → Bytes row → (j n : ℕ) → n ≤ 8 → joined row j n < 2 ^ 64
joined_fits row h j n l = let e : 8 * n ≤ 64 = omega arith in lt_of_lt_of_le (joined_lt row h j n) (pow_mono e)

-- one more byte is joined, and none of it shifted out
pub joined_more : (row : List ℕ) → Bytes row → (j k v b : ℕ) → k < 8 → v ≡ joined row j k → b ≡ get_or row (j + k) 0 → v + b * 2 ^ (8 * k) % 2 ^ 64 ≡ joined row j (k + 1)
joined_more row h j k v b lt p q =
    rw (p, q, shl_byte (get_or row (j + k) 0) k (h (j + k)) lt, add-one k) (omega (arith, joined_next row j k))

-- bits below those of the last byte
bit_low : (b x k m : ℕ) → x < 2 ^ k → m < k → bit_of (b * 2 ^ k + x) m ≡ bit_of x m
bit_low b x k m hx hm =
    let e : k - suc m + (1 + m) ≡ k = omega arith in
    let cut : (n : ℕ) → n % 2 ^ k % 2 ^ (1 + m) ≡ n % 2 ^ (1 + m) = λ n. rw e at (mod-mod-pow n (k - suc m) (1 + m)) in
    sym (field (b * 2 ^ k + x) 1 m)
    ∙ ap (λ (r : ℕ). r / 2 ^ m) (sym (cut (b * 2 ^ k + x)) ∙ ap (λ (r : ℕ). r % 2 ^ (1 + m)) (low b k hx))
    ∙ field x 1 m

-- bit m of joined bytes is the mark m positions on
bit_joined : (row : List ℕ) → Bytes row → (j n m : ℕ) → m < 8 * n → bit_of (joined row j n) m ≡ mark_at row (8 * j + m)
bit_joined row h j zero m hm = absurd (none m hm)
  where
    none : (m : ℕ) → m < 8 * 0 → ⊥
    none m hm = omega arith
bit_joined row h j (suc n) m hm =
    let b = get_or row (j + n) 0 in
    let x = joined row j n in
    let hx = joined_lt row h j n in
    rw (joined_next row j n)
    (⊎_elim
    (λ (l : m < 8 * n). bit_low b x (8 * n) m hx l ∙ bit_joined row h j n m l)
    (λ (l : 8 * n ≤ m).
    let k = m - 8 * n in
    let e : 8 * n + k ≡ m = omega arith in
    let q : (8 * j + m) / 8 ≡ j + n = omega arith in
    let r : (8 * j + m) % 8 ≡ k = omega arith in
    let s : (b * 2 ^ (8 * n) + x) / 2 ^ (8 * n) / 2 ^ k ≡ (b * 2 ^ (8 * n) + x) / 2 ^ m = rw e at (shr-shr (b * 2 ^ (8 * n) + x) (8 * n) k) in
    rw (q, r, ← s, high b (8 * n) hx) refl)
    (lt_or_le m (8 * n)))

-- a bit counts as itself
one_bit : (b : ℕ) → b < 2 → ones b ≡ b
unfolding ones
one_bit zero h = refl
one_bit (suc zero) h = refl
one_bit (suc (suc b)) h = absurd (not-suc-le-zero (le_of_suc-le-suc (le_of_suc-le-suc h)))

-- one more bit of a number
ones_next : (x m : ℕ) → ones (x % 2 ^ suc m) ≡ ones (x % 2 ^ m) + bit_of x m
ones_next x m =
    let e : x % 2 ^ suc m ≡ bit_of x m * 2 ^ m + x % 2 ^ m = rw (one-add m) at (mod-pow-add x 1 m) in
    let c = ones_cat m (bit_of x m) (x % 2 ^ m) (mod-lt x (pow_pos m)) in
    let d = one_bit (bit_of x m) (mod-lt (x / 2 ^ m) {m = 2} (omega arith)) in
    rw e (omega (arith, c, d))

pub joined_holes : (row : List ℕ) → Bytes row → (j n m : ℕ) → m ≤ 8 * n → row_holes row (8 * j + m) ≡ row_holes row (8 * j) + ones (joined row j n % 2 ^ m)
unfolding row_holes sum_to ones
joined_holes row h j n zero hm = let z : joined row j n % 1 ≡ 0 = omega arith in rw (add-zero (8 * j), z) (omega arith)
joined_holes row h j n (suc m) hm =
    let a = joined_holes row h j n m (omega arith) in
    let b = bit_joined row h j n m (omega arith) in
    let c = ones_next (joined row j n) m in
    rw (add-suc (8 * j) m) (omega (arith, a, b, c))

pub word_holes : (row : List ℕ) → Bytes row → (j : ℕ) → row_holes row (8 * j + 64) ≡ row_holes row (8 * j) + ones (joined row j 8)
word_holes row h j = rw (mod-eq_of_lt (joined_fits row h j 8 (omega arith))) at (joined_holes row h j 8 64 (omega arith))
