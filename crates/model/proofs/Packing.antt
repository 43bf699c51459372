-- Packed marks.
--     Flags                       a list of marks, 0 or 1
--     length-pack_row, mark_pack_row   a packed row has its bytes, and at each position the list's mark; past the list 0
--     spare_pack_row               its spare bits are zero
--     bytes_pack_row               and each byte fits
--     byte_ext, marks_ext         bytes with equal bits are equal, and so are rows with equal marks
use mathlib.Core.Path.{◌≡◌, refl, sym, ap, ◌∙◌, subst, subst₂}
use mathlib.Core.Logic.{⊎_elim}
use mathlib.Core.List.{List, [], ◌∷◌}
use Prim.Native.Nat.{ℕ, zero, suc, ◌+◌, ◌-◌, ◌*◌, ◌/◌, ◌%◌, ◌^◌, ◌<◌, ◌≤◌}
use native.Mathlib.Nat.{zero-div, pow-succ', div-div-eq-div-mul, not-suc-le-zero, le_of_suc-le-suc}
use native.Mathlib.Omega.{arith}
use lib.ListN.{length, get_or, take, drop, length-take, length-drop}
use lib.Seq.{get_or-take, get_or-drop, ext_get_or}
use Rattle.model.specs.Marks.{mark_bytes, pack_byte, pack_row, mark_at, spare_bits}
use Rattle.model.proofs.Choice.{lt_or_le}

-- bit k of a byte
abbrev pub bit_of : ℕ → ℕ → ℕ
bit_of b k = b / 2 ^ k % 2

half : (f X : ℕ) → f < 2 → (f + 2 * X) / 2 ≡ X
half f X h = omega arith

-- below the lowest bit
pub div_step : (f X k : ℕ) → f < 2 → (f + 2 * X) / 2 ^ suc k ≡ X / 2 ^ k
div_step f X k h =
    ap (λ (m : ℕ). (f + 2 * X) / m) (pow-succ' 2 k)
    ∙ sym (div-div-eq-div-mul (f + 2 * X) 2 (2 ^ k))
    ∙ ap (λ (n : ℕ). n / 2 ^ k) (half f X h)

-- ---- lists of marks
abbrev pub Flags : List ℕ → Type 0
Flags ms = (i : ℕ) → get_or ms i 0 < 2

pub flags_take : (n : ℕ) (ms : List ℕ) → Flags ms → Flags (take n ms)
flags_take zero ms h i = omega arith
flags_take (suc n) [] h i = h i
flags_take (suc n) (m ∷ ms) h zero = h zero
flags_take (suc n) (m ∷ ms) h (suc i) = flags_take n ms (λ j. h (suc j)) i

pub flags_drop : (n : ℕ) (ms : List ℕ) → Flags ms → Flags (drop n ms)
flags_drop n ms h i = rw (get_or-drop n ms i 0) (h (n + i))

-- ---- one byte
pub bit_pack_byte : (l : List ℕ) (k : ℕ) → Flags l → bit_of (pack_byte l) k ≡ get_or l k 0
unfolding pack_byte
bit_pack_byte [] zero h = refl
bit_pack_byte [] (suc k) h = ap (λ (n : ℕ). n % 2) (zero-div (2 ^ suc k))
bit_pack_byte (f ∷ fs) zero h = first f (pack_byte fs) (h zero)
  where
    first : (f X : ℕ) → f < 2 → (f + 2 * X) / 1 % 2 ≡ f
    first f X h = omega arith
bit_pack_byte (f ∷ fs) (suc k) h =
    ap (λ (n : ℕ). n % 2) (div_step f (pack_byte fs) k (h zero)) ∙ bit_pack_byte fs k (λ j. h (suc j))

-- what is past its last mark is zero
above_pack_byte : (l : List ℕ) (k : ℕ) → Flags l → length l ≤ k → pack_byte l / 2 ^ k ≡ 0
unfolding pack_byte
above_pack_byte [] k h g = zero-div (2 ^ k)
above_pack_byte (f ∷ fs) zero h g = absurd (not-suc-le-zero g)
above_pack_byte (f ∷ fs) (suc k) h g =
    div_step f (pack_byte fs) k (h zero) ∙ above_pack_byte fs k (λ j. h (suc j)) (le_of_suc-le-suc g)

pack_byte-lt : (l : List ℕ) → Flags l → pack_byte l < 2 ^ length l
unfolding pack_byte
pack_byte-lt [] h = omega arith
pack_byte-lt (f ∷ fs) h = rw (pow-succ' 2 (length fs)) (omega (arith, pack_byte-lt fs (λ j. h (suc j)), h zero))

-- ---- a row
pub length-pack_row : (n : ℕ) (ms : List ℕ) → length (pack_row n ms) ≡ n
unfolding pack_row
length-pack_row zero ms = refl
length-pack_row (suc n) ms = ap suc (length-pack_row n (drop 8 ms))

-- a position is in the first byte, or 8 past a position of the rest
pub by_byte : (P : ℕ → Type 0) → ((p : ℕ) → p < 8 → P p) → ((q : ℕ) → P (8 + q)) → (p : ℕ) → P p
by_byte P f g p =
    ⊎_elim (λ h. f p h) (λ h. subst P (back p h) (g (p - 8))) (lt_or_le p 8)
  where
    back : (p : ℕ) → 8 ≤ p → 8 + (p - 8) ≡ p
    back p h = omega arith

pub quot_low : (p : ℕ) → p < 8 → p / 8 ≡ 0
quot_low p h = omega arith

pub rest_low : (p : ℕ) → p < 8 → p % 8 ≡ p
rest_low p h = omega arith

pub quot_high : (q : ℕ) → (8 + q) / 8 ≡ suc (q / 8)
quot_high q = omega arith

pub rest_high : (q : ℕ) → (8 + q) % 8 ≡ q % 8
rest_high q = omega arith

none_below : (p : ℕ) → p < 8 * 0 → ⊥
none_below p h = omega arith

pub mark_pack_row : (n : ℕ) (ms : List ℕ) → Flags ms → (p : ℕ) → p < 8 * n → mark_at (pack_row n ms) p ≡ get_or ms p 0
unfolding pack_row
mark_pack_row zero ms h = λ p hp. absurd (none_below p hp)
mark_pack_row (suc n) ms h =
    by_byte (λ (p : ℕ). p < 8 * suc n → mark_at (pack_row (suc n) ms) p ≡ get_or ms p 0)
    (λ p hp _. rw (quot_low p hp, rest_low p hp) (bit_pack_byte (take 8 ms) p (flags_take 8 ms h) ∙ get_or-take 8 ms p 0 hp))
    (λ q hp.
    rw (quot_high q, rest_high q)
    (mark_pack_row n (drop 8 ms) (flags_drop 8 ms h) q (omega arith) ∙ get_or-drop 8 ms q 0))

spare_at : (n : ℕ) (ms : List ℕ) → Flags ms → (w : ℕ) → length ms ≤ w → get_or (pack_row n ms) (w / 8) 0 / 2 ^ (w % 8) ≡ 0
unfolding pack_row
spare_at zero ms h = λ w g. zero-div (2 ^ (w % 8))
spare_at (suc n) ms h =
    by_byte (λ (w : ℕ). length ms ≤ w → get_or (pack_row (suc n) ms) (w / 8) 0 / 2 ^ (w % 8) ≡ 0)
    (λ w hw g.
    rw (quot_low w hw, rest_low w hw) (above_pack_byte (take 8 ms) w (flags_take 8 ms h) (omega (arith, length-take 8 ms))))
    (λ q g. rw (quot_high q, rest_high q) (spare_at n (drop 8 ms) (flags_drop 8 ms h) q (omega (arith, length-drop 8 ms))))

pub spare_pack_row : (w : ℕ) (ms : List ℕ) → Flags ms → length ms ≡ w → spare_bits (pack_row (mark_bytes w) ms) w ≡ 0
spare_pack_row w ms h e = spare_at (mark_bytes w) ms h w (omega arith)

pub bytes_pack_row : (n : ℕ) (ms : List ℕ) → Flags ms → (j : ℕ) → get_or (pack_row n ms) j 0 < 256
unfolding pack_row
bytes_pack_row zero ms h j = omega arith
bytes_pack_row (suc n) ms h zero = byte (take 8 ms) (flags_take 8 ms h) (omega (arith, length-take 8 ms))
  where
    grow : (k m : ℕ) → 2 ^ k ≤ 2 ^ (k + m)
    grow k zero = let e : k + 0 ≡ k = omega arith in rw e (omega arith)
    grow k (suc m) = let e : k + suc m ≡ suc (k + m) = omega arith in rw (e, pow-succ' 2 (k + m)) (omega (arith, grow k m))

    byte : (l : List ℕ) → Flags l → length l ≤ 8 → pack_byte l < 256
    byte l g k =
        let e : length l + (8 - length l) ≡ 8 = omega arith in
        let b : 2 ^ length l ≤ 2 ^ 8 = rw e at (grow (length l) (8 - length l)) in
        omega (arith, pack_byte-lt l g)
bytes_pack_row (suc n) ms h (suc j) = bytes_pack_row n (drop 8 ms) (flags_drop 8 ms h) j

-- ---- a row is its marks
pub byte_ext : (n a b : ℕ) → a < 2 ^ n → b < 2 ^ n → ((k : ℕ) → k < n → bit_of a k ≡ bit_of b k) → a ≡ b
byte_ext zero a b ha hb h = omega arith
byte_ext (suc n) a b ha hb h =
    let ha' : a < 2 * 2 ^ n = rw (pow-succ' 2 n) at ha in
    let hb' : b < 2 * 2 ^ n = rw (pow-succ' 2 n) at hb in
    let z = h zero (omega arith) in
    let half = byte_ext n (a / 2) (b / 2) (omega arith) (omega arith) (λ k l. up a k ∙ h (suc k) (omega arith) ∙ sym (up b k)) in
    ends a b z half
  where
    up : (a k : ℕ) → bit_of (a / 2) k ≡ bit_of a (suc k)
    up a k = ap (λ (n : ℕ). n % 2) (div-div-eq-div-mul a 2 (2 ^ k) ∙ ap (λ (m : ℕ). a / m) (sym (pow-succ' 2 k)))

    ends : (a b : ℕ) → a / 1 % 2 ≡ b / 1 % 2 → a / 2 ≡ b / 2 → a ≡ b
    ends a b z e = omega arith

pub marks_ext : (a b : List ℕ) → length a ≡ length b → ((j : ℕ) → get_or a j 0 < 256) → ((j : ℕ) → get_or b j 0 < 256) → ((p : ℕ) → p < 8 * length a → mark_at a p ≡ mark_at b p) → a ≡ b
marks_ext a b e ha hb h =
    ext_get_or 0 a b e
    (λ j l. byte_ext 8 (get_or a j 0) (get_or b j 0) (ha j) (hb j)
    (λ k m. subst₂ (λ (q r : ℕ). bit_of (get_or a q 0) r ≡ bit_of (get_or b q 0) r) (quot j k m) (rest j k m) (h (8 * j + k) (omega arith))))
  where
    quot : (j k : ℕ) → k < 8 → (8 * j + k) / 8 ≡ j
    quot j k m = omega arith

    rest : (j k : ℕ) → k < 8 → (8 * j + k) % 8 ≡ k
    rest j k m = omega arith
