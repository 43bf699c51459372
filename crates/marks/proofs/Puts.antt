-- Marks set in a packed row.
--     set-pack_row       a mark is set in the packed row as it is in the list
--     put_pack_row       and so is a stretch of marks
--     put_cleared       marks put into a cleared row are the packed row
--     length-put_marks   the row keeps its bytes
--     spare_put_marks    and its spare bits
use Prim.Native.Nat.{ℕ, zero, suc, ◌+◌, ◌*◌, ◌/◌, ◌%◌, ◌^◌, ◌<◌, ◌≤◌}
use mathlib.Core.Path.{◌≡◌, refl, ap, ◌∙◌}
use mathlib.Core.Logic.{⊎_elim}
use mathlib.Core.List.{List, [], ◌∷◌, ◌++◌, append-nil}
use native.Mathlib.Nat.{le-add_right, zero-add}
use native.Mathlib.Omega.{arith}
use lib.ListN.{length, get_or, set, take, drop, length-set, length-take, length-drop, replicate, length-replicate, get_or-eq_default}
use lib.Seq.{get_or-set_same, get_or-set_other, get_or-drop, take-set-lt, drop-set-lt, take-set-le, drop-set-add, paste, paste-zero, paste-suc, length-paste, take-length, drop-length}
use Rattle.model.specs.Marks.{pack_byte, pack_row, spare_bits}
use Rattle.model.proofs.Choice.{lt_or_le}
use Rattle.model.proofs.Packing.{Flags, flags_take, flags_drop, by_byte, quot_low, rest_low, quot_high, rest_high}
use Rattle.marks.specs.Puts.{put_bit, set_mark, put_marks}
use Rattle.marks.proofs.Bits.{put_above, put_pack_byte}

pub length-put_marks : (row : List ℕ) (start : ℕ) (ms : List ℕ) (n : ℕ) → length (put_marks row start ms n) ≡ length row
unfolding put_marks
length-put_marks row start ms zero = refl
length-put_marks row start ms (suc n) = (simp length-set) ∙ length-put_marks row start ms n

-- a mark that is set leaves the bits past position w − 1
spare_set : (row : List ℕ) (w p v : ℕ) → p < w → v < 2 → spare_bits (set_mark row p v) w ≡ spare_bits row w
spare_set row w p v h k =
    ⊎_elim
    (λ u. ap (λ (b : ℕ). b / 2 ^ (w % 8)) (get_or-set_other row (p / 8) (w / 8) _ 0 (λ e. omega arith)))
    (λ u.
    let e : w / 8 ≡ p / 8 = omega arith in
    let less : p % 8 < w % 8 = omega arith in
    ⊎_elim
    (λ l. rw e (ap (λ (b : ℕ). b / 2 ^ (w % 8)) (get_or-set_same row (p / 8) (put_bit (get_or row (p / 8) 0) (p % 8) v) 0 l) ∙ put_above (get_or row (p / 8) 0) (p % 8) (w % 8) v less k))
    (λ l.
    rw (e, get_or-eq_default (set_mark row p v) 0 {n = p / 8} (rw (length-set row (p / 8) (put_bit (get_or row (p / 8) 0) (p % 8) v)) l), get_or-eq_default row 0 {n = p / 8} l))
    (lt_or_le (p / 8) (length row)))
    (lt_or_le (p / 8) (w / 8))

pub spare_put_marks : (row : List ℕ) (w start : ℕ) (ms : List ℕ) → Flags ms → (n : ℕ) → start + n ≤ w → spare_bits (put_marks row start ms n) w ≡ spare_bits row w
unfolding put_marks
spare_put_marks row w start ms h zero k = refl
spare_put_marks row w start ms h (suc n) k =
    spare_set (put_marks row start ms n) w (start + n) (get_or ms n 0) (omega arith) (h n) ∙ spare_put_marks row w start ms h n (omega arith)

pub set-pack_row : (n : ℕ) (ms : List ℕ) (v : ℕ) → Flags ms → (p : ℕ) → p < 8 * n → p < length ms → set_mark (pack_row n ms) p v ≡ pack_row n (set ms p v)
unfolding pack_row
set-pack_row zero ms v h = λ p hp hl. absurd (none p hp)
  where
    none : (p : ℕ) → p < 8 * 0 → ⊥
    none p h = omega arith
set-pack_row (suc n) ms v h =
    by_byte (λ (p : ℕ). p < 8 * suc n → p < length ms → set_mark (pack_row (suc n) ms) p v ≡ pack_row (suc n) (set ms p v))
    (λ p hp _ hl.
    rw (quot_low p hp, rest_low p hp, take-set-lt 8 ms p v hp, drop-set-lt 8 ms p v hp)
    (ap (λ (b : ℕ). b ∷ pack_row n (drop 8 ms))
    (put_pack_byte (take 8 ms) p v (flags_take 8 ms h) (rw (length-take 8 ms) (omega arith)))))
    (λ q hp hl.
    rw (quot_high q, rest_high q, take-set-le 8 ms (8 + q) v (le-add_right 8 q), drop-set-add 8 ms q v)
    (ap (λ (r : List ℕ). pack_byte (take 8 ms) ∷ r)
    (set-pack_row n (drop 8 ms) v (flags_drop 8 ms h) q (omega arith) (rw (length-drop 8 ms) (omega arith)))))

pub flags_append : (xs ys : List ℕ) → Flags xs → Flags ys → Flags (xs ++ ys)
flags_append [] ys h k i = k i
flags_append (x ∷ xs) ys h k zero = h zero
flags_append (x ∷ xs) ys h k (suc i) = flags_append xs ys (λ j. h (suc j)) k i

pub flags_paste : (d : List ℕ) (s : ℕ) (ms : List ℕ) (i : ℕ) → Flags d → Flags ms → Flags (paste d s ms i)
flags_paste d s ms i h k =
    flags_append (take s d ++ take i ms) (drop (s + i) d)
    (flags_append (take s d) (take i ms) (flags_take s d h) (flags_take i ms k)) (flags_drop (s + i) d h)

pub put_pack_row : (n : ℕ) (d : List ℕ) (s : ℕ) (ms : List ℕ) → Flags d → Flags ms → length d ≤ 8 * n → (i : ℕ) → i ≤ length ms → s + i ≤ length d → put_marks (pack_row n d) s ms i ≡ pack_row n (paste d s ms i)
unfolding put_marks
put_pack_row n d s ms h k hn zero hi hs = ap (pack_row n) (paste-zero d s ms)
put_pack_row n d s ms h k hn (suc i) hi hs =
    let at : s + i < length d = omega arith in
    let len : length (paste d s ms i) ≡ length d = length-paste d s ms i (omega arith) (omega arith) in
    rw (put_pack_row n d s ms h k hn i (omega arith) (omega arith))
    (set-pack_row n (paste d s ms i) (get_or ms i 0) (flags_paste d s ms i h k) (s + i) (omega arith) (omega arith)
    ∙ ap (pack_row n) (paste-suc d s ms i 0 at (omega arith)))

-- ---- a cleared row
abbrev Zeros : List ℕ → Type 0
Zeros l = (i : ℕ) → get_or l i 0 ≡ 0

zeros_take : (n : ℕ) (l : List ℕ) → Zeros l → Zeros (take n l)
zeros_take zero l h i = refl
zeros_take (suc n) [] h i = refl
zeros_take (suc n) (x ∷ l) h zero = h zero
zeros_take (suc n) (x ∷ l) h (suc i) = zeros_take n l (λ j. h (suc j)) i

pack_byte_zeros : (l : List ℕ) → Zeros l → pack_byte l ≡ 0
unfolding pack_byte
pack_byte_zeros [] h = refl
pack_byte_zeros (x ∷ l) h = rw (h zero, pack_byte_zeros l (λ j. h (suc j)))

pack_row_zeros : (n : ℕ) (l : List ℕ) → Zeros l → pack_row n l ≡ replicate n 0
unfolding pack_row
pack_row_zeros zero l h = refl
pack_row_zeros (suc n) l h =
    rw (pack_byte_zeros (take 8 l) (zeros_take 8 l h))
    (ap (λ (r : List ℕ). 0 ∷ r) (pack_row_zeros n (drop 8 l) (λ i. get_or-drop 8 l i 0 ∙ h (8 + i))))

zeros_replicate : (n : ℕ) → Zeros (replicate n 0)
zeros_replicate zero i = refl
zeros_replicate (suc n) zero = refl
zeros_replicate (suc n) (suc i) = zeros_replicate n i

pub put_cleared : (n : ℕ) (ms : List ℕ) → Flags ms → length ms ≤ 8 * n → put_marks (replicate n 0) 0 ms (length ms) ≡ pack_row n ms
put_cleared n ms h hn =
    let w = length ms in
    let z = replicate {A = ℕ} w 0 in
    let lz : length z ≡ w = length-replicate w 0 in
    rw (← pack_row_zeros n z (zeros_replicate w))
    (put_pack_row n z 0 ms (λ i. flag_zero w i) h (omega arith) w (omega arith) (omega arith)
    ∙ ap (pack_row n) (whole ms z lz))
  where
    flag_zero : (w i : ℕ) → get_or (replicate {A = ℕ} w 0) i 0 < 2
    flag_zero w i = rw (zeros_replicate w i) (omega arith)

    whole : (ms z : List ℕ) → length z ≡ length ms → paste z 0 ms (length ms) ≡ ms
    whole ms z e = rw (take-length ms, zero-add (length ms), ← e, drop-length z) (append-nil ms)
