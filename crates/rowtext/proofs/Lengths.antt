-- The text of a valid row has at most 579 bytes, so that a buffer of more holds every one, and what fills such a buffer is no row.
use Prim.Native.Nat.{ℕ, suc, ◌+◌, ◌*◌, ◌/◌, ◌%◌, ◌<◌, ◌≤◌}
use mathlib.Core.Path.{◌≡◌, ap, ◌∙◌}
use mathlib.Core.Logic.{⊎_elim}
use mathlib.Core.List.{List, [], ◌∷◌, ◌++◌}
use native.Mathlib.Omega.{arith}
use native.Mathlib.Nat.{mul-suc}
use lib.ListN.{length, length-append}
use Rattle.model.proofs.Choice.{lt_or_le}
use Rattle.model.specs.Row.{greatest}
use Rattle.rowtext.specs.Format.{RowText, AtMost, nearest, Valid, digit, space, newline, decimal, spaced, text_line, text_of}
use Rattle.rowtext.proofs.Decimal.{decimal_digit, decimal_ends}

-- the length of a number, by its digits
pub length_1 : (n : ℕ) → n < 10 → length (decimal n) ≡ 1
length_1 n h = ap length (decimal_digit n h)

pub one_more : (n : ℕ) → 10 ≤ n → length (decimal n) ≡ length (decimal (n / 10)) + 1
one_more n h = ap length (decimal_ends n h) ∙ length-append (decimal (n / 10)) (digit (n % 10) ∷ [])

longer : (size n : ℕ) → (10 ≤ n → length (decimal (n / 10)) ≤ size) → length (decimal n) ≤ size + 1
longer size n h =
    ⊎_elim (λ (k : n < 10). omega (arith, length_1 n k)) (λ (k : 10 ≤ n). omega (arith, one_more n k, h k)) (lt_or_le n 10)

pub length_2 : (n : ℕ) → n < 100 → length (decimal n) ≤ 2
length_2 n h = longer 1 n (λ k. omega (arith, length_1 (n / 10) (omega arith)))

pub length_3 : (n : ℕ) → n < 1000 → length (decimal n) ≤ 3
length_3 n h = longer 2 n (λ k. length_2 (n / 10) (omega arith))

pub length_4 : (n : ℕ) → n < 10000 → length (decimal n) ≤ 4
length_4 n h = longer 3 n (λ k. length_3 (n / 10) (omega arith))

pub length_5 : (n : ℕ) → n < 100000 → length (decimal n) ≤ 5
length_5 n h = longer 4 n (λ k. length_4 (n / 10) (omega arith))

-- numbers to `most` with what follows each, where one takes fewer than `size` bytes
module _ (most size : ℕ) (each : (n : ℕ) → n ≤ most → length (decimal n) < size) where
  spaced_length : (n : ℕ) (ns : List ℕ) → AtMost most (n ∷ ns) → length (spaced (n ∷ ns)) + 1 ≤ size * length (n ∷ ns)
  unfolding spaced
  spaced_length n [] h = omega (arith, each n h.0, mul-suc size 0)
  spaced_length n (m ∷ ms) h =
      omega
      (arith, each n h.0, length-append (decimal n) (space ∷ spaced (m ∷ ms)), spaced_length m ms h.1, mul-suc size (suc (length ms)))

  line_length : (ns : List ℕ) → 1 ≤ length ns → AtMost most ns → length (text_line ns) ≤ size * length ns
  unfolding text_line
  line_length [] h r = absurd (omega arith)
  line_length (n ∷ ns) h r = omega (arith, length-append (spaced (n ∷ ns)) (newline ∷ []), spaced_length n ns r)

width_length : (w : ℕ) → w ≤ 64 → length (text_line (w ∷ [])) ≤ 3
unfolding text_line spaced
width_length w h = omega (arith, length-append (decimal w) (newline ∷ []), length_2 w (omega arith))

pub text_length : (r : RowText) → Valid r → length (text_of r) ≤ 579
unfolding text_of
text_length r v =
    let a = width_length r.w v.w_most in
    let b = line_length greatest 5 (λ n h. omega (arith, length_4 n (omega arith))) r.samples (omega arith) v.sample_range in
    let c = line_length nearest 4 (λ n h. omega (arith, length_3 n (omega arith))) r.depths (omega arith) v.depth_range in
    omega
    (arith, length-append (text_line (r.w ∷ [])) (text_line r.samples ++ text_line r.depths), length-append (text_line r.samples) (text_line r.depths))
