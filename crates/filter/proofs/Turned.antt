-- A row read backwards: the taps of k = 3 are those of k = 1 in reverse, and those of k = 2 are the same both ways.
--     weighted_turned   a sum over the samples in reverse is the sum with the taps in reverse
--     mixed_turned      so k quarters from a column to the next there are 4 − k quarters from that next column, in the row as it stands
use Prim.Native.Nat.{ℕ, suc, ◌+◌, ◌-◌, ◌<◌, ◌≤◌, min}
use mathlib.Core.Path.{◌≡◌, refl, sym, ap, ◌∙◌}
use mathlib.Core.Bool.{true}
use mathlib.Core.Logic.{⊎_elim}
use mathlib.Core.List.{List, [], ◌∷◌, ◌++◌, reverse, reverse-cons}
use native.Mathlib.Omega.{arith}
use lib.IntN.{ℤ, pos, ◌+ℤ◌, ◌*ℤ◌, +ℤ_assoc, +ℤ_comm, +ℤ_idl, +ℤ_idr}
use lib.Signed.{shr_z}
use lib.ListN.{length, length-reverse}
use Rattle.model.specs.Row.{sample_in, taps1, taps2, taps3, repeated, weighted, clipped, filtered, mixed}
use Rattle.model.specs.Views.{seen, entry_of}
use Rattle.model.proofs.Choice.{lt_or_le}
use Rattle.model.proofs.Views.{length_seen}
use Rattle.model.proofs.Readings.{sample_in_seen}
use Rattle.filter.proofs.Near.{by_step}

weighted_append : (xs ys : List ℤ) (s : List ℕ) (i : ℕ) → weighted (xs ++ ys) s i ≡ weighted xs s i +ℤ weighted ys s (i + length xs)
unfolding weighted
weighted_append [] ys s i = let e : i + 0 ≡ i = omega arith in rw e (sym (+ℤ_idl (weighted ys s i)))
weighted_append (x ∷ xs) ys s i =
    let e : suc i + length xs ≡ i + suc (length xs) = omega arith in
    ap (λ (z : ℤ). x *ℤ pos (repeated s i) +ℤ z) (weighted_append xs ys s (suc i) ∙ ap (λ (n : ℕ). weighted xs s (suc i) +ℤ weighted ys s n) e)
    ∙ sym (+ℤ_assoc (x *ℤ pos (repeated s i)) (weighted xs s (suc i)) (weighted ys s (i + suc (length xs))))

-- where t has the samples of s in reverse, its sum is that of the taps in reverse
weighted_turned : (ts : List ℤ) (s t : List ℕ) (i k : ℕ) → ((j : ℕ) → j < length ts → repeated s (i + j) ≡ repeated t (k + (length ts - 1 - j))) → weighted ts s i ≡ weighted (reverse ts) t k
unfolding weighted
weighted_turned [] s t i k h = refl
weighted_turned (x ∷ ts) s t i k h =
    ap (λ (y : ℕ). x *ℤ pos y +ℤ weighted ts s (suc i)) here
    ∙ ap (λ (z : ℤ). x *ℤ pos (repeated t (k + length (reverse ts))) +ℤ z) (weighted_turned ts s t (suc i) k (λ j g. next j (h (suc j) (omega arith))))
    ∙ +ℤ_comm (x *ℤ pos (repeated t (k + length (reverse ts)))) (weighted (reverse ts) t k)
    ∙ ap (λ (z : ℤ). weighted (reverse ts) t k +ℤ z) (sym (+ℤ_idr (x *ℤ pos (repeated t (k + length (reverse ts))))))
    ∙ sym (weighted_append (reverse ts) (x ∷ []) t k)
    ∙ ap (λ (l : List ℤ). weighted l t k) (sym (reverse-cons x ts))
  where
    here : repeated s i ≡ repeated t (k + length (reverse ts))
    here =
        let a : i + 0 ≡ i = omega arith in
        let b : k + (suc (length ts) - 1 - 0) ≡ k + length (reverse ts) = omega (arith, length-reverse ts) in
        rw (a, b) at (h 0 (omega arith))

    next : (j : ℕ) → repeated s (i + suc j) ≡ repeated t (k + (suc (length ts) - 1 - suc j)) → repeated s (suc i + j) ≡ repeated t (k + (length ts - 1 - j))
    next j e =
        let a : suc i + j ≡ i + suc j = omega arith in
        let b : k + (length ts - 1 - j) ≡ k + (suc (length ts) - 1 - suc j) = omega arith in
        rw (a, b) e

-- n and m are columns that the two readings have in common, raised by 3: past an end both are held to it
turned_entry : (w n m : ℕ) → 1 ≤ w → n + m ≡ w + 5 → w - 1 - min (n - 3) (w - 1) ≡ min (m - 3) (w - 1)
turned_entry w n m h e =
    ⊎_elim
    (λ a. let p : min (n - 3) (w - 1) ≡ 0 = omega arith in let q : min (m - 3) (w - 1) ≡ w - 1 = omega arith in rw (p, q) (omega arith))
    (λ a. ⊎_elim
    (λ b. let p : min (n - 3) (w - 1) ≡ n - 3 = omega arith in let q : min (m - 3) (w - 1) ≡ m - 3 = omega arith in rw (p, q) (omega arith))
    (λ b. let p : min (n - 3) (w - 1) ≡ w - 1 = omega arith in let q : min (m - 3) (w - 1) ≡ 0 = omega arith in rw (p, q) (omega arith))
    (lt_or_le n (w + 2)))
    (lt_or_le n 3)

module _ (s : List ℕ) (c : ℕ) (inside : c + 1 < length s) where
  abbrev turned : ℕ
  turned = length s - 2 - c

  turned_at : (j : ℕ) → j < 8 → repeated (seen true s) (c + j) ≡ repeated s (turned + (7 - j))
  unfolding repeated entry_of
  turned_at j h =
      rw (length_seen true s)
      (sample_in_seen true s (min (c + j - 3) (length s - 1)) (omega arith)
      ∙ ap (sample_in s) (turned_entry (length s) (c + j) (turned + (7 - j)) (omega arith) (omega arith)))

  -- a filter there is the filter with its taps in reverse here
  filtered_turned : (ts : List ℤ) → length ts ≡ 8 → filtered ts (seen true s) c ≡ filtered (reverse ts) s turned
  unfolding filtered
  filtered_turned ts n =
      ap (λ (z : ℤ). clipped (shr_z (z +ℤ pos 32) 64))
      (weighted_turned ts (seen true s) s c turned (λ j h. rw n (turned_at j (omega (arith, n)))))

  -- and a plain sample the one as far from the other end
  sample_turned : (i j : ℕ) → i + j + 1 ≡ length s → sample_in (seen true s) i ≡ sample_in s j
  unfolding entry_of
  sample_turned i j e =
      let q : length s - 1 - i ≡ j = omega arith in
      sample_in_seen true s i (omega arith) ∙ ap (sample_in s) q

  pub mixed_turned : (k : ℕ) → k ≤ 4 → mixed (seen true s) c k ≡ mixed s turned (4 - k)
  unfolding mixed taps1 taps2 taps3
  mixed_turned k h =
      ⊎_elim
      (λ a. let e : k ≡ 0 = omega arith in rw e (sample_turned c (turned + 1) (omega arith)))
      (λ a. ⊎_elim
      (λ b. by_step (λ k. mixed (seen true s) c k ≡ mixed s turned (4 - k)) (filtered_turned taps1 refl) (filtered_turned taps2 refl) (filtered_turned taps3 refl) k a (omega arith))
      (λ b. let e : k ≡ 4 = omega arith in rw e (sample_turned (c + 1) turned (omega arith)))
      (lt_or_le k 4))
      (lt_or_le k 1)
