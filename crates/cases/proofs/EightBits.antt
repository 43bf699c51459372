-- Eight-bit rows under document 02, card 12: samples between two columns are those of card 2 with 255 for the greatest sample, unless that cut them
-- down to 255. Every other sample is a column's own, which is read as it stands.
--     eight_read    a column's own sample
--     eight_cut     the filter of card 2 is that of card 12, cut at 255
--     eight_same    so that where the latter is at most 255 they are one
use Prim.Native.Nat.{ℕ, suc, ◌+◌, ◌-◌, ◌≤◌, min}
use mathlib.Core.Path.{◌≡◌, refl}
use mathlib.Core.Bool.{cond}
use mathlib.Core.List.{List, [], ◌∷◌}
use native.Mathlib.Omega.{arith}
use lib.Dec.{eqb}
use Rattle.std.proofs.lemmas.Bool.Decides.{nat_tests}
use lib.IntN.{ℤ, pos, negsuc, ◌+ℤ◌, ◌*ℤ◌}
use lib.Signed.{shr_z}
use lib.ListN.{length, get_or}
use Rattle.model.specs.Row.{sample_in, taps1, taps2, taps3, repeated, weighted, clipped, filtered, mixed}
use Rattle.model.proofs.Totals.{read_same}

-- ---- card 2 as it was: samples as they stand, held to 0 to 255

unfoldable pub weighted8 : List ℤ → List ℕ → ℕ → ℤ
weighted8 [] s i = pos 0
weighted8 (t ∷ ts) s i = t *ℤ pos (get_or s (min (i - 3) (length s - 1)) 0) +ℤ weighted8 ts s (suc i)

abbrev pub clipped8 : ℤ → ℕ
clipped8 (pos n) = min n 255
clipped8 (negsuc n) = 0

abbrev pub filtered8 : List ℤ → List ℕ → ℕ → ℕ
filtered8 taps s c = clipped8 (shr_z (weighted8 taps s c +ℤ pos 32) 64)

unfoldable pub mixed8 : List ℕ → ℕ → ℕ → ℕ
mixed8 s c k =
    cond (eqb k 1) (filtered8 taps1 s c)
    (cond (eqb k 2) (filtered8 taps2 s c)
    (cond (eqb k 3) (filtered8 taps3 s c)
    (cond (eqb k 0) (get_or s c 0) (get_or s (c + 1) 0))))

-- ---- the two

cut : (z : ℤ) → clipped8 z ≡ min (clipped z) 255
cut (pos n) = omega arith
cut (negsuc n) = omega arith

module _ (s : List ℕ) (eight : (i : ℕ) → get_or s i 0 ≤ 255) where
  pub eight_read : (c : ℕ) → sample_in s c ≡ get_or s c 0
  unfolding sample_in
  eight_read c = let h = eight c in read_same (get_or s c 0) (omega arith)

  eight_weighted : (ts : List ℤ) (i : ℕ) → weighted8 ts s i ≡ weighted ts s i
  unfolding weighted8 weighted repeated
  eight_weighted [] i = refl
  eight_weighted (t ∷ ts) i =
      rw (eight_read (min (i - 3) (length s - 1)), eight_weighted ts (suc i))

  eight_filtered : (ts : List ℤ) (c : ℕ) → filtered8 ts s c ≡ min (filtered ts s c) 255
  unfolding filtered
  eight_filtered ts c =
      rw (eight_weighted ts c) (cut (shr_z (weighted ts s c +ℤ pos 32) 64))

  own_cut : (c : ℕ) → get_or s c 0 ≡ min (sample_in s c) 255
  own_cut c = let h = eight c in let e = eight_read c in omega arith

  pub eight_cut : (c k : ℕ) → mixed8 s c k ≡ min (mixed s c k) 255
  unfolding mixed8 mixed
  eight_cut c k =
      grind (arith, nat_tests, eight_filtered taps1 c, eight_filtered taps2 c, eight_filtered taps3 c, own_cut c, own_cut (c + 1))

  pub eight_same : (c k : ℕ) → mixed s c k ≤ 255 → mixed8 s c k ≡ mixed s c k
  eight_same c k h = let e = eight_cut c k in omega arith
