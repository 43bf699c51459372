-- The signed sums of model/specs/Row in naturals.
--     filtered_parts                        a filter is what its taps add less what they take away, plus 32, divided by 64 and held
--     eight_first, eight_half, eight_last   so the three filters, over eight samples, are quarter_of, half_of and quarter_of read backwards
use Prim.Native.Nat.{ℕ, suc, ◌+◌, ◌-◌, ◌*◌}
use mathlib.Core.Path.{◌≡◌, refl, sym, ap, ◌∙◌}
use mathlib.Core.Logic.{⊎_elim}
use mathlib.Core.List.{List, [], ◌∷◌}
use native.Mathlib.Omega.{arith}
use lib.IntN.{ℤ, pos, negsuc, neg_ℤ, sub_ℕ, ◌+ℤ◌, ◌*ℤ◌}
use lib.Signed.{shr_z}
use lib.ListN.{length}
use borrow.Author.Tests.{lt-ltb, le-ltb}
use Rattle.model.specs.Row.{sample_in, taps1, taps2, taps3, repeated, weighted, clipped, filtered}
use Rattle.model.proofs.Choice.{lt_or_le}
use Rattle.model.proofs.Signs.{sub_ℕ_same, sub_ℕ_chain, sub_ℕ_swap}
use Rattle.taps.specs.Sums.{scaled, quarter_of, half_of}

-- what a tap adds for a sample, and what it takes away
abbrev adds : ℤ → ℕ → ℕ
adds (pos n) x = n * x
adds (negsuc n) x = 0

abbrev takes : ℤ → ℕ → ℕ
takes (pos n) x = 0
takes (negsuc n) x = suc n * x

unfoldable added : List ℤ → List ℕ → ℕ → ℕ
added [] s i = 0
added (t ∷ ts) s i = adds t (repeated s i) + added ts s (suc i)

unfoldable taken : List ℤ → List ℕ → ℕ → ℕ
taken [] s i = 0
taken (t ∷ ts) s i = takes t (repeated s i) + taken ts s (suc i)

sub_none : (n : ℕ) → pos n ≡ sub_ℕ n 0
sub_none n = let e : n - 0 ≡ n = omega arith in rw (le-ltb n 0 (omega arith), e)

tap_parts : (t : ℤ) (x : ℕ) → t *ℤ pos x ≡ sub_ℕ (adds t x) (takes t x)
tap_parts (pos n) x = sub_none (n * x)
tap_parts (negsuc n) x = ap neg_ℤ (sub_none (suc n * x)) ∙ sub_ℕ_swap (suc n * x) 0

-- differences are added part by part
sub-add : (a b c d : ℕ) → sub_ℕ a b +ℤ sub_ℕ c d ≡ sub_ℕ (a + c) (b + d)
sub-add a b c d =
    ap (λ (z : ℤ). z +ℤ sub_ℕ c d) (sub_ℕ_same a b (a + c) (b + c) (omega arith))
    ∙ ap (λ (z : ℤ). sub_ℕ (a + c) (b + c) +ℤ z) (sub_ℕ_same c d (b + c) (b + d) (omega arith))
    ∙ sub_ℕ_chain (a + c) (b + c) (b + d)

weighted_parts : (ts : List ℤ) (s : List ℕ) (i : ℕ) → weighted ts s i ≡ sub_ℕ (added ts s i) (taken ts s i)
unfolding weighted added taken
weighted_parts [] s i = refl
weighted_parts (t ∷ ts) s i =
    ap (λ (z : ℤ). z +ℤ weighted ts s (suc i)) (tap_parts t (repeated s i))
    ∙ ap (λ (z : ℤ). sub_ℕ (adds t (repeated s i)) (takes t (repeated s i)) +ℤ z) (weighted_parts ts s (suc i))
    ∙ sub-add (adds t (repeated s i)) (takes t (repeated s i)) (added ts s (suc i)) (taken ts s (suc i))

-- below 0 the division rounds down to less than 0, which is held to 0
clipped_sub : (a b : ℕ) → clipped (shr_z (sub_ℕ a b) 64) ≡ scaled a b
unfolding scaled
clipped_sub a b =
    ⊎_elim
    (λ h. let z : a - b ≡ 0 = omega arith in rw (lt-ltb a b h, z))
    (λ h. rw (le-ltb a b h))
    (lt_or_le a b)

filtered_parts : (ts : List ℤ) (s : List ℕ) (c : ℕ) → filtered ts s c ≡ scaled (added ts s c + 32) (taken ts s c)
unfolding filtered
filtered_parts ts s c =
    let z : taken ts s c + 0 ≡ taken ts s c = omega arith in
    ap (λ (x : ℤ). clipped (shr_z (x +ℤ pos 32) 64)) (weighted_parts ts s c)
    ∙ ap (λ (x : ℤ). clipped (shr_z x 64)) (sub-add (added ts s c) (taken ts s c) 32 0)
    ∙ clipped_sub (added ts s c + 32) (taken ts s c + 0)
    ∙ ap (scaled (added ts s c + 32)) z

-- ---- over eight samples

module _ (p : List ℕ) (eight : length p ≡ 8) where
  sums : (ts : List ℤ) (a b : ℕ) → added ts p 3 + 32 ≡ a → taken ts p 3 ≡ b → filtered ts p 3 ≡ scaled a b
  sums ts a b e g = filtered_parts ts p 3 ∙ ap (λ (x : ℕ). scaled x (taken ts p 3)) e ∙ ap (scaled a) g

  pub eight_first : {s0 s1 s2 s3 s4 s5 s6 : ℕ} → s0 ≡ sample_in p 0 → s1 ≡ sample_in p 1 → s2 ≡ sample_in p 2 → s3 ≡ sample_in p 3 → s4 ≡ sample_in p 4 → s5 ≡ sample_in p 5 → s6 ≡ sample_in p 6 → quarter_of s0 s1 s2 s3 s4 s5 s6 ≡ filtered taps1 p 3
  unfolding taps1 added taken repeated quarter_of
  eight_first e0 e1 e2 e3 e4 e5 e6 = rw (e0, e1, e2, e3, e4, e5, e6) (sym (sums taps1 _ _ (rw eight (omega arith)) (rw eight (omega arith))))

  pub eight_half : {s0 s1 s2 s3 s4 s5 s6 s7 : ℕ} → s0 ≡ sample_in p 0 → s1 ≡ sample_in p 1 → s2 ≡ sample_in p 2 → s3 ≡ sample_in p 3 → s4 ≡ sample_in p 4 → s5 ≡ sample_in p 5 → s6 ≡ sample_in p 6 → s7 ≡ sample_in p 7 → half_of s0 s1 s2 s3 s4 s5 s6 s7 ≡ filtered taps2 p 3
  unfolding taps2 added taken repeated half_of
  eight_half e0 e1 e2 e3 e4 e5 e6 e7 = rw (e0, e1, e2, e3, e4, e5, e6, e7) (sym (sums taps2 _ _ (rw eight (omega arith)) (rw eight (omega arith))))

  pub eight_last : {s0 s1 s2 s3 s4 s5 s6 : ℕ} → s0 ≡ sample_in p 7 → s1 ≡ sample_in p 6 → s2 ≡ sample_in p 5 → s3 ≡ sample_in p 4 → s4 ≡ sample_in p 3 → s5 ≡ sample_in p 2 → s6 ≡ sample_in p 1 → quarter_of s0 s1 s2 s3 s4 s5 s6 ≡ filtered taps3 p 3
  unfolding taps3 added taken repeated quarter_of
  eight_last e0 e1 e2 e3 e4 e5 e6 = rw (e0, e1, e2, e3, e4, e5, e6) (sym (sums taps3 _ _ (rw eight (omega arith)) (rw eight (omega arith))))
