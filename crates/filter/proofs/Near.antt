-- Eight samples decide.
--     near_part, near_each   where eight samples come from: a part of the row, or one by one
--     near_mixed             the filters give the same over the eight samples as over the row
use Prim.Native.Nat.{ℕ, suc, ◌+◌, ◌-◌, ◌<◌, ◌≤◌, min}
use mathlib.Core.Path.{◌≡◌, refl, ap, subst, ◌∙◌}
use mathlib.Core.Logic.{⊎_elim}
use mathlib.Core.List.{List, [], ◌∷◌}
use native.Mathlib.Omega.{arith}
use lib.IntN.{ℤ, pos, ◌+ℤ◌, ◌*ℤ◌}
use lib.Signed.{shr_z}
use lib.ListN.{length, get_or, take, drop, length-take, length-drop}
use lib.Seq.{get_or-take, get_or-drop}
use Rattle.model.specs.Row.{read, sample_in, taps1, taps2, taps3, repeated, weighted, clipped, filtered, mixed}
use Rattle.model.proofs.Choice.{lt_or_le}
use Rattle.model.proofs.Readings.{read_twice}

-- p has the samples of columns c − 3 to c + 4 of a row s, ends repeated
pub record Near (s : List ℕ) (c : ℕ) (p : List ℕ) : Type 0 where
  pub eight : length p ≡ 8
  pub at : (j : ℕ) → j < 8 → sample_in p j ≡ repeated s (c + j)

-- a part of eight entries, where none of them lies past an end
pub near_part : (s : List ℕ) (c : ℕ) → 3 ≤ c → c + 4 < length s → Near s c (take (c + 5 - (c - 3)) (drop (c - 3) s))
unfolding repeated sample_in
near_part s c h g =
    let n : c + 5 - (c - 3) ≡ 8 = omega arith in
    rw n (record {
      eight = simp (length-take, length-drop) (omega arith);
      at = λ j k.
          let e : c - 3 + j ≡ min (c + j - 3) (length s - 1) = omega arith in
          rw (get_or-take, get_or-drop) (ap (λ (i : ℕ). read (get_or s i 0)) e);
    })

-- eight entries that are these samples already
pub near_each : {s p : List ℕ} {c : ℕ} → length p ≡ 8 → ((j : ℕ) → j < 8 → get_or p j 0 ≡ repeated s (c + j)) → Near s c p
unfolding repeated sample_in
near_each e h = record { eight = e; at = λ j k. ap read (h j k) ∙ read_twice _ }

-- k of 1, 2 and 3, one by one
pub by_step : (P : ℕ → Type 0) → P 1 → P 2 → P 3 → (k : ℕ) → 1 ≤ k → k ≤ 3 → P k
by_step P one two three k h g =
    ⊎_elim
    (λ a. let e : 1 ≡ k = omega arith in subst P e one)
    (λ a. ⊎_elim (λ b. let e : 2 ≡ k = omega arith in subst P e two) (λ b. let e : 3 ≡ k = omega arith in subst P e three) (lt_or_le k 3))
    (lt_or_le k 2)

-- a sum depends on no more samples than it has taps
same_weighted : (ts : List ℤ) (s t : List ℕ) (i j : ℕ) → ((n : ℕ) → n < length ts → repeated s (i + n) ≡ repeated t (j + n)) → weighted ts s i ≡ weighted ts t j
unfolding weighted
same_weighted [] s t i j h = refl
same_weighted (x ∷ ts) s t i j h =
    let a : i + 0 ≡ i = omega arith in
    let b : j + 0 ≡ j = omega arith in
    let here : repeated s i ≡ repeated t j = rw (a, b) at (h 0 (omega arith)) in
    ap (λ (y : ℕ). x *ℤ pos y +ℤ weighted ts s (suc i)) here
    ∙ ap (λ (z : ℤ). x *ℤ pos (repeated t j) +ℤ z) (same_weighted ts s t (suc i) (suc j) (λ n k. next n (h (suc n) (omega arith))))
  where
    next : (n : ℕ) → repeated s (i + suc n) ≡ repeated t (j + suc n) → repeated s (suc i + n) ≡ repeated t (suc j + n)
    next n e =
        let a : suc i + n ≡ i + suc n = omega arith in
        let b : suc j + n ≡ j + suc n = omega arith in
        rw (a, b) e

module _ (s : List ℕ) (c : ℕ) (p : List ℕ) (near : Near s c p) where
  near_at : (j : ℕ) → j < 8 → repeated p (3 + j) ≡ repeated s (c + j)
  unfolding repeated
  near_at j h =
      let e : min (3 + j - 3) (length p - 1) ≡ j = omega (arith, near.eight) in
      ap (sample_in p) e ∙ near.at j h

  near_filtered : (ts : List ℤ) → length ts ≡ 8 → filtered ts p 3 ≡ filtered ts s c
  unfolding filtered
  near_filtered ts n =
      ap (λ (z : ℤ). clipped (shr_z (z +ℤ pos 32) 64)) (same_weighted ts p s 3 c (λ j h. near_at j (omega (arith, n))))

  pub near_mixed : (k : ℕ) → 1 ≤ k → k ≤ 3 → mixed p 3 k ≡ mixed s c k
  unfolding mixed taps1 taps2 taps3
  near_mixed = by_step (λ k. mixed p 3 k ≡ mixed s c k) (near_filtered taps1 refl) (near_filtered taps2 refl) (near_filtered taps3 refl)
