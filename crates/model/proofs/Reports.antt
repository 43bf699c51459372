-- What CHECK's report tells.
--     first-..                 the first place that fails a test
--     report_means             sound: every held entry and the total are the drawing's; a difference: the first by rows; total: only that
use Prim.Native.Nat.{ℕ, zero, suc, ◌+◌, ◌-◌, ◌*◌, ◌/◌, ◌%◌, ◌<◌, ◌≤◌}
use mathlib.Core.Path.{◌≡◌, sym, subst}
use mathlib.Core.Bool.{Bool, true, false}
use mathlib.Core.Logic.{⊎_elim}
use native.Mathlib.Omega.{arith}
use native.Mathlib.Nat.{add-zero, add-suc, not-suc-le-zero, eq-or-lt_of_le, le_of_suc-le-suc, mod-lt, div-lt_iff_lt-mul, div-add-mod', mul_comm}
use borrow.Author.Tests.{lt-ltb, le-ltb, ltb-true, ltb-false, eqb-true, eqb-false}
use lib.Arith.{digits_div, digits_mod}
use lib.Dec.{ltb, eqb}
use Rattle.model.specs.declared.Settings.{Settings}
use Rattle.model.specs.declared.Report.{Report}
use Rattle.model.specs.declared.Report.TheVariants.{Sound, Difference, Total}
use Rattle.model.specs.Planes.{Pictures, Depths, Held, area}
use Rattle.model.specs.Fresh.{fresh, fresh_total}
use Rattle.model.specs.Reports.{same_at, first_bad, first_difference, report_of}
use Rattle.model.proofs.Choice.{bool_cases}

-- ---- the first place that fails a test

module _ (g : ℕ → Bool) where
  -- the test passes at n, and at all before it
  pub first_more : (n : ℕ) → first_bad g n ≡ n → g n ≡ true → first_bad g (suc n) ≡ suc n
  unfolding first_bad
  first_more n e t = let f : ltb (first_bad g n) n ≡ false = le-ltb (first_bad g n) n (omega arith) in rw (f, t)

  first_hit : (n : ℕ) → first_bad g n ≡ n → g n ≡ false → first_bad g (suc n) ≡ n
  unfolding first_bad
  first_hit n e t = let f : ltb (first_bad g n) n ≡ false = le-ltb (first_bad g n) n (omega arith) in rw (f, t)

  first_stays : (n k : ℕ) → first_bad g n ≡ k → k < n → (m : ℕ) → first_bad g (n + m) ≡ k
  unfolding first_bad
  first_stays n k e l zero = rw (add-zero n) e
  first_stays n k e l (suc m) =
      let i = first_stays n k e l m in
      let f : ltb (first_bad g (n + m)) (n + m) ≡ true = lt-ltb (first_bad g (n + m)) (n + m) (omega arith) in
      rw (add-suc n m) (rw f i)

  -- it fails at k, and passes at all before it
  pub first_found : (k n : ℕ) → first_bad g k ≡ k → g k ≡ false → k < n → first_bad g n ≡ k
  first_found k n e t l =
      subst (λ (m : ℕ). first_bad g m ≡ k) (back k n l) (first_stays (suc k) k (first_hit k e t) (omega arith) (n - suc k))
    where
      back : (k n : ℕ) → k < n → suc k + (n - suc k) ≡ n
      back k n l = omega arith

  pub good_before : (n k : ℕ) → k < first_bad g n → g k ≡ true
  unfolding first_bad
  good_before zero k l = absurd (not-suc-le-zero l)
  good_before (suc n) k l =
      bool_cases (ltb (first_bad g n) n)
      (λ e. good_before n k (rw e at l))
      (λ e.
      let full : n ≤ first_bad g n = ltb-false _ _ e in
      bool_cases (g n)
      (λ t.
      let m : k < suc n = rw (e, t) at l in
      ⊎_elim (λ q. subst (λ (i : ℕ). g i ≡ true) (sym q) t) (λ lt. good_before n k (omega arith)) (eq-or-lt_of_le (le_of_suc-le-suc m)))
      (λ t. let m : k < n = rw (e, t) at l in good_before n k (omega arith)))

  pub bad_at : (n : ℕ) → first_bad g n < n → g (first_bad g n) ≡ false
  unfolding first_bad
  bad_at zero l = absurd (not-suc-le-zero l)
  bad_at (suc n) l =
      bool_cases (ltb (first_bad g n) n)
      (λ e. rw e (bad_at n (ltb-true _ _ e)))
      (λ e. bool_cases (g n) (λ t. absurd (over n (rw (e, t) at l))) (λ t. rw (e, t) t))
    where
      over : (n : ℕ) → suc n < suc n → ⊥
      over n l = omega arith

  pub first_le : (n : ℕ) → first_bad g n ≤ n
  unfolding first_bad
  first_le zero = omega arith
  first_le (suc n) =
      bool_cases (ltb (first_bad g n) n)
      (λ e. rw e (omega (arith, first_le n)))
      (λ e. rw e (bool_cases (g n) (λ t. rw t (omega arith)) (λ t. rw t (omega arith))))

-- ---- the report

-- every held entry is that of the other planes, up to entry n in row order
abbrev pub SameUpTo : Settings → Held → Held → ℕ → Type 0
SameUpTo s a b n = (y x : ℕ) → y < s.h → x < s.w → y * s.w + x < n → same_at s.w a b y x ≡ true

unfoldable pub Means : Settings → Pictures → Depths → Held → Report → Type 0
Means s p d h Sound = SameUpTo s h (fresh s p d) (area s) × (s.total ≡ fresh_total s p d)
Means s p d h (Difference y x) =
    (y < s.h) × (x < s.w) × SameUpTo s h (fresh s p d) (y * s.w + x) × (same_at s.w h (fresh s p d) y x ≡ false)
Means s p d h Total = SameUpTo s h (fresh s p d) (area s) × (s.total ≡ fresh_total s p d → ⊥)

module _ (s : Settings) (p : Pictures) (d : Depths) (h : Held) (some : 1 ≤ s.w) where
  abbrev test : ℕ → Bool
  test k = same_at s.w h (fresh s p d) (k / s.w) (k % s.w)

  same_before : (n : ℕ) → n ≤ first_difference s h (fresh s p d) → SameUpTo s h (fresh s p d) n
  unfolding first_difference
  same_before n l y x hy hx k =
      let g = good_before test (area s) (y * s.w + x) (omega arith) in
      rw (digits_div y hx, digits_mod y hx) at g

  found : first_difference s h (fresh s p d) < area s → Means s p d h (Difference (first_difference s h (fresh s p d) / s.w) (first_difference s h (fresh s p d) % s.w))
  unfolding first_difference Means
  found l =
      let k : ℕ = first_bad test (area s) in
      let e : k / s.w * s.w + k % s.w ≡ k = div-add-mod' k s.w in
      let m : k < s.h * s.w = omega (arith, l, mul_comm s.w s.h) in
      ((div-lt_iff_lt-mul some).1 m, mod-lt k some, same_before _ (omega (arith, e)), bad_at test (area s) l)

  pub report_means : Means s p d h (report_of s p d h)
  unfolding report_of Means
  report_means =
      bool_cases (ltb (first_difference s h (fresh s p d)) (area s))
      (λ e. rw e (found (ltb-true _ _ e)))
      (λ e. rw e
      (bool_cases (eqb s.total (fresh_total s p d))
      (λ q. rw q (same_before (area s) (ltb-false _ _ e), eqb-true _ _ q))
      (λ q. rw q (same_before (area s) (ltb-false _ _ e), eqb-false _ _ q))))
