-- The card's cross product over signed numbers, as a comparison of natural ones that a row is walked by.
--     times            the product of two differences
--     cross_above      it is above 0 exactly where `below` < `above`
--     line_region      the regions of a line along a row
use Prim.Native.Nat.{ℕ, suc, ◌+◌, ◌-◌, ◌*◌, ◌<◌, ◌≤◌}
use mathlib.Core.Path.{◌≡◌, sym, ap, ◌∙◌}
use mathlib.Core.Logic.{⊎_elim}
use mathlib.Core.List.{List}
use native.Mathlib.Omega.{arith}
use native.Mathlib.Nat.{mul_comm, add-mul, mul-add, mul-le-mul}
use lib.Arith.{digits_div, digits_mod}
use lib.Dec.{ltb}
use lib.IntN.{ℤ, pos, negsuc, neg_ℤ, sub_ℕ, ◌+ℤ◌, ◌-ℤ◌, ◌*ℤ◌, pos-*ℤ-pos, pos-*ℤ-negsuc, negsuc-*ℤ-pos, negsuc-*ℤ-negsuc}
use lib.Signed.{lt_z}
use borrow.Author.Tests.{lt-ltb, le-ltb}
use Rattle.model.specs.declared.Point.{Point}
use Rattle.model.specs.declared.Split.TheVariants.{Line}
use Rattle.model.specs.Candidates.{cross, in_region1}
use Rattle.model.proofs.Choice.{lt_or_le}
use Rattle.model.proofs.Signs.{sub_ℕ_same, minus, sub_ℕ_chain, sub_ℕ_swap}
use Rattle.fill.specs.Rows.{above, below}

-- differences by cases
over : (b m : ℕ) → sub_ℕ (b + m) b ≡ pos m
over b m = let e : b + m - b ≡ m = omega arith in rw (le-ltb (b + m) b (omega arith), e)

under : (a m : ℕ) → sub_ℕ a (a + suc m) ≡ negsuc m
under a m = let e : a + suc m - suc a ≡ m = omega arith in rw (lt-ltb a (a + suc m) (omega arith), e)

-- the product of two sums
spread : (b m d n : ℕ) → (b + m) * (d + n) ≡ b * d + b * n + (m * d + m * n)
spread b m d n = omega (arith, add-mul b m (d + n), mul-add b d n, mul-add m d n)

-- a number as a difference
positive : (x y n : ℕ) → x ≡ n + y → sub_ℕ x y ≡ pos n
positive x y n e = let m : x - y ≡ n = omega arith in rw (le-ltb x y (omega arith), m)

turned : (x y n : ℕ) → n + x ≡ y → sub_ℕ x y ≡ neg_ℤ (pos n)
turned x y n e = sym (sub_ℕ_swap y x) ∙ ap neg_ℤ (positive y x n (sym e))

-- each factor above or below 0
times_over_over : (b m d n : ℕ) → sub_ℕ (b + m) b *ℤ sub_ℕ (d + n) d ≡ sub_ℕ ((b + m) * (d + n) + b * d) ((b + m) * d + b * (d + n))
times_over_over b m d n =
    rw (over b m, over d n)
    (pos-*ℤ-pos m n
    ∙ sym (positive ((b + m) * (d + n) + b * d) ((b + m) * d + b * (d + n)) (m * n) (omega (arith, spread b m d n, add-mul b m d, mul-add b d n))))

times_over_under : (b m c n : ℕ) → sub_ℕ (b + m) b *ℤ sub_ℕ c (c + suc n) ≡ sub_ℕ ((b + m) * c + b * (c + suc n)) ((b + m) * (c + suc n) + b * c)
times_over_under b m c n =
    rw (over b m, under c n)
    (pos-*ℤ-negsuc m n
    ∙ sym (turned ((b + m) * c + b * (c + suc n)) ((b + m) * (c + suc n) + b * c) (m * suc n) (omega (arith, spread b m c (suc n), add-mul b m c, mul-add b c (suc n)))))

times_under_over : (a m d n : ℕ) → sub_ℕ a (a + suc m) *ℤ sub_ℕ (d + n) d ≡ sub_ℕ (a * (d + n) + (a + suc m) * d) (a * d + (a + suc m) * (d + n))
times_under_over a m d n =
    rw (under a m, over d n)
    (negsuc-*ℤ-pos m n
    ∙ sym (turned (a * (d + n) + (a + suc m) * d) (a * d + (a + suc m) * (d + n)) (suc m * n) (omega (arith, spread a (suc m) d n, add-mul a (suc m) d, mul-add a d n))))

times_under_under : (a m c n : ℕ) → sub_ℕ a (a + suc m) *ℤ sub_ℕ c (c + suc n) ≡ sub_ℕ (a * c + (a + suc m) * (c + suc n)) (a * (c + suc n) + (a + suc m) * c)
times_under_under a m c n =
    rw (under a m, under c n)
    (negsuc-*ℤ-negsuc m n
    ∙ sym (positive (a * c + (a + suc m) * (c + suc n)) (a * (c + suc n) + (a + suc m) * c) (suc m * suc n) (omega (arith, spread a (suc m) c (suc n), add-mul a (suc m) c, mul-add a c (suc n)))))

module _ (a b c d : ℕ) where
  abbrev Product : Type 0
  Product = sub_ℕ a b *ℤ sub_ℕ c d ≡ sub_ℕ (a * c + b * d) (a * d + b * c)

  by_over_over : (m n : ℕ) → a ≡ b + m → c ≡ d + n → Product
  by_over_over m n e f = rw (e, f) (times_over_over b m d n)

  by_over_under : (m n : ℕ) → a ≡ b + m → d ≡ c + suc n → Product
  by_over_under m n e f = rw (e, f) (times_over_under b m c n)

  by_under_over : (m n : ℕ) → b ≡ a + suc m → c ≡ d + n → Product
  by_under_over m n e f = rw (e, f) (times_under_over a m d n)

  by_under_under : (m n : ℕ) → b ≡ a + suc m → d ≡ c + suc n → Product
  by_under_under m n e f = rw (e, f) (times_under_under a m c n)

  pub times : Product
  times =
      ⊎_elim
      (λ h. ⊎_elim (λ k. by_under_under (b - suc a) (d - suc c) (omega arith) (omega arith)) (λ k. by_under_over (b - suc a) (c - d) (omega arith) (omega arith)) (lt_or_le c d))
      (λ h. ⊎_elim (λ k. by_over_under (a - b) (d - suc c) (omega arith) (omega arith)) (λ k. by_over_over (a - b) (c - d) (omega arith) (omega arith)) (lt_or_le c d))
      (lt_or_le a b)

  -- a difference less a difference
  less : sub_ℕ a b -ℤ sub_ℕ c d ≡ sub_ℕ (a + d) (b + c)
  less =
      let x : sub_ℕ a b ≡ sub_ℕ (a + d) (b + d) = sub_ℕ_same a b (a + d) (b + d) (omega arith) in
      let y : neg_ℤ (sub_ℕ c d) ≡ sub_ℕ (b + d) (b + c) = sub_ℕ_swap c d ∙ sub_ℕ_same d c (b + d) (b + c) (omega arith) in
      ap (λ (z : ℤ). z +ℤ neg_ℤ (sub_ℕ c d)) x ∙ ap (λ (z : ℤ). sub_ℕ (a + d) (b + d) +ℤ z) y ∙ sub_ℕ_chain (a + d) (b + d) (b + c)

-- a difference above 0
above_zero : (a b : ℕ) → lt_z (pos 0) (sub_ℕ a b) ≡ ltb b a
above_zero a b =
    ⊎_elim (λ h. rw (lt-ltb a b h) (sym (le-ltb b a (omega arith))))
    (λ h. ⊎_elim (λ k. rw (le-ltb a b h) (lt-ltb 0 (a - b) (omega arith) ∙ sym (lt-ltb b a k))) (λ k. rw (le-ltb a b h) (le-ltb 0 (a - b) (omega arith) ∙ sym (le-ltb b a k))) (lt_or_le b a))
    (lt_or_le a b)

module _ (start end : Point) (row column : ℕ) where
  cross_is : cross start end row column ≡ sub_ℕ (above start end row column) (below start end row column)
  unfolding cross above below
  cross_is =
      let sx : ℕ = start.column in
      let sy : ℕ = start.row in
      let ex : ℕ = end.column in
      let ey : ℕ = end.row in
      let p : (pos ex -ℤ pos sx) *ℤ (pos row -ℤ pos sy) ≡ sub_ℕ (ex * row + sx * sy) (ex * sy + sx * row) =
      rw (minus ex sx, minus row sy) (times ex sx row sy) in
      let q : (pos ey -ℤ pos sy) *ℤ (pos column -ℤ pos sx) ≡ sub_ℕ (ey * column + sy * sx) (ey * sx + sy * column) =
      rw (minus ey sy, minus column sx) (times ey sy column sx) in
      ap (λ (z : ℤ). z -ℤ (pos ey -ℤ pos sy) *ℤ (pos column -ℤ pos sx)) p
      ∙ ap (λ (z : ℤ). sub_ℕ (ex * row + sx * sy) (ex * sy + sx * row) -ℤ z) q
      ∙ less (ex * row + sx * sy) (ex * sy + sx * row) (ey * column + sy * sx) (ey * sx + sy * column)
      ∙ sub_ℕ_same (ex * row + sx * sy + (ey * sx + sy * column)) (ex * sy + sx * row + (ey * column + sy * sx)) (ex * row + ey * sx + sy * column) (sx * row + ex * sy + ey * column) (omega (arith, mul_comm sx sy))

  pub cross_above : lt_z (pos 0) (cross start end row column) ≡ ltb (below start end row column) (above start end row column)
  cross_above = ap (lt_z (pos 0)) cross_is ∙ above_zero (above start end row column) (below start end row column)

-- the regions of a line in row i of a block that is w wide
pub line_region : (w : ℕ) (start end : Point) (bits : List ℕ) (i k : ℕ) → k < w → in_region1 w (Line start end) bits (i * w + k) ≡ ltb (below start end i k) (above start end i k)
unfolding in_region1
line_region w start end bits i k h = rw (digits_div i h, digits_mod i h) (cross_above start end i k)

-- products of a block's numbers
pub product_most : (m n : ℕ) → m ≤ 4096 → n ≤ 4096 → m * n ≤ 16777216
product_most m n h k = mul-le-mul h k
