-- The combined picture row by row is that of the fresh drawing.
--     row_combined                    row y, combined in its place
--     picture_none, picture_next      the rows combined so far
--     picture_whole, total_whole      all rows combined, from the planes of the fresh drawing: its combined picture, and its total
use Prim.Native.Nat.{ℕ, ◌+◌, ◌-◌, ◌*◌, ◌≤◌, ◌<◌}
use mathlib.Core.Path.{◌≡◌, refl, sym, ap, subst, ◌∙◌}
use mathlib.Core.Bool.{Bool, true, false}
use mathlib.Core.Logic.{⊎_elim}
use mathlib.Core.List.{List}
use native.Mathlib.Omega.{arith}
use native.Mathlib.Nat.{mul_comm, mul-suc, not-suc-le-zero}
use native.Mathlib.Numerals.{add-one}
use lib.ListN.{length, get_or}
use Rattle.model.specs.declared.Settings.{Settings}
use Rattle.model.specs.declared.Pixel.{Pixel}
use Rattle.model.specs.Lists.{list_of, row_of, sum_to}
use Rattle.model.specs.Row.{read, sample_in}
use Rattle.model.specs.Combined.{worst, combined_of, square_error}
use Rattle.model.specs.Planes.{Pictures, Depths, area, read_view}
use Rattle.model.specs.Fresh.{fresh_row, fresh_view, shown_at, fresh_sample, fresh_combined, fresh_total}
use Rattle.model.proofs.Choice.{lt_or_le}
use Rattle.model.proofs.Lists.{plane_ext, list_same, length-list_of, get_or-list_of}
use Rattle.model.proofs.Sums.{sum_next, sum_same}
use Rattle.model.proofs.Fresh.{DepthsSized, row_fresh_combined, length-fresh_combined}
use Rattle.model.proofs.Totals.{read_same, error_at, total_rows, sample_most}
use Rattle.model.proofs.Readings.{sample_in_row, samples_read}
use Rattle.planes.specs.Parts.{splice}
use Rattle.planes.proofs.Splices.{part_row, part_length, row_whole, row_other_whole}
use Rattle.marks.proofs.Held.{held_fresh}
use Rattle.sums.specs.Sides.{paired}
use Rattle.blend.specs.Blend.{combined_part}
use Rattle.draw.proofs.Planes.{part}
use Rattle.draw.specs.Combination.{held_rows, combined_row, row_error, PictureCombined}

-- row y of the picture is combined, and every other row is as it was
pub record RowCombined (share tolerance w y : ℕ) (left right : ℕ → ℕ → Pixel) (c c' : List ℕ) : Type 0 where
  pub row_is : row_of c' w y ≡ combined_row share tolerance w left right y
  pub others : (k : ℕ) → (k ≡ y → ⊥) → row_of c' w k ≡ row_of c w k

pub row_combined : (share tolerance w y : ℕ) (left right : ℕ → ℕ → Pixel) (c c' : List ℕ) → y * w + w ≤ length c → c' ≡ splice c (y * w + 0) (combined_part false share tolerance (left y) (right y) 0 (w - 0)) → RowCombined share tolerance w y left right c c'
unfolding combined_row combined_part
row_combined share tolerance w y left right c c' fits e =
    let xs : List ℕ = list_of (λ i. paired false share tolerance (left y (0 + i)) (right y (0 + i))) w in
    let wide : length xs ≡ w = length-list_of _ w in
    let n : w - 0 ≡ w = omega arith in
    let at : y * w + 0 ≡ y * w = omega arith in
    let is : c' ≡ splice c (y * w) xs = rw (n, at) at e in
    record { row_is = rw is (row_whole 0 c w y xs fits wide); others = λ k ne. rw is (row_other_whole 0 c w y k xs fits wide ne) }

-- the sum of the squared errors of row y, from its parts
pub row_error_lem :
    (w y : ℕ) (c reference : List ℕ) (r : ℕ) → y * w + w ≤ length c →
    (r ≡ sum_to (λ i. square_error (sample_in (part c w y) i) (sample_in (part reference w y) i)) (length (part c w y))) × (r ≤ worst * length (part c w y)) →
    (r ≡ row_error w (row_of c w y) reference y) × (r ≤ worst * w)
unfolding row_error
row_error_lem w y c reference r fits h =
    let n : length (part c w y) ≡ w = part_length c (y * w) w fits in
    rw (n, part_row c w y, part_row reference w y) at h

-- ---- the rows combined so far

module _ {share tolerance w : ℕ} {left right : ℕ → ℕ → Pixel} {reference : List ℕ} where
  pub picture_none : (c : List ℕ) → PictureCombined share tolerance w 0 left right reference c 0
  unfolding sum_to
  picture_none c = record { rows_are = λ k h. absurd (not-suc-le-zero h); total = refl; most = omega arith }

  pub picture_next :
      {y : ℕ} {c c' : List ℕ} {total r x : ℕ} → PictureCombined share tolerance w y left right reference c total →
      RowCombined share tolerance w y left right c c' → (r ≡ row_error w (row_of c' w y) reference y) × (r ≤ worst * w) → x ≡ r →
      PictureCombined share tolerance w (y + 1) left right reference c' (total + x)
  picture_next {y} {c} {c'} {total} {r} {x} p q f e =
      let error : r ≡ row_error w (combined_row share tolerance w left right y) reference y = f.0 ∙ ap (λ (l : List ℕ). row_error w l reference y) q.row_is in
      let n = sum_next (λ y. row_error w (combined_row share tolerance w left right y) reference y) y in
      let m : worst * w * (y + 1) ≡ worst * w * y + worst * w = rw (add-one y) (mul-suc (worst * w) y) in
      record {
        rows_are = λ k h.
            ⊎_elim (λ l. q.others k (λ i. omega arith) ∙ p.rows_are k l)
            (λ l. let i : k ≡ y = omega arith in subst (λ (j : ℕ). row_of c' w j ≡ combined_row share tolerance w left right j) (sym i) q.row_is) (lt_or_le k y);
        total = omega (arith, n, p.total);
        most = omega (arith, p.most, f.1, m);
      }

-- ---- the fresh drawing

module _ (s : Settings) (p : Pictures) (d : Depths) (z : DepthsSized s d) (most : s.share ≤ 64) where
  -- what the fresh planes hold is what the rows show
  shows : (q : Bool) (y i : ℕ) → y < s.h → i < s.w → held_rows s.w (fresh_view s p d q).samples (fresh_view s p d q).fronts (fresh_view s p d q).marks y i ≡ shown_at (fresh_row s p d q y) i
  shows q y i h k =
      let e : read_view (fresh_view s p d q) ≡ fresh_view s p d q = rw (samples_read s p d z q) in
      held_fresh s p d z q (fresh_view s p d q) e y i h k

  abbrev side : Bool → ℕ → ℕ → Pixel
  side q = held_rows s.w (fresh_view s p d q).samples (fresh_view s p d q).fronts (fresh_view s p d q).marks

  pub row_fresh : (y : ℕ) → y < s.h → combined_row s.share s.tolerance s.w (side false) (side true) y ≡ list_of (fresh_sample s p d y) s.w
  unfolding combined_row combined_part paired fresh_sample
  row_fresh y h =
      list_same 0 (λ i. paired false s.share s.tolerance (side false y (0 + i)) (side true y (0 + i))) (fresh_sample s p d y) s.w
      (λ i k. let e : 0 + i ≡ i = omega arith in rw e
      (ap (λ (a : Pixel). combined_of s.share s.tolerance a (side true y i)) (shows false y i h k)
      ∙ ap (λ (a : Pixel). combined_of s.share s.tolerance (shown_at (fresh_row s p d false y) i) a) (shows true y i h k)))

  module _ (c : List ℕ) (r : ℕ) (wide : length c ≡ area s) (done : PictureCombined s.share s.tolerance s.w s.h (side false) (side true) p.reference c r) where
    pub picture_whole : c ≡ fresh_combined s p d
    picture_whole =
        plane_ext 0 s.w s.h c (fresh_combined s p d) (wide ∙ mul_comm s.w s.h) (length-fresh_combined s p d ∙ mul_comm s.w s.h)
        (λ y h. done.rows_are y h ∙ row_fresh y h ∙ sym (row_fresh_combined s p d y h))

    pub total_whole : r ≡ fresh_total s p d
    unfolding row_error error_at sample_in
    total_whole =
        done.total
        ∙ sum_same (λ y. row_error s.w (combined_row s.share s.tolerance s.w (side false) (side true) y) p.reference y) (λ y. sum_to (error_at s p d y) s.w) s.h
        (λ y h. ap (λ (l : List ℕ). row_error s.w l p.reference y) (row_fresh y h)
        ∙ sum_same (λ i. square_error (read (get_or (list_of (fresh_sample s p d y) s.w) i 0)) (sample_in (row_of p.reference s.w y) i)) (error_at s p d y) s.w
        (λ i k. rw (get_or-list_of 0 (fresh_sample s p d y) s.w i k, read_same (fresh_sample s p d y i) (sample_most s p d z most y i h k), sample_in_row p.reference s.w y i k)))
        ∙ sym (total_rows s p d)
