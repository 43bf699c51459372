-- Totals.
--     error_at, total_rows     the total is the sum over rows and columns of the squared errors
--     pixel_most, sample_most no sample of a drawing is above the greatest
--     total_most              so a total is at most 1,046,529 × w × h
use Prim.Native.Nat.{ℕ, ◌+◌, ◌-◌, ◌*◌, ◌<◌, ◌≤◌}
use mathlib.Core.Path.{◌≡◌, sym, ap, subst, ◌∙◌}
use mathlib.Core.Bool.{Bool, true, false}
use mathlib.Core.List.{List}
use native.Mathlib.Omega.{arith}
use native.Mathlib.Nat.{mul_comm, mul-le-mul, mul-le-mul_right, mul_assoc}
use lib.Dec.{leb, ltb, eqb}
use lib.ListN.{get_or}
use lib.IntN.{ℤ, pos, negsuc, sub_ℕ, ◌+ℤ◌}
use lib.Signed.{shr_z}
use Rattle.model.specs.declared.Settings.{Settings}
use Rattle.model.specs.declared.Kind.{Kind}
use Rattle.model.specs.declared.Kind.TheVariants.{Hidden, Smooth, Torn}
use Rattle.model.specs.declared.Pixel.{Pixel}
use Rattle.model.specs.Lists.{sum_to}
use Rattle.model.specs.Row.{Line, width, place_in, owner, quarter, kind_of, greatest, read, sample_in, taps1, taps2, taps3, weighted, clipped, filtered, mixed, by_kind, pixel_at, shown_pixel, near_edge, owned_pixel, pair_pixel, smooth_pixel, torn_pixel, last_pixel}
use Rattle.model.specs.Views.{entry_of}
use Rattle.model.specs.Combined.{worst, apart, blended, both_shown, both_holes, combined_of, square_error}
use Rattle.model.specs.Planes.{Pictures, Depths, area}
use Rattle.model.specs.Fresh.{line_of, fresh_row, shown_at, fresh_sample, fresh_combined, total_of, fresh_total}
use Rattle.model.proofs.Choice.{bool_cases}
use Rattle.model.proofs.Lists.{get_or-list_of, get_or_row}
use Rattle.model.proofs.Sums.{sum_same, sum_rows, sum_most}
use Rattle.model.proofs.Views.{seen_line, shown_view}
use Rattle.model.proofs.Fresh.{DepthsSized, wide, row_fresh_combined}

-- the squared error at column x of row y
unfoldable pub error_at : Settings → Pictures → Depths → ℕ → ℕ → ℕ
error_at s p d y x = square_error (fresh_sample s p d y x) (sample_in p.reference (y * s.w + x))

pub total_rows : (s : Settings) (p : Pictures) (d : Depths) → fresh_total s p d ≡ sum_to (λ y. sum_to (error_at s p d y) s.w) s.h
unfolding fresh_total total_of error_at
total_rows s p d =
    let f : ℕ → ℕ = λ i. square_error (get_or (fresh_combined s p d) i 0) (sample_in p.reference i) in
    ap (sum_to f) (mul_comm s.w s.h) ∙ sum_rows f s.w s.h
    ∙ sum_same (λ y. sum_to (λ x. f (y * s.w + x)) s.w) _ s.h
    (λ y h. sum_same (λ x. f (y * s.w + x)) _ s.w
    (λ x k. ap (λ (n : ℕ). square_error n (sample_in p.reference (y * s.w + x)))
    (sym (get_or_row 0 (fresh_combined s p d) s.w y x k) ∙ ap (λ (r : List ℕ). get_or r x 0) (row_fresh_combined s p d y h) ∙ get_or-list_of 0 (fresh_sample s p d y) s.w x k)))

-- ---- no sample is above the greatest

pub read_most : (x : ℕ) → read x ≤ greatest
unfolding read
read_most x = omega arith

pub read_same : (x : ℕ) → x ≤ greatest → read x ≡ x
unfolding read
read_same x h = omega arith

pub sample_in_most : (s : List ℕ) (c : ℕ) → sample_in s c ≤ greatest
unfolding sample_in
sample_in_most s c = read_most (get_or s c 0)

-- a weighted mean of samples, rounded, is no greater
mean : (a b n k : ℕ) → a ≤ greatest → b ≤ greatest → k ≤ n → a * (n - k) + b * k ≤ greatest * n
mean a b n k ha hb hk =
    let e : greatest * n ≡ greatest * (n - k) + greatest * k = let q : (n - k) + k ≡ n = omega arith in sym (ap (λ (m : ℕ). greatest * m) q) ∙ (omega arith) in
    omega (arith, mul-le-mul_right (n - k) ha, mul-le-mul_right k hb)

-- the filter holds its result; k of 0 and 4 are samples as they are read
filtered_most : (taps : List ℤ) (s : List ℕ) (c : ℕ) → filtered taps s c ≤ greatest
unfolding filtered
filtered_most taps s c = clipped_most (shr_z (weighted taps s c +ℤ pos 32) 64)
  where
    clipped_most : (z : ℤ) → clipped z ≤ greatest
    clipped_most (pos n) = omega arith
    clipped_most (negsuc n) = omega arith

mixed_most : (s : List ℕ) (c k : ℕ) → mixed s c k ≤ greatest
unfolding mixed
mixed_most s c k =
    bool_cases (eqb k 1) (λ e. rw e (filtered_most taps1 s c))
    (λ e. rw e (bool_cases (eqb k 2) (λ e. rw e (filtered_most taps2 s c))
    (λ e. rw e (bool_cases (eqb k 3) (λ e. rw e (filtered_most taps3 s c))
    (λ e. rw e (bool_cases (eqb k 0) (λ e. rw e (sample_in_most s c)) (λ e. rw e (sample_in_most s (c + 1)))))))))

kind_most : (k : Kind) (h s t : Pixel) → h.sample ≤ greatest → s.sample ≤ greatest → t.sample ≤ greatest → (by_kind k h s t).sample ≤ greatest
kind_most Hidden h s t a b c = a
kind_most Smooth h s t a b c = b
kind_most Torn h s t a b c = c

-- what a column shows anywhere
pub owned_most : (l : Line) (x c : ℕ) → (owned_pixel l c x).sample ≤ greatest
unfolding owned_pixel pair_pixel smooth_pixel torn_pixel last_pixel
owned_most l x c =
    let here = sample_in_most l.texture c in
    bool_cases (leb (width l) (c + 1))
    (λ e. rw e (bool_cases (leb (x - place_in l c) l.tear.distance) (λ q. rw q here) (λ q. rw q here)))
    (λ e. rw e
    (kind_most (kind_of l.tear.gap (sub_ℕ (place_in l (c + 1)) (place_in l c))) _ (smooth_pixel l c (x - place_in l c) (place_in l (c + 1) - place_in l c)) (torn_pixel l c (x - place_in l c)) here
    (mixed_most l.texture c _)
    (bool_cases (leb (x - place_in l c) l.tear.distance) (λ q. rw q here) (λ q. rw q (sample_in_most l.texture _)))))

pub pixel_most : (l : Line) (p : ℕ) → (pixel_at l p).sample ≤ greatest
unfolding pixel_at shown_pixel
pixel_most l p =
    let c : ℕ = owner (place_in l) (quarter p) (width l) in
    bool_cases (near_edge (place_in l) (width l) c (quarter p)) (λ e. rw e (sample_in_most l.texture _)) (λ e. rw e (owned_most l (quarter p) c))

pub blended_most : (share a b : ℕ) → share ≤ 64 → a ≤ greatest → b ≤ greatest → blended share a b ≤ greatest
unfolding blended
blended_most share a b h ha hb = omega (arith, mean a b 64 share ha hb h)

pub combined_most : (share tolerance : ℕ) (l r : Pixel) → share ≤ 64 → l.sample ≤ greatest → r.sample ≤ greatest → combined_of share tolerance l r ≤ greatest
unfolding combined_of both_shown both_holes
combined_most share tolerance l r h a b =
    bool_cases (eqb l.mark 0)
    (λ e. rw e (bool_cases (eqb r.mark 0)
    (λ q. rw q (bool_cases (leb (apart l.front r.front) tolerance) (λ z. rw z (blended_most share _ _ h a b))
    (λ z. rw z (bool_cases (ltb r.front l.front) (λ u. rw u a) (λ u. rw u b)))))
    (λ q. rw q a)))
    (λ e. rw e (bool_cases (eqb r.mark 0) (λ q. rw q b)
    (λ q. rw q (bool_cases (leb l.front r.front) (λ u. rw u a) (λ u. rw u b)))))

pub square_most : (a b : ℕ) → a ≤ greatest → b ≤ greatest → square_error a b ≤ worst
unfolding square_error
square_most a b ha hb =
    let h : apart a b ≤ greatest = omega arith in
    mul-le-mul h h

module _ (s : Settings) (p : Pictures) (d : Depths) (sized : DepthsSized s d) where
  pub shown_most : (r : Bool) (y x : ℕ) → y < s.h → x < s.w → (shown_at (fresh_row s p d r y) x).sample ≤ greatest
  unfolding fresh_row
  shown_most r y x h k =
      let l : Line = line_of s p d r y in
      let n : width l ≡ s.w = wide s p d sized r y h in
      let xw : x < width l = rw n k in
      subst (λ (q : Pixel). q.sample ≤ greatest) (sym (shown_view r l x xw)) (pixel_most (seen_line r l) (entry_of r (width l) x))

  module _ (share : s.share ≤ 64) where
    pub sample_most : (y x : ℕ) → y < s.h → x < s.w → fresh_sample s p d y x ≤ greatest
    unfolding fresh_sample
    sample_most y x h k = combined_most s.share s.tolerance _ _ share (shown_most false y x h k) (shown_most true y x h k)

    pub total_most : fresh_total s p d ≤ worst * area s
    unfolding error_at
    total_most =
        let row : (y : ℕ) → y < s.h → sum_to (error_at s p d y) s.w ≤ worst * s.w = λ y h.
        sum_most (error_at s p d y) worst s.w (λ x k. square_most _ _ (sample_most y x h k) (sample_in_most p.reference (y * s.w + x))) in
        let all = sum_most (λ y. sum_to (error_at s p d y) s.w) (worst * s.w) s.h row in
        rw (total_rows s p d) (omega (arith, all, mul_assoc worst s.w s.h))
