-- The fresh drawing by its rows.
--     fresh_total_lem, fresh_total_total            it does not depend on the total in the settings
--     length-fresh_.., row_fresh_..                 its planes have their lengths, and the drawn rows for rows
--     flag_pixel, flags_view                        marks are 0 or 1
--     mark_fresh                                    the mark that the fresh planes hold at a position is the row's
use Prim.Native.Nat.{ℕ, ◌+◌, ◌-◌, ◌*◌, ◌<◌}
use mathlib.Core.Path.{◌≡◌, refl, ap, ◌∙◌}
use mathlib.Core.Bool.{Bool, true, false}
use mathlib.Core.Logic.{⊎_elim}
use mathlib.Core.List.{List}
use native.Mathlib.Omega.{arith}
use native.Mathlib.Nat.{mul_comm}
use lib.Dec.{leb}
use lib.ListN.{length, get_or, get_or-eq_default}
use lib.IntN.{sub_ℕ}
use Rattle.model.specs.declared.Settings.{Settings}
use Rattle.model.specs.declared.Kind.{Kind}
use Rattle.model.specs.declared.Kind.TheVariants.{Hidden, Smooth, Torn}
use Rattle.model.specs.declared.Pixel.{Pixel}
use Rattle.model.specs.Lists.{list_of, row_of}
use Rattle.model.specs.Row.{Line, width, place_in, kind_of, owner, quarter, by_kind, pixel_at, shown_pixel, near_edge, owned_pixel, pair_pixel, smooth_pixel, torn_pixel, last_pixel}
use Rattle.model.specs.Views.{view_row, entry_of}
use Rattle.model.specs.Marks.{mark_bytes, pack_row, mark_at}
use Rattle.model.specs.Planes.{Pictures, Depths, area, with_total, depths_of, view_of}
use Rattle.model.specs.Fresh.{line_of, fresh_row, fresh_view, fresh_sample, fresh_combined, fresh, fresh_total}
use Rattle.model.proofs.Choice.{bool_cases, lt_or_le}
use Rattle.model.proofs.Lists.{length-list_of, length-rows, row_rows, length_plane_row}
use Rattle.model.proofs.Views.{seen_line, length-view_samples, length-view_marks, length-view_fronts, length-view_limits, get_or_view_marks}
use Rattle.model.proofs.Packing.{Flags, length-pack_row, mark_pack_row}

-- ---- the total passed in

pub fresh_total_lem : (s : Settings) (t : ℕ) (p : Pictures) (d : Depths) → fresh (with_total s t) p d ≡ fresh s p d
unfolding fresh fresh_view fresh_row fresh_combined fresh_sample
fresh_total_lem s t p d = refl

pub fresh_total_total : (s : Settings) (t : ℕ) (p : Pictures) (d : Depths) → fresh_total (with_total s t) p d ≡ fresh_total s p d
unfolding fresh_total fresh_row fresh_combined fresh_sample
fresh_total_total s t p d = refl

-- ---- marks are 0 or 1

flag_torn : (l : Line) (c t : ℕ) (b : Bool) → leb t l.tear.distance ≡ b → (torn_pixel l c t).mark < 2
unfolding torn_pixel
flag_torn l c t true e = rw e (omega arith)
flag_torn l c t false e = rw e (omega arith)

flag_last : (l : Line) (c t : ℕ) (b : Bool) → leb t l.tear.distance ≡ b → (last_pixel l c t).mark < 2
unfolding last_pixel
flag_last l c t true e = rw e (omega arith)
flag_last l c t false e = rw e (omega arith)

flag_kind : (k : Kind) (h s t : Pixel) → h.mark < 2 → s.mark < 2 → t.mark < 2 → (by_kind k h s t).mark < 2
flag_kind Hidden h s t a b c = a
flag_kind Smooth h s t a b c = b
flag_kind Torn h s t a b c = c

pub flag_owned : (l : Line) (c x : ℕ) → (owned_pixel l c x).mark < 2
unfolding owned_pixel pair_pixel smooth_pixel
flag_owned l c x =
    let t : ℕ = x - place_in l c in
    bool_cases (leb (width l) (c + 1)) (λ e. rw e (flag_last l c t (leb t l.tear.distance) refl))
    (λ e. rw e (flag_kind (kind_of l.tear.gap (sub_ℕ (place_in l (c + 1)) (place_in l c))) _ (smooth_pixel l c t (place_in l (c + 1) - place_in l c)) (torn_pixel l c t) (omega arith) (omega arith) (flag_torn l c t (leb t l.tear.distance) refl)))

pub flag_pixel : (l : Line) (p : ℕ) → (pixel_at l p).mark < 2
unfolding pixel_at shown_pixel
flag_pixel l p =
    let c : ℕ = owner (place_in l) (quarter p) (width l) in
    bool_cases (near_edge (place_in l) (width l) c (quarter p)) (λ e. rw e (omega arith)) (λ e. rw e (flag_owned l c (quarter p)))

pub flags_view : (r : Bool) (l : Line) → Flags (view_row r l).marks
flags_view r l i =
    ⊎_elim (λ h. rw (get_or_view_marks r l i h) (flag_pixel (seen_line r l) (entry_of r (width l) i)))
    (λ h. rw (get_or-eq_default (view_row r l).marks 0 {n = i} (rw (length-view_marks r l) h)) (omega arith)) (lt_or_le i (width l))

-- ---- the planes by their rows

-- depth planes of n entries each
pub record DepthsOf (n : ℕ) (d : Depths) : Type 0 where
  pub left : length d.left ≡ n
  pub right : length d.right ≡ n

-- the depths of both views are w wide and h high
abbrev pub DepthsSized : Settings → Depths → Type 0
DepthsSized s d = DepthsOf (area s) d

pub depths_length : (s : Settings) {d : Depths} → DepthsSized s d → (r : Bool) → length (depths_of d r) ≡ s.h * s.w
depths_length s h true = h.right ∙ mul_comm s.w s.h
depths_length s h false = h.left ∙ mul_comm s.w s.h

module _ (s : Settings) (p : Pictures) (d : Depths) (sized : DepthsSized s d) where
  -- row y of a view is w wide
  pub wide : (r : Bool) (y : ℕ) → y < s.h → width (line_of s p d r y) ≡ s.w
  wide r y h = length_plane_row (depths_of d r) s.w s.h y (depths_length s sized r) h

  module _ (r : Bool) where
    samples_wide : (y : ℕ) → y < s.h → length (fresh_row s p d r y).samples ≡ s.w
    unfolding fresh_row
    samples_wide y h = length-view_samples r (line_of s p d r y) ∙ wide r y h

    fronts_wide : (y : ℕ) → y < s.h → length (fresh_row s p d r y).fronts ≡ s.w
    unfolding fresh_row
    fronts_wide y h = length-view_fronts r (line_of s p d r y) ∙ wide r y h

    limits_wide : (y : ℕ) → y < s.h → length (fresh_row s p d r y).limits ≡ s.w
    unfolding fresh_row
    limits_wide y h = length-view_limits r (line_of s p d r y) ∙ wide r y h

    pub marks_wide : (y : ℕ) → y < s.h → length (fresh_row s p d r y).marks ≡ s.w
    unfolding fresh_row
    marks_wide y h = length-view_marks r (line_of s p d r y) ∙ wide r y h

    pub row_fresh_samples : (y : ℕ) → y < s.h → row_of (fresh_view s p d r).samples s.w y ≡ (fresh_row s p d r y).samples
    unfolding fresh_view
    row_fresh_samples y h = row_rows _ s.w s.h samples_wide y h

    pub row_fresh_fronts : (y : ℕ) → y < s.h → row_of (fresh_view s p d r).fronts s.w y ≡ (fresh_row s p d r y).fronts
    unfolding fresh_view
    row_fresh_fronts y h = row_rows _ s.w s.h fronts_wide y h

    pub row_fresh_limits : (y : ℕ) → y < s.h → row_of (fresh_view s p d r).limits s.w y ≡ (fresh_row s p d r y).limits
    unfolding fresh_view
    row_fresh_limits y h = row_rows _ s.w s.h limits_wide y h

    pub row_fresh_marks : (y : ℕ) → y < s.h → row_of (fresh_view s p d r).marks (mark_bytes s.w) y ≡ pack_row (mark_bytes s.w) (fresh_row s p d r y).marks
    unfolding fresh_view
    row_fresh_marks y h = row_rows _ (mark_bytes s.w) s.h (λ z k. length-pack_row (mark_bytes s.w) _) y h

    pub length-fresh_samples : length (fresh_view s p d r).samples ≡ area s
    unfolding fresh_view
    length-fresh_samples = length-rows _ s.w s.h samples_wide ∙ mul_comm s.h s.w

    pub length-fresh_fronts : length (fresh_view s p d r).fronts ≡ area s
    unfolding fresh_view
    length-fresh_fronts = length-rows _ s.w s.h fronts_wide ∙ mul_comm s.h s.w

    pub length-fresh_limits : length (fresh_view s p d r).limits ≡ area s
    unfolding fresh_view
    length-fresh_limits = length-rows _ s.w s.h limits_wide ∙ mul_comm s.h s.w

    pub length-fresh_marks : length (fresh_view s p d r).marks ≡ mark_bytes s.w * s.h
    unfolding fresh_view
    length-fresh_marks =
        length-rows _ (mark_bytes s.w) s.h (λ z k. length-pack_row (mark_bytes s.w) _) ∙ mul_comm s.h (mark_bytes s.w)

    -- the marks of a fresh row, read where they are packed
    pub mark_fresh : (y x : ℕ) → y < s.h → x < s.w → mark_at (row_of (fresh_view s p d r).marks (mark_bytes s.w) y) x ≡ get_or (fresh_row s p d r y).marks x 0
    unfolding fresh_row
    mark_fresh y x h k =
        ap (λ (m : List ℕ). mark_at m x) (row_fresh_marks y h)
        ∙ mark_pack_row (mark_bytes s.w) (view_row r (line_of s p d r y)).marks (flags_view r (line_of s p d r y)) x (omega arith)

pub row_fresh_combined : (s : Settings) (p : Pictures) (d : Depths) (y : ℕ) → y < s.h → row_of (fresh_combined s p d) s.w y ≡ list_of (fresh_sample s p d y) s.w
unfolding fresh_combined
row_fresh_combined s p d y h = row_rows _ s.w s.h (λ z k. length-list_of _ s.w) y h

pub length-fresh_combined : (s : Settings) (p : Pictures) (d : Depths) → length (fresh_combined s p d) ≡ area s
unfolding fresh_combined
length-fresh_combined s p d = length-rows _ s.w s.h (λ z k. length-list_of _ s.w) ∙ mul_comm s.h s.w

-- the fresh planes of a view
pub view_fresh : (s : Settings) (p : Pictures) (d : Depths) (r : Bool) → view_of (fresh s p d) r ≡ fresh_view s p d r
unfolding fresh
view_fresh s p d true = refl
view_fresh s p d false = refl
