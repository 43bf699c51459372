-- The fresh drawing of two depth planes: both views with marks and limits, the combined picture and the total
-- (document 01, "Combined picture and total" and "The plain record of a run").
use Rattle.std.specs.Prelude.{ℕ, Bool, true, false, List, get_or}
use Rattle.model.specs.declared.Settings.{Settings}
use Rattle.model.specs.declared.Pixel.{Pixel}
use Rattle.model.specs.Lists.{list_of, rows, row_of, sum_to}
use Rattle.model.specs.Row.{Line, line, Row, pixel, sample_in}
use Rattle.model.specs.Views.{view_row}
use Rattle.model.specs.Marks.{mark_bytes, pack_row}
use Rattle.model.specs.Combined.{combined_of, square_error}
use Rattle.model.specs.Planes.{Pictures, Depths, View, Held, Strip, view, held, strip, area, table_of, texture_of, depths_of}

-- what row y of a view is drawn from
abbrev pub line_of : Settings → Pictures → Depths → Bool → ℕ → Line
line_of s p d right y = line s.tear (table_of s right) (row_of (texture_of p right) s.w y) (row_of (depths_of d right) s.w y)

-- row y of a view
unfoldable pub fresh_row : Settings → Pictures → Depths → Bool → ℕ → Row
fresh_row s p d right y = view_row right (line_of s p d right y)

-- a drawn row with its marks packed
unfoldable pub strip_of : ℕ → Row → Strip
strip_of w r = strip r.samples (pack_row (mark_bytes w) r.marks) r.fronts

unfoldable pub fresh_view : Settings → Pictures → Depths → Bool → View
fresh_view s p d right =
    view
    (rows (λ y. (fresh_row s p d right y).samples) s.h)
    (rows (λ y. (fresh_row s p d right y).fronts) s.h)
    (rows (λ y. (fresh_row s p d right y).limits) s.h)
    (rows (λ y. pack_row (mark_bytes s.w) (fresh_row s p d right y).marks) s.h)

-- what a drawn row shows at position p
abbrev pub shown_at : Row → ℕ → Pixel
shown_at r p = pixel (get_or r.samples p 0) (get_or r.marks p 0) (get_or r.fronts p 0)

-- the combined sample at position p of row y
unfoldable pub fresh_sample : Settings → Pictures → Depths → ℕ → ℕ → ℕ
fresh_sample s p d y x =
    combined_of s.share s.tolerance (shown_at (fresh_row s p d false y) x) (shown_at (fresh_row s p d true y) x)

unfoldable pub fresh_combined : Settings → Pictures → Depths → List ℕ
fresh_combined s p d = rows (λ y. list_of (fresh_sample s p d y) s.w) s.h

-- The drawing of the depths: all that is held.
unfoldable pub fresh : Settings → Pictures → Depths → Held
fresh s p d = held (fresh_view s p d false) (fresh_view s p d true) (fresh_combined s p d)

-- The total is the sum over all positions of (combined − reference)², the reference as it is read.
unfoldable pub total_of : List ℕ → List ℕ → ℕ → ℕ
total_of combined reference n = sum_to (λ i. square_error (get_or combined i 0) (sample_in reference i)) n

unfoldable pub fresh_total : Settings → Pictures → Depths → ℕ
fresh_total s p d = total_of (fresh_combined s p d) p.reference (area s)
