-- The bound cannot be lower by a whole position: in each of these rows the change is as large as the bound, which is 0 in the last two. Table: entry d is d.
use Prim.Native.Nat.{ℕ}
use mathlib.Core.Path.{◌≡◌, refl}
use mathlib.Core.List.{List, [], ◌∷◌}
use lib.IntN.{ℤ, pos, nat_abs}
use Rattle.model.specs.declared.Settings.{Settings}
use Rattle.model.specs.declared.Block.{Block}
use Rattle.model.specs.Lists.{list_of, list_from, rows, row_of, sum_to}
use Rattle.model.specs.Row.{neg, place, least, limit, owner, kind_of, step_of, taps1, taps2, taps3, repeated, sample_in, read, weighted, filtered, mixed, smooth_pixel, torn_pixel, last_pixel, pair_pixel, owned_pixel, placed_at, near_edge, shown_pixel, pixel_at, limit_at, left_row}
use Rattle.model.specs.Views.{is_right, seen, view_row}
use Rattle.model.specs.Combined.{blended, both_shown, both_holes, combined_of, square_error}
use Rattle.model.specs.Planes.{Pictures, Depths, pictures, depths}
use Rattle.model.specs.Fresh.{fresh_row, fresh_sample, fresh_combined, total_of, fresh_total}
use Rattle.model.specs.Blocks.{in_block, written_plane, written, change_of}
use Rattle.model.specs.Span.{least_edited, span_low, span_high, first_column, view_place}
use Rattle.reach.specs.Reach.{low_of, from_zero, high_of, length_of, most_change, span_length}

-- one row of w columns; share 0 shows the left view where both show a position, share 64 the right one
settings : ℕ → ℕ → Settings
settings w share =
    record { w = w; h = 1; left = list_of (λ d. d) 256; right = list_of (λ d. d) 256; share = share; tolerance = 255; tear = record { gap = 8; distance = 1 }; total = 0 }

abbrev only : ℕ → Block
only column = record { column = column; row = 0; width = 1; height = 1 }

-- where depth q is tried in a column of view v, L is l, and the change x is as large as the bound
abbrev Reaches : Settings → Pictures → Depths → ℕ → ℕ → ℕ → ℤ → ℤ → Type 0
Reaches s p d v column q l x =
    (span_length s (is_right v) (only column) d (written s v (only column) (q ∷ []) d) ≡ l)
    × ((most_change l ≡ nat_abs x) × (change_of s p d v (only column) (q ∷ []) ≡ x))

-- n samples, or depths, of 0
dark : ℕ → List ℕ
dark n = list_of (λ i. 0) n

reached :
    -- Three positions of an inner column: the first is a near edge, which the new place reaches by card 7's quarter alone. The total rises, and falls with the other
    -- reference.
    Reaches (settings 5 0) (pictures (0 ∷ 0 ∷ 0 ∷ 1023 ∷ 1023 ∷ []) (dark 5) (dark 5)) (depths (0 ∷ 0 ∷ 0 ∷ 3 ∷ 7 ∷ []) (dark 5)) 0 3 11 (pos 9) (pos 3139587)
    × Reaches (settings 5 0) (pictures (0 ∷ 0 ∷ 0 ∷ 1023 ∷ 1023 ∷ []) (dark 5) (1023 ∷ 1023 ∷ 1023 ∷ 0 ∷ 0 ∷ [])) (depths (0 ∷ 0 ∷ 0 ∷ 3 ∷ 7 ∷ []) (dark 5)) 0 3 11 (pos 9) (neg 3139587)
    -- the limit of the next column, 5, lies below its place, 12
    × Reaches (settings 5 0) (pictures (1023 ∷ 1023 ∷ 0 ∷ 0 ∷ 0 ∷ []) (dark 5) (1023 ∷ 1023 ∷ 0 ∷ 0 ∷ 0 ∷ [])) (depths (0 ∷ 0 ∷ 3 ∷ 0 ∷ 11 ∷ []) (dark 5)) 0 2 7 (pos 5) (pos 2093058)
    -- the place of the column before gives low
    × Reaches (settings 5 0) (pictures (0 ∷ 1023 ∷ 1023 ∷ 0 ∷ 0 ∷ []) (dark 5) (dark 5)) (depths (0 ∷ 7 ∷ 0 ∷ 0 ∷ 11 ∷ []) (dark 5)) 0 2 3 (pos 5) (pos 2093058)
    -- low is below 0, and L is 5, 6 and 7
    × Reaches (settings 3 0) (pictures (dark 3) (1023 ∷ 1023 ∷ 0 ∷ []) (dark 3)) (depths (0 ∷ 0 ∷ 3 ∷ []) (dark 3)) 0 1 8 (pos 5) (pos 2093058)
    × Reaches (settings 3 0) (pictures (dark 3) (1023 ∷ 1023 ∷ 0 ∷ []) (dark 3)) (depths (0 ∷ 0 ∷ 2 ∷ []) (dark 3)) 0 1 7 (pos 6) (pos 2093058)
    × Reaches (settings 3 0) (pictures (dark 3) (1023 ∷ 1023 ∷ 0 ∷ []) (dark 3)) (depths (0 ∷ 0 ∷ 1 ∷ []) (dark 3)) 0 1 6 (pos 7) (pos 2093058)
    -- the last column of the right view, which is column 0
    × Reaches (settings 4 64) (pictures (1023 ∷ 1023 ∷ 0 ∷ 0 ∷ []) (0 ∷ 0 ∷ 1023 ∷ 0 ∷ []) (0 ∷ 0 ∷ 1023 ∷ 0 ∷ [])) (depths (dark 4) (dark 4)) 1 0 7 (pos 12) (pos 3139587)
    -- behind a nearer column L is 0 or less: nothing changes
    × Reaches (settings 4 0) (pictures (1023 ∷ 0 ∷ 1023 ∷ 0 ∷ []) (dark 4) (dark 4)) (depths (0 ∷ 0 ∷ 0 ∷ 9 ∷ []) (dark 4)) 0 2 3 (pos 0) (pos 0)
    × Reaches (settings 3 0) (pictures (0 ∷ 1023 ∷ 0 ∷ []) (dark 3) (dark 3)) (depths (0 ∷ 0 ∷ 20 ∷ []) (dark 3)) 0 0 1 (neg 12) (pos 0)
unfolding settings dark span_length length_of high_of low_of from_zero most_change least_edited span_low span_high first_column view_place change_of fresh_total total_of fresh_combined fresh_sample fresh_row combined_of both_shown both_holes blended square_error written written_plane in_block rows row_of sum_to view_row seen left_row limit_at pixel_at shown_pixel near_edge placed_at owned_pixel pair_pixel last_pixel torn_pixel smooth_pixel mixed filtered weighted repeated sample_in read taps1 taps2 taps3 step_of kind_of owner limit least place list_from
reached =
    ((refl, (refl, refl)), (refl, (refl, refl)), (refl, (refl, refl)), (refl, (refl, refl)), (refl, (refl, refl)), (refl, (refl, refl)), (refl, (refl, refl)), (refl, (refl, refl)), (refl, (refl, refl)), (refl, (refl, refl)))
