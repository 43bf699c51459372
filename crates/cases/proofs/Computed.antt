-- The definitions that the small rows do not reach compute too: packed marks, hole counts, every filter, near edges, filled blocks and lines, and, on
-- the session of document 01 (4 × 1, depths 0), spans, refusals, also those of a journal and of MOVE, and CHECK's report.
use Prim.Native.Nat.{ℕ, ◌-◌, ◌*◌}
use mathlib.Core.Path.{◌≡◌, refl}
use mathlib.Core.Bool.{Bool, true, false, cond}
use mathlib.Core.List.{List, [], ◌∷◌}
use lib.Dec.{eqb}
use lib.ListN.{length}
use lib.IntN.{ℤ, pos}
use Rattle.model.specs.declared.Tear.{Tear}
use Rattle.model.specs.declared.Settings.{Settings}
use Rattle.model.specs.declared.Block.{Block}
use Rattle.model.specs.declared.Point.{Point}
use Rattle.model.specs.declared.Split.TheVariants.{Line, Mask}
use Rattle.model.specs.declared.Candidate.{Candidate}
use Rattle.model.specs.declared.Candidate.TheVariants.{Full, Flat, Regions}
use Rattle.model.specs.declared.Report.{Report}
use Rattle.model.specs.declared.Report.TheVariants.{Sound, Difference, Total}
use Rattle.model.specs.Lists.{list_of, list_from, rows, row_of, sum_to}
use Rattle.model.specs.Row.{Row, line, neg, place, least, limit, owner, kind_of, step_of, taps1, taps2, taps3, repeated, sample_in, read, weighted, filtered, mixed, smooth_pixel, torn_pixel, last_pixel, pair_pixel, owned_pixel, placed_at, near_edge, shown_pixel, pixel_at, limit_at, left_row}
use Rattle.model.specs.Views.{seen, view_row, entry_of}
use Rattle.model.specs.Marks.{pack_byte, pack_row, row_holes, holes_in}
use Rattle.model.specs.Combined.{blended, both_shown, both_holes, combined_of, square_error}
use Rattle.model.specs.Planes.{Pictures, Depths, View, Held, pictures, depths, view, held, strip, with_total}
use Rattle.model.specs.Fresh.{fresh_row, strip_of, fresh_view, fresh_sample, fresh_combined, fresh, total_of, fresh_total}
use Rattle.model.specs.Span.{least_edited, span_low, span_high, in_span, first_column, view_place, span_has, limit_moves}
use Rattle.model.specs.Reports.{same_mark, same_view, same_at, first_bad, first_difference, report_of}
use Rattle.model.specs.Candidates.{cross, in_region1, filled, on_border, side_shared, line_ok}
use Rattle.model.specs.Journals.{record_depths, next_index}
use Rattle.model.specs.Refusals.{side_ok, size_ok, pictures_sized, depths_sized, view_sized, held_sized, planes_sized, up_to, tables_ok, tear_ok, block_ok, candidate_then, in_range, record_ok, chain_ok, journal_ok, room_ok, pictures_ok, common_then, own_then, saving_then, taking_then, open_number, set_number, take_back_number, strip_sized, render_number}
use Rattle.run.specs.Run.{move_number}
use Rattle.cases.specs.Cases.{tear, usual, identity, four, settings, opening, images, junk, saves}

abbrev block : ℕ → ℕ → ℕ → ℕ → Block
block column row width height = record { column = column; row = row; width = width; height = height }

-- ---- packed marks and holes

-- case g's one hole is bit 2
packed_g : pack_row 1 (0 ∷ 0 ∷ 1 ∷ 0 ∷ []) ≡ 4 ∷ []
unfolding pack_row pack_byte
packed_g = refl

-- nine marks take two bytes
packed_nine : pack_row 2 (1 ∷ 0 ∷ 0 ∷ 0 ∷ 0 ∷ 0 ∷ 0 ∷ 1 ∷ 1 ∷ []) ≡ 129 ∷ 1 ∷ []
unfolding pack_row pack_byte
packed_nine = refl

-- two rows of four positions, spare bits left out
holes_two_rows : holes_in (245 ∷ 10 ∷ []) 4 2 ≡ 4
unfolding holes_in row_holes row_of sum_to
holes_two_rows = refl

-- ---- the filters: k of 1, 2 and 3 in both views, in a row where sums fall below 0 and rise above 1,023, in one of eight bits whose sums rise above
-- 255 and stay, and in one with both ends repeated; and a row with higher entries, which are read as 1,023

shown : Bool → List ℕ → ℕ → List ℕ
shown right texture d = (view_row right (line usual identity texture (list_of (λ i. d) (length texture)))).samples

edge : List ℕ
edge = 0 ∷ 0 ∷ 1023 ∷ 1023 ∷ 0 ∷ 0 ∷ []

eight : List ℕ
eight = 0 ∷ 0 ∷ 255 ∷ 255 ∷ 0 ∷ 0 ∷ []

higher : List ℕ
higher = 0 ∷ 0 ∷ 2000 ∷ 1024 ∷ 0 ∷ 0 ∷ []

pair : List ℕ
pair = 0 ∷ 255 ∷ []

filters :
    (shown false edge 1 ≡ 0 ∷ 192 ∷ 1023 ∷ 767 ∷ 0 ∷ 0 ∷ [])
    × (shown true edge 1 ≡ 0 ∷ 0 ∷ 767 ∷ 1023 ∷ 192 ∷ 0 ∷ [])
    × (shown false edge 2 ≡ 0 ∷ 464 ∷ 1023 ∷ 464 ∷ 0 ∷ 0 ∷ [])
    × (shown false edge 3 ≡ 0 ∷ 767 ∷ 1023 ∷ 192 ∷ 0 ∷ 0 ∷ [])
    × (shown false eight 1 ≡ 0 ∷ 48 ∷ 299 ∷ 191 ∷ 0 ∷ 0 ∷ [])
    × (shown false eight 2 ≡ 0 ∷ 116 ∷ 319 ∷ 116 ∷ 0 ∷ 0 ∷ [])
    × (shown false pair 1 ≡ 52 ∷ 255 ∷ [])
    × (shown false pair 2 ≡ 128 ∷ 255 ∷ [])
    × (shown true pair 3 ≡ 0 ∷ 52 ∷ [])
    × (shown false higher 1 ≡ 0 ∷ 192 ∷ 1023 ∷ 767 ∷ 0 ∷ 0 ∷ [])
    × (shown false higher 4 ≡ 0 ∷ 1023 ∷ 1023 ∷ 0 ∷ 0 ∷ 0 ∷ [])
unfolding shown edge eight higher pair view_row seen left_row limit_at pixel_at shown_pixel near_edge placed_at owned_pixel pair_pixel last_pixel torn_pixel smooth_pixel mixed filtered weighted repeated sample_in read taps1 taps2 taps3 step_of kind_of owner limit least place list_from identity
filters = (refl, refl, refl, refl, refl, refl, refl, refl, refl, refl, refl)

-- every tap: 512 all along but 512 + 64 in column 5, so that position 1 shows 512 and the tap of column c + 4, position 8 that of column c − 3
impulse : List ℕ
impulse = list_of (λ i. cond (eqb i 5) 576 512) 12

taps :
    (shown false impulse 1 ≡ 512 ∷ 512 ∷ 513 ∷ 507 ∷ 529 ∷ 570 ∷ 502 ∷ 516 ∷ 511 ∷ 512 ∷ 512 ∷ 512 ∷ [])
    × (shown false impulse 2 ≡ 512 ∷ 511 ∷ 516 ∷ 501 ∷ 552 ∷ 552 ∷ 501 ∷ 516 ∷ 511 ∷ 512 ∷ 512 ∷ 512 ∷ [])
    × (shown false impulse 3 ≡ 512 ∷ 511 ∷ 516 ∷ 502 ∷ 570 ∷ 529 ∷ 507 ∷ 513 ∷ 512 ∷ 512 ∷ 512 ∷ 512 ∷ [])
unfolding impulse shown view_row seen left_row limit_at pixel_at shown_pixel near_edge placed_at owned_pixel pair_pixel last_pixel torn_pixel smooth_pixel mixed filtered weighted repeated sample_in read taps1 taps2 taps3 step_of kind_of owner limit least place list_from identity
taps = (refl, refl, refl)

-- a tie of the step: position 0 lies 1 past a column and position 1 lies 5 past it, both of a gap of 8: k of 1 and 3
ties : (view_row false (line usual identity four (0 ∷ 5 ∷ 1 ∷ 1 ∷ []))).samples ≡ 23 ∷ 28 ∷ 33 ∷ 40 ∷ []
unfolding four view_row seen left_row limit_at pixel_at shown_pixel near_edge placed_at owned_pixel pair_pixel last_pixel torn_pixel smooth_pixel mixed filtered weighted repeated sample_in read taps1 taps2 taps3 step_of kind_of owner limit least place list_from identity
ties = refl

-- ---- near edges: of two columns placed at 5 position 1 shows the greater, and its own owner where the place of the column after that is 5 too, or
-- where the limit is 6; where it would show a torn pair's hole it shows the edge, and no hole

six : List ℕ
six = 10 ∷ 20 ∷ 30 ∷ 40 ∷ 50 ∷ 60 ∷ []

near : List ℕ → Row
near d = view_row false (line usual identity six d)

edges :
    ((near (0 ∷ 0 ∷ 0 ∷ 7 ∷ 11 ∷ 0 ∷ [])).samples ≡ 10 ∷ 50 ∷ 60 ∷ 60 ∷ 60 ∷ 60 ∷ [])
    × ((near (0 ∷ 0 ∷ 3 ∷ 0 ∷ 11 ∷ 0 ∷ [])).samples ≡ 10 ∷ 20 ∷ 60 ∷ 60 ∷ 60 ∷ 60 ∷ [])
    × ((near (0 ∷ 0 ∷ 0 ∷ 6 ∷ 0 ∷ 0 ∷ [])).samples ≡ 10 ∷ 20 ∷ 50 ∷ 50 ∷ 50 ∷ 60 ∷ [])
    × ((near (0 ∷ 5 ∷ 0 ∷ 7 ∷ 0 ∷ 0 ∷ [])).samples ≡ 20 ∷ 40 ∷ 50 ∷ 50 ∷ 50 ∷ 60 ∷ [])
    × ((near (0 ∷ 5 ∷ 0 ∷ 7 ∷ 0 ∷ 0 ∷ [])).marks ≡ 0 ∷ 0 ∷ 1 ∷ 1 ∷ 0 ∷ 0 ∷ [])
    × ((near (0 ∷ 5 ∷ 0 ∷ 7 ∷ 0 ∷ 0 ∷ [])).fronts ≡ 5 ∷ 7 ∷ 0 ∷ 0 ∷ 0 ∷ 0 ∷ [])
unfolding near six view_row seen left_row limit_at pixel_at shown_pixel near_edge placed_at owned_pixel pair_pixel last_pixel torn_pixel smooth_pixel mixed filtered weighted repeated sample_in read taps1 taps2 taps3 step_of kind_of owner limit least place list_from identity
edges = (refl, refl, refl, refl, refl, refl)

-- ---- two rows of nine columns whose views have nothing in common: tables, textures and depths. Every case of a combined sample occurs, a hole in a row's
-- second byte of marks, and an entry of the reference above 1,023.

unlike : Settings
unlike = record { w = 9; h = 2; left = identity; right = list_of (λ d. 2 * d) 256; share = 16; tolerance = 3; tear = usual; total = 0 }

unlike_pictures : Pictures
unlike_pictures = pictures (list_of (λ i. 10 * i) 18) (list_of (λ i. 1000 - 20 * i) 18) (list_of (λ i. cond (eqb i 17) 2000 500) 18)

unlike_depths : Depths
unlike_depths =
    depths (5 ∷ 0 ∷ 5 ∷ 0 ∷ 9 ∷ 0 ∷ 1 ∷ 12 ∷ 1 ∷ 12 ∷ 0 ∷ 12 ∷ 12 ∷ 5 ∷ 0 ∷ 0 ∷ 1 ∷ 1 ∷ [])
    (3 ∷ 0 ∷ 1 ∷ 0 ∷ 5 ∷ 0 ∷ 7 ∷ 3 ∷ 7 ∷ 5 ∷ 1 ∷ 7 ∷ 5 ∷ 7 ∷ 5 ∷ 0 ∷ 1 ∷ 3 ∷ [])

unlike_held : Held
unlike_held =
    held
    (view (10 ∷ 20 ∷ 40 ∷ 50 ∷ 70 ∷ 80 ∷ 80 ∷ 80 ∷ 80 ∷ 120 ∷ 130 ∷ 130 ∷ 130 ∷ 140 ∷ 140 ∷ 150 ∷ 163 ∷ 170 ∷ [])
    (0 ∷ 5 ∷ 9 ∷ 0 ∷ 12 ∷ 1 ∷ 1 ∷ 1 ∷ 1 ∷ 12 ∷ 5 ∷ 5 ∷ 5 ∷ 0 ∷ 0 ∷ 0 ∷ 1 ∷ 1 ∷ [])
    (neg 5 ∷ pos 3 ∷ pos 3 ∷ pos 7 ∷ pos 7 ∷ pos 16 ∷ pos 16 ∷ pos 16 ∷ pos 31 ∷ neg 12 ∷ neg 4 ∷ neg 4 ∷ pos 0 ∷ pos 11 ∷ pos 20 ∷ pos 24 ∷ pos 27 ∷ pos 31 ∷ [])
    (233 ∷ 0 ∷ 22 ∷ 0 ∷ []))
    (view (1000 ∷ 1000 ∷ 964 ∷ 940 ∷ 940 ∷ 940 ∷ 940 ∷ 900 ∷ 900 ∷ 820 ∷ 820 ∷ 820 ∷ 800 ∷ 800 ∷ 800 ∷ 755 ∷ 745 ∷ 674 ∷ [])
    (3 ∷ 3 ∷ 1 ∷ 0 ∷ 0 ∷ 0 ∷ 0 ∷ 0 ∷ 0 ∷ 5 ∷ 5 ∷ 5 ∷ 1 ∷ 1 ∷ 1 ∷ 7 ∷ 7 ∷ 3 ∷ [])
    (pos 26 ∷ pos 26 ∷ pos 22 ∷ pos 20 ∷ pos 6 ∷ pos 6 ∷ neg 6 ∷ neg 6 ∷ neg 14 ∷ pos 22 ∷ pos 22 ∷ pos 10 ∷ pos 10 ∷ pos 2 ∷ pos 2 ∷ pos 2 ∷ pos 2 ∷ neg 6 ∷ [])
    (243 ∷ 1 ∷ 63 ∷ 0 ∷ []))
    (10 ∷ 20 ∷ 40 ∷ 940 ∷ 70 ∷ 940 ∷ 940 ∷ 900 ∷ 80 ∷ 120 ∷ 130 ∷ 130 ∷ 130 ∷ 140 ∷ 140 ∷ 755 ∷ 745 ∷ 296 ∷ [])

unlike_drawn : (fresh unlike unlike_pictures unlike_depths ≡ unlike_held) × (fresh_total unlike unlike_pictures unlike_depths ≡ 3252079)
unfolding unlike unlike_pictures unlike_depths unlike_held fresh fresh_view fresh_row fresh_sample fresh_combined total_of fresh_total rows row_of sum_to pack_row pack_byte blended both_shown both_holes combined_of square_error view_row seen left_row limit_at pixel_at shown_pixel near_edge placed_at owned_pixel pair_pixel last_pixel torn_pixel smooth_pixel mixed filtered weighted repeated sample_in read taps1 taps2 taps3 step_of kind_of owner limit least place list_from identity
unlike_drawn = (refl, refl)

-- what RENDER draws of the right view's first row
unlike_strip :
    strip_of 9 (fresh_row unlike unlike_pictures unlike_depths true 0)
    ≡ strip (1000 ∷ 1000 ∷ 964 ∷ 940 ∷ 940 ∷ 940 ∷ 940 ∷ 900 ∷ 900 ∷ []) (243 ∷ 1 ∷ []) (3 ∷ 3 ∷ 1 ∷ 0 ∷ 0 ∷ 0 ∷ 0 ∷ 0 ∷ 0 ∷ [])
unfolding unlike unlike_pictures unlike_depths strip_of fresh_row row_of pack_row pack_byte view_row seen left_row limit_at pixel_at shown_pixel near_edge placed_at owned_pixel pair_pixel last_pixel torn_pixel smooth_pixel mixed filtered weighted repeated sample_in read taps1 taps2 taps3 step_of kind_of owner limit least place list_from identity
unlike_strip = refl

-- ---- spans: column 2 from depth 0 to 4 spans from a quarter before the place of column 1 to the limit of column 3; to depth 7 from a quarter before
-- its new place, 1

edited : ℕ → Depths
edited d = depths (0 ∷ 0 ∷ d ∷ 0 ∷ []) (0 ∷ 0 ∷ 0 ∷ 0 ∷ [])

spans_left :
    (list_of (span_has (settings 1) false (block 2 0 1 1) (opening 1) (edited 4) 0) 4 ≡ false ∷ true ∷ true ∷ false ∷ [])
    × (list_of (span_has (settings 1) false (block 2 0 1 1) (opening 1) (edited 7) 0) 4 ≡ true ∷ true ∷ true ∷ false ∷ [])
unfolding edited span_has in_span least_edited span_low span_high view_place place least limit first_column entry_of seen row_of rows settings opening identity list_from
spans_left = (refl, refl)

limits_left : list_of (limit_moves (settings 1) false (block 2 0 1 1)) 4 ≡ true ∷ true ∷ true ∷ false ∷ []
unfolding limit_moves first_column entry_of settings list_from
limits_left = refl

-- The right view, by its own table: reversed columns 6 and 7 are entries 2 and 1, and reversed column 8, entry 0, is placed at 26. To depth 2 the span runs from
-- a quarter before the place of reversed column 5, 20, to 26; to depth 6 from a quarter before the new place of reversed column 6, 12. With the last reversed
-- column in the block it runs to the row's end.
rightward : ℕ → ℕ → ℕ → Depths
rightward a b c = depths (list_of (λ i. 0) 18) (a ∷ b ∷ c ∷ list_of (λ i. 0) 15)

spans_right :
    (list_of (span_has unlike true (block 1 0 2 1) (rightward 3 0 0) (rightward 3 2 2) 0) 9 ≡ false ∷ false ∷ true ∷ true ∷ false ∷ false ∷ false ∷ false ∷ false ∷ [])
    × (list_of (span_has unlike true (block 1 0 2 1) (rightward 3 0 0) (rightward 3 6 6) 0) 9 ≡ false ∷ false ∷ true ∷ true ∷ true ∷ true ∷ false ∷ false ∷ false ∷ [])
    × (list_of (span_has unlike true (block 0 0 2 1) (rightward 3 0 0) (rightward 6 6 0) 0) 9 ≡ true ∷ true ∷ true ∷ true ∷ true ∷ false ∷ false ∷ false ∷ false ∷ [])
unfolding unlike rightward span_has in_span least_edited span_low span_high view_place place least limit first_column entry_of seen row_of identity list_from
spans_right = (refl, refl, refl)

limits_right : list_of (limit_moves unlike true (block 1 0 2 1)) 9 ≡ false ∷ true ∷ true ∷ true ∷ true ∷ true ∷ true ∷ true ∷ true ∷ []
unfolding unlike limit_moves first_column entry_of list_from
limits_right = refl

-- ---- filled blocks: 7 stands in region 0, 9 in region 1

abbrev point : ℕ → ℕ → Point
point column row = record { column = column; row = row }

abbrev by : Point → Point → Candidate
by start end = Regions 7 9 (Line start end)

-- a line between opposite corners and its reverse; positions on the line are in region 0 both ways
corners :
    (filled (block 5 6 4 4) (by (point 0 0) (point 3 3)) [] ≡ 7 ∷ 7 ∷ 7 ∷ 7 ∷ 9 ∷ 7 ∷ 7 ∷ 7 ∷ 9 ∷ 9 ∷ 7 ∷ 7 ∷ 9 ∷ 9 ∷ 9 ∷ 7 ∷ [])
    × (filled (block 5 6 4 4) (by (point 3 3) (point 0 0)) [] ≡ 7 ∷ 9 ∷ 9 ∷ 9 ∷ 7 ∷ 7 ∷ 9 ∷ 9 ∷ 7 ∷ 7 ∷ 7 ∷ 9 ∷ 7 ∷ 7 ∷ 7 ∷ 7 ∷ [])
unfolding filled in_region1 cross list_from
corners = (refl, refl)

-- a line from the first row to the last, and one from the first column to the last row of a block that is wider than high
sides :
    (filled (block 0 0 4 4) (by (point 1 0) (point 2 3)) [] ≡ 9 ∷ 7 ∷ 7 ∷ 7 ∷ 9 ∷ 9 ∷ 7 ∷ 7 ∷ 9 ∷ 9 ∷ 7 ∷ 7 ∷ 9 ∷ 9 ∷ 7 ∷ 7 ∷ [])
    × (filled (block 0 0 5 3) (by (point 0 1) (point 3 2)) [] ≡ 7 ∷ 7 ∷ 7 ∷ 7 ∷ 7 ∷ 7 ∷ 7 ∷ 7 ∷ 7 ∷ 7 ∷ 9 ∷ 9 ∷ 9 ∷ 7 ∷ 7 ∷ [])
unfolding filled in_region1 cross list_from
sides = (refl, refl)

-- a mask of three rows of three: no gap between rows, and the spare bits of its second byte do not count
masked :
    (filled (block 0 0 3 3) (Regions 7 9 Mask) (181 ∷ 1 ∷ []) ≡ 9 ∷ 7 ∷ 9 ∷ 7 ∷ 9 ∷ 9 ∷ 7 ∷ 9 ∷ 9 ∷ [])
    × (filled (block 0 0 3 3) (Regions 7 9 Mask) (181 ∷ 255 ∷ []) ≡ 9 ∷ 7 ∷ 9 ∷ 7 ∷ 9 ∷ 9 ∷ 7 ∷ 9 ∷ 9 ∷ [])
unfolding filled in_region1 list_from
masked = (refl, refl)

-- one value, and a full block
flat_and_full : (filled (block 0 0 3 2) (Flat 5) [] ≡ 5 ∷ 5 ∷ 5 ∷ 5 ∷ 5 ∷ 5 ∷ []) × (filled (block 0 0 2 1) Full (3 ∷ 4 ∷ []) ≡ 3 ∷ 4 ∷ [])
unfolding filled list_from
flat_and_full = (refl, refl)

-- ---- lines: opposite corners are taken, sides that meet, and opposite sides; corners of one side, a point inside the border, and points past the last column or row are not

abbrev taken : ℕ → ℕ → Point → Point → Bool
taken width height start end = line_ok (block 5 6 width height) start end

lines :
    (taken 4 4 (point 0 0) (point 3 3) ≡ true)
    × (taken 4 4 (point 3 0) (point 0 3) ≡ true)
    × (taken 4 4 (point 1 0) (point 0 2) ≡ true)
    × (taken 4 4 (point 1 0) (point 2 3) ≡ true)
    × (taken 4 4 (point 0 1) (point 3 2) ≡ true)
    × (taken 2 2 (point 0 0) (point 1 1) ≡ true)
    × (taken 4 4 (point 0 0) (point 3 0) ≡ false)
    × (taken 4 4 (point 3 0) (point 3 3) ≡ false)
    × (taken 4 4 (point 0 3) (point 3 3) ≡ false)
    × (taken 4 4 (point 0 0) (point 0 3) ≡ false)
    × (taken 4 4 (point 0 0) (point 0 0) ≡ false)
    × (taken 4 4 (point 1 1) (point 3 3) ≡ false)
    × (taken 4 4 (point 0 0) (point 3 4) ≡ false)
    × (taken 4 4 (point 4 1) (point 0 0) ≡ false)
    × (taken 1 4 (point 0 0) (point 0 3) ≡ false)
    × (taken 4 1 (point 0 0) (point 3 0) ≡ false)
unfolding line_ok on_border side_shared
lines = (refl, refl, refl, refl, refl, refl, refl, refl, refl, refl, refl, refl, refl, refl, refl, refl)

-- ---- refusals: pairs of conditions show the order, 6, then 5, then 7, 14 or 15; one value has none of its own, and a line's bytes are not counted

abbrev across : Candidate
across = by (point 0 0) (point 1 1)

own_order :
    (own_then (settings 1) 2 (block 4 0 1 1) Full 1 0 ≡ 6)
    × (own_then (settings 1) 1 (block 4 0 1 1) Full 9 0 ≡ 5)
    × (own_then (settings 1) 1 (block 2 0 0 1) Full 0 0 ≡ 5)
    × (own_then (settings 1) 1 (block 2 0 2 1) Full 1 0 ≡ 7)
    × (own_then (settings 1) 1 (block 2 0 2 1) Full 2 0 ≡ 0)
    × (own_then (settings 1) 2 (block 2 0 2 1) across 0 0 ≡ 6)
    × (own_then (settings 1) 1 (block 2 0 3 1) across 0 0 ≡ 5)
    × (own_then (settings 1) 1 (block 2 0 2 1) across 2 0 ≡ 14)
    × (own_then (settings 2) 1 (block 2 0 2 2) across 9 0 ≡ 0)
    × (own_then (settings 1) 2 (block 0 0 4 1) (Regions 7 9 Mask) 2 0 ≡ 6)
    × (own_then (settings 1) 1 (block 0 0 5 1) (Regions 7 9 Mask) 2 0 ≡ 5)
    × (own_then (settings 1) 1 (block 0 0 4 1) (Regions 7 9 Mask) 4 0 ≡ 15)
    × (own_then (settings 2) 1 (block 0 0 4 2) (Regions 7 9 Mask) 2 0 ≡ 15)
    × (own_then (settings 2) 1 (block 0 0 4 2) (Regions 7 9 Mask) 1 0 ≡ 0)
    × (own_then (settings 1) 2 (block 4 0 1 1) (Flat 5) 9 0 ≡ 6)
    × (own_then (settings 1) 1 (block 4 0 1 1) (Flat 5) 9 0 ≡ 5)
    × (own_then (settings 1) 1 (block 2 0 2 1) (Flat 5) 9 0 ≡ 0)
unfolding own_then candidate_then line_ok on_border side_shared block_ok settings
own_order = (refl, refl, refl, refl, refl, refl, refl, refl, refl, refl, refl, refl, refl, refl, refl, refl, refl)

-- ---- CHECK

abbrev drawn : View
drawn = view four (0 ∷ 0 ∷ 0 ∷ 0 ∷ []) (pos 0 ∷ pos 4 ∷ pos 8 ∷ pos 12 ∷ []) (0 ∷ [])

report : Settings → List ℕ → List ℕ → Report
report s marks combined = report_of s (images 1) (opening 1) (held drawn (view drawn.samples drawn.fronts (pos 12 ∷ pos 8 ∷ pos 4 ∷ pos 0 ∷ []) marks) combined)

-- sound; a wrong sample; a spare bit, which counts with the last column; a wrong total
reports :
    (report (settings 1) (0 ∷ []) four ≡ Sound)
    × (report (settings 1) (0 ∷ []) (10 ∷ 21 ∷ 30 ∷ 41 ∷ []) ≡ Difference 0 1)
    × (report (settings 1) (16 ∷ []) four ≡ Difference 0 3)
    × (report (with_total (settings 1) 1) (0 ∷ []) four ≡ Total)
unfolding report report_of first_difference first_bad same_at same_view same_mark fresh fresh_view fresh_row fresh_sample fresh_combined total_of fresh_total view_row seen left_row limit_at pixel_at shown_pixel near_edge placed_at owned_pixel pair_pixel last_pixel torn_pixel smooth_pixel mixed filtered weighted repeated sample_in read taps1 taps2 taps3 step_of kind_of owner limit least place list_from rows row_of sum_to pack_row pack_byte blended both_shown both_holes combined_of square_error settings opening images four identity
reports = (refl, refl, refl, refl)

-- ---- the journal's refusals: 8, 13, 11 in SET, 13, 12, 8 in TAKE BACK, 4, 20, 13, 21 in OPEN. A journal of no words has 13, 11 and 12 at once, word 0 alone 11
-- and 12; a change of -1 leads below 0. OPEN looks at no record.

abbrev lent : Held
lent = held drawn drawn four

abbrev setting : List ℕ → ℤ → ℕ
setting j change = set_number (settings 1) (images 1) (opening 1) lent j 0 (block 2 0 1 1) Full 1 change

abbrev taking : List ℕ → ℤ → ℕ
taking j change = take_back_number (settings 1) (images 1) (opening 1) lent j change

-- share, the two numbers of card 11, a sample of the left texture, journal
abbrev starting : ℕ → Tear → ℕ → List ℕ → ℕ
starting share e sample j =
    open_number (record { w = 4; h = 1; left = identity; right = identity; share = share; tolerance = 255; tear = e; total = 0 })
    (pictures (10 ∷ 20 ∷ 30 ∷ sample ∷ []) four four) (opening 1) lent j

journal_order :
    (setting [] (neg 1) ≡ 8)
    × (setting [] (pos 0) ≡ 13)
    × (setting (0 ∷ []) (neg 1) ≡ 8)
    × (setting (0 ∷ []) (pos 0) ≡ 11)
    × (setting (0 ∷ junk 6) (pos 0) ≡ 11)
    × (setting (0 ∷ junk 7) (pos 0) ≡ 0)
    × (taking [] (neg 1) ≡ 13)
    × (taking (0 ∷ []) (neg 1) ≡ 12)
    × (taking (1 ∷ saves 0 4 []) (neg 1) ≡ 8)
    × (taking (1 ∷ saves 0 4 []) (pos 0) ≡ 0)
    × (starting 65 (tear 3 1) 1024 [] ≡ 4)
    × (starting 64 (tear 3 1) 1024 [] ≡ 20)
    × (starting 64 usual 1024 [] ≡ 13)
    × (starting 64 usual 1024 (9 ∷ []) ≡ 21)
    × (starting 64 usual 1023 (9 ∷ []) ≡ 0)
unfolding common_then size_ok side_ok planes_sized pictures_sized depths_sized view_sized held_sized tables_ok tear_ok up_to pictures_ok own_then block_ok candidate_then in_range saving_then taking_then journal_ok chain_ok record_ok record_depths room_ok next_index list_from rows settings opening images four identity
journal_order = (refl, refl, refl, refl, refl, refl, refl, refl, refl, refl, refl, refl, refl, refl, refl)

-- ---- card 11: the widest gap 4 to 64, the distance 0 to 3; 20 right after 4, in RENDER after 3

tears :
    (tear_ok (tear 3 1) ≡ false)
    × (tear_ok (tear 4 0) ≡ true)
    × (tear_ok (tear 64 3) ≡ true)
    × (tear_ok (tear 65 1) ≡ false)
    × (tear_ok (tear 8 4) ≡ false)
unfolding tear_ok
tears = (refl, refl, refl, refl, refl)

-- MOVE: 2, 3, 4, 20, 13, 21. An entry of the left table, share, numbers, reference, journal.
abbrev moving : ℕ → ℕ → Tear → List ℕ → List ℕ → ℕ
moving entry share e reference j =
    move_number (settings 1) (record { w = 0; h = 0; left = entry ∷ []; right = []; share = share; tolerance = 0; tear = e; total = 0 }) reference j

move_order :
    (moving 1024 65 (tear 3 1) (1024 ∷ []) [] ≡ 2)
    × (moving 1024 65 (tear 3 1) (10 ∷ 20 ∷ 30 ∷ 1024 ∷ []) [] ≡ 3)
    × (moving 1023 65 (tear 3 1) (10 ∷ 20 ∷ 30 ∷ 1024 ∷ []) [] ≡ 4)
    × (moving 1023 64 (tear 3 1) (10 ∷ 20 ∷ 30 ∷ 1024 ∷ []) [] ≡ 20)
    × (moving 1023 64 usual (10 ∷ 20 ∷ 30 ∷ 1024 ∷ []) [] ≡ 13)
    × (moving 1023 64 usual (10 ∷ 20 ∷ 30 ∷ 1024 ∷ []) (9 ∷ []) ≡ 21)
    × (moving 1023 64 usual (10 ∷ 20 ∷ 30 ∷ 1023 ∷ []) (9 ∷ []) ≡ 0)
unfolding move_number tables_ok tear_ok up_to settings
move_order = (refl, refl, refl, refl, refl, refl, refl)

-- RENDER: an entry of the left table, numbers, view
abbrev rendering : ℕ → Tear → ℕ → ℕ
rendering entry e v =
    render_number (record { w = 1; h = 0; left = entry ∷ []; right = []; share = 65; tolerance = 0; tear = e; total = 0 }) v (50 ∷ []) (0 ∷ []) (strip (0 ∷ []) (0 ∷ []) (0 ∷ []))

render_order :
    (rendering 1024 (tear 3 1) 2 ≡ 3)
    × (rendering 1023 (tear 3 1) 2 ≡ 20)
    × (rendering 1023 usual 2 ≡ 6)
    × (rendering 1023 usual 1 ≡ 0)
unfolding render_number strip_sized side_ok tables_ok tear_ok up_to
render_order = (refl, refl, refl, refl)
