-- Values of the definitions where no other law tells right from nearly right: the step k with its ties, every case of a combined sample, the numbers of CHECK,
-- RENDER and HOLES with one length wrong or with several faults, what a MOVE draws with, what is held as it is read, and the ends of the totals.
use Prim.Native.Nat.{ℕ}
use mathlib.Core.Path.{◌≡◌, refl}
use mathlib.Core.Bool.{Bool, true, false}
use mathlib.Core.List.{List, [], ◌∷◌}
use lib.IntN.{ℤ, pos}
use Rattle.model.specs.declared.Settings.{Settings}
use Rattle.model.specs.Lists.{list_of, list_from}
use Rattle.model.specs.Row.{step_of, read, sample_in, neg, pixel}
use Rattle.model.specs.Combined.{blended, both_shown, both_holes, combined_of}
use Rattle.model.specs.Planes.{pictures, depths, view, held, strip, with_total, with_seat, with_reference, read_all, read_held}
use Rattle.model.specs.Refusals.{side_ok, size_ok, pictures_sized, depths_sized, view_sized, held_sized, planes_sized, up_to, tables_ok, tear_ok, in_range, common_then, check_number, strip_sized, render_number, holes_number}

-- ---- the step

-- t from 0 to 7 of a gap of 8: each odd t lies midway between two steps, and takes the greater
steps_of_8 : list_of (λ t. step_of t 8) 8 ≡ 0 ∷ 1 ∷ 1 ∷ 2 ∷ 2 ∷ 3 ∷ 3 ∷ 4 ∷ []
unfolding step_of list_from
steps_of_8 = refl

-- gaps of 1, 3 and 5, which have no such t; a gap of 4 has a step for each t
steps :
    (step_of 0 1 ≡ 0)
    × (list_of (λ t. step_of t 3) 3 ≡ 0 ∷ 1 ∷ 3 ∷ [])
    × (list_of (λ t. step_of t 4) 4 ≡ 0 ∷ 1 ∷ 2 ∷ 3 ∷ [])
    × (list_of (λ t. step_of t 5) 5 ≡ 0 ∷ 1 ∷ 2 ∷ 2 ∷ 3 ∷ [])
unfolding step_of list_from
steps = (refl, refl, refl, refl)

-- ---- the combined picture

-- share 16, tolerance 3, samples 100 and 202; mark and front depth of the left view, then of the right one
abbrev combining : ℕ → ℕ → ℕ → ℕ → ℕ
combining leftMark leftFront rightMark rightFront = combined_of 16 3 (pixel 100 leftMark leftFront) (pixel 202 rightMark rightFront)

-- both marks 0: 125.5 rounded up where the depths differ by at most 3; by more, the sample of the larger depth
both_shown_lem :
    (combining 0 7 0 7 ≡ 126)
    × (combining 0 10 0 7 ≡ 126)
    × (combining 0 7 0 10 ≡ 126)
    × (combining 0 11 0 7 ≡ 100)
    × (combining 0 7 0 11 ≡ 202)
unfolding combined_of both_shown blended
both_shown_lem = (refl, refl, refl, refl, refl)

-- one mark 0: that view's sample, whichever is nearer
one_shown :
    (combining 0 7 1 9 ≡ 100)
    × (combining 0 9 1 7 ≡ 100)
    × (combining 1 7 0 9 ≡ 202)
    × (combining 1 9 0 7 ≡ 202)
unfolding combined_of
one_shown = (refl, refl, refl, refl)

-- both marks 1: the sample of the smaller depth, left if equal
both_holes_lem : (combining 1 6 1 7 ≡ 100) × (combining 1 7 1 6 ≡ 202) × (combining 1 7 1 7 ≡ 100)
unfolding combined_of both_holes
both_holes_lem = (refl, refl, refl)

-- ---- numbers

-- n entries
abbrev zeros : ℕ → List ℕ
zeros n = list_of (λ i. 0) n

-- w columns and h rows; an entry of the right table, share and widest gap
abbrev settings : ℕ → ℕ → ℕ → ℕ → ℕ → Settings
settings w h entry share gap =
    record { w = w; h = h; left = []; right = entry ∷ []; share = share; tolerance = 0; tear = record { gap = gap; distance = 1 }; total = 0 }

-- CHECK of one column and h rows: the length of the combined picture, then entry, share and gap. It takes the entries of 1,024 in the pictures.
abbrev checking : ℕ → ℕ → ℕ → ℕ → ℕ → ℕ
checking h n entry share gap =
    let one = view (zeros 1) (zeros 1) (pos 0 ∷ []) (zeros 1) in
    check_number (settings 1 h entry share gap) (pictures (1024 ∷ []) (1024 ∷ []) (1024 ∷ [])) (depths (zeros 1) (zeros 1)) (held one one (zeros n))

-- 1, 2, 3, 4, then 20
check_order :
    (checking 0 0 1024 65 3 ≡ 1)
    × (checking 1 0 1024 65 3 ≡ 2)
    × (checking 1 1 1024 65 3 ≡ 3)
    × (checking 1 1 1023 65 3 ≡ 4)
    × (checking 1 1 1023 64 3 ≡ 20)
    × (checking 1 1 1023 64 4 ≡ 0)
unfolding common_then size_ok side_ok planes_sized pictures_sized depths_sized view_sized held_sized tables_ok tear_ok up_to list_from
check_order = (refl, refl, refl, refl, refl, refl)

-- RENDER of 9 columns: an entry of the right table, view, and the lengths of texture, depths, samples, marks and front depths
abbrev rendering : ℕ → ℕ → ℕ → ℕ → ℕ → ℕ → ℕ → ℕ
rendering entry v t d x m f = render_number (settings 9 0 entry 65 8) v (zeros t) (zeros d) (strip (zeros x) (zeros m) (zeros f))

-- 2 for each length alone, before 3 and 6
render_lengths :
    (rendering 1023 0 9 9 9 2 9 ≡ 0)
    × (rendering 1023 0 8 9 9 2 9 ≡ 2)
    × (rendering 1023 0 9 10 9 2 9 ≡ 2)
    × (rendering 1023 0 9 9 8 2 9 ≡ 2)
    × (rendering 1023 0 9 9 9 1 9 ≡ 2)
    × (rendering 1023 0 9 9 9 2 10 ≡ 2)
    × (rendering 1024 2 9 9 9 2 8 ≡ 2)
    × (rendering 1024 2 9 9 9 2 9 ≡ 3)
    × (rendering 1023 2 9 9 9 2 9 ≡ 6)
    × (render_number (settings 0 0 1024 65 8) 2 (zeros 9) [] (strip [] [] []) ≡ 1)
unfolding render_number strip_sized side_ok tables_ok tear_ok up_to list_from
render_lengths = (refl, refl, refl, refl, refl, refl, refl, refl, refl, refl)

-- HOLES of 9 columns: rows, view, and the lengths of the left and the right marks
abbrev counting : ℕ → ℕ → ℕ → ℕ → ℕ
counting h v left right = holes_number (settings 9 h 1024 65 8) v (zeros left) (zeros right)

-- 1, then 2 for each length alone, then 6
holes_order :
    (counting 0 2 3 4 ≡ 1)
    × (counting 4097 0 4 4 ≡ 1)
    × (counting 2 2 3 4 ≡ 2)
    × (counting 2 2 4 5 ≡ 2)
    × (counting 2 0 4 3 ≡ 2)
    × (counting 2 1 5 4 ≡ 2)
    × (counting 2 2 4 4 ≡ 6)
    × (counting 2 0 4 4 ≡ 0)
    × (counting 2 1 4 4 ≡ 0)
unfolding holes_number size_ok side_ok list_from
holes_order = (refl, refl, refl, refl, refl, refl, refl, refl, refl)

-- ---- MOVE: w, h and the total stay, all else is new; the textures stay

abbrev all : ℕ → ℕ → ℕ → ℕ → ℕ → ℕ → ℕ → ℕ → ℕ → Settings
all w h left right share tolerance gap distance total =
    record { w = w; h = h; left = left ∷ []; right = right ∷ []; share = share; tolerance = tolerance; tear = record { gap = gap; distance = distance }; total = total }

moved :
    (with_seat (all 1 2 3 4 5 6 7 8 9) (all 11 12 13 14 15 16 17 18 19) ≡ all 1 2 13 14 15 16 17 18 9)
    × (with_total (all 1 2 3 4 5 6 7 8 9) 10 ≡ all 1 2 3 4 5 6 7 8 10)
    × (with_reference (pictures (1 ∷ []) (2 ∷ []) (3 ∷ [])) (4 ∷ []) ≡ pictures (1 ∷ []) (2 ∷ []) (4 ∷ []))
moved = (refl, refl, refl)

-- ---- what is held, as it is read: samples of either view and of the combined picture, and nothing else

read_held_lem :
    read_held (held (view (1024 ∷ 5 ∷ []) (255 ∷ []) (pos 2000 ∷ []) (255 ∷ [])) (view (6 ∷ 2000 ∷ []) (254 ∷ []) (pos 3000 ∷ []) (254 ∷ [])) (65535 ∷ 1023 ∷ []))
    ≡ held (view (1023 ∷ 5 ∷ []) (255 ∷ []) (pos 2000 ∷ []) (255 ∷ [])) (view (6 ∷ 1023 ∷ []) (254 ∷ []) (pos 3000 ∷ []) (254 ∷ [])) (1023 ∷ 1023 ∷ [])
unfolding read_held read_all sample_in read list_from
read_held_lem = refl

-- ---- 8: from 0 to 1,046,529 × w × h, here of two columns, three rows and a held total of 9

abbrev changed : ℤ → Bool
changed change = in_range (all 2 3 0 0 0 0 0 0 9) change

totals : (changed (pos 6279165) ≡ true) × (changed (pos 6279166) ≡ false) × (changed (neg 9) ≡ true) × (changed (neg 10) ≡ false)
unfolding in_range
totals = (refl, refl, refl, refl)
