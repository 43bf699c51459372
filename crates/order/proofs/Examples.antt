-- What the definitions compute.
--     answers_differ     on the session of document 01's cases k to m single answers depend on the order and their sum does not; where blocks overlap by one column,
--                        the sum does too
--     which_separate     which edits are separate, by the usual test
--     which_sets         what of a run are its SETs and their answers
--     which_have         candidates of every kind that fill a block with the depths that it has
use Prim.Native.Nat.{ℕ}
use mathlib.Core.Path.{◌≡◌, refl}
use mathlib.Core.Bool.{Bool, true, false}
use mathlib.Core.List.{List, [], ◌∷◌}
use lib.IntN.{ℤ, pos}
use Rattle.model.specs.declared.Settings.{Settings}
use Rattle.model.specs.declared.Block.{Block}
use Rattle.model.specs.declared.Split.TheVariants.{Line, Mask}
use Rattle.model.specs.declared.Candidate.TheVariants.{Full, Flat, Regions}
use Rattle.model.specs.Lists.{list_of, list_from, rows, row_of, sum_to}
use Rattle.model.specs.Row.{neg, place, least, limit, owner, kind_of, step_of, taps1, taps2, taps3, repeated, sample_in, read, weighted, filtered, mixed, smooth_pixel, torn_pixel, last_pixel, pair_pixel, owned_pixel, placed_at, near_edge, shown_pixel, pixel_at, limit_at, left_row}
use Rattle.model.specs.Views.{seen, view_row}
use Rattle.model.specs.Combined.{blended, both_shown, both_holes, combined_of, square_error}
use Rattle.model.specs.Planes.{Pictures, Depths, State, pictures, depths}
use Rattle.model.specs.Fresh.{fresh_row, fresh_sample, fresh_combined, total_of, fresh_total}
use Rattle.model.specs.Candidates.{cross, in_region1, filled}
use Rattle.model.specs.Blocks.{in_block, written_plane, written, block_depths, change_of}
use Rattle.run.specs.Run.{Call, Event}
use Rattle.run.specs.Run.Call.{get, set, move}
use Rattle.order.specs.Separate.{Edit, edit, apart, separate}
use Rattle.order.specs.NoOp.{BlockHas}
use Rattle.order.specs.Orders.{sets_after, sets_of, sum_of_answers}

-- one row of four columns, as in cases k to m, but for the share
settings : ℕ → Settings
settings share =
    record { w = 4; h = 1; left = list_of (λ d. d) 256; right = list_of (λ d. d) 256; share = share; tolerance = 255; tear = record { gap = 8; distance = 1 }; total = 0 }

row : List ℕ
row = 10 ∷ 20 ∷ 30 ∷ 40 ∷ []

shown : Pictures
shown = pictures row row row

flat : Depths
flat = depths (0 ∷ 0 ∷ 0 ∷ 0 ∷ []) (0 ∷ 0 ∷ 0 ∷ 0 ∷ [])

-- columns from `column` on of view v get these depths
abbrev columns : ℕ → ℕ → ℕ → List ℕ → Edit
columns v column width c = edit v (record { column = column; row = 0; width = width; height = 1 }) c

-- what an edit answers on these depths, and the depths after it
abbrev answer : Settings → Depths → Edit → ℤ
answer s d k = change_of s shown d k.view k.block k.depths

abbrev after : Settings → Depths → Edit → Depths
after s d k = written s k.view k.block k.depths d

-- k answers x, and l after it y; l first answers z, and k after it u
abbrev Answers : ℕ → Edit → Edit → ℤ → ℤ → ℤ → ℤ → Type 0
Answers share k l x y z u =
    let s = settings share in
    ((answer s flat k ≡ x) × (answer s (after s flat k) l ≡ y)) × ((answer s flat l ≡ z) × (answer s (after s flat l) k ≡ u))

answers_differ :
    -- neighbouring columns, in the left view and in the right one
    Answers 0 (columns 0 1 1 (4 ∷ [])) (columns 0 2 1 (5 ∷ [])) (pos 125) (pos 75) (pos 100) (pos 100)
    × Answers 64 (columns 1 2 1 (4 ∷ [])) (columns 1 1 1 (5 ∷ [])) (pos 125) (pos 75) (pos 100) (pos 100)
    -- neighbouring blocks of two columns
    × Answers 0 (columns 0 0 2 (4 ∷ 4 ∷ [])) (columns 0 2 2 (4 ∷ 4 ∷ [])) (pos 125) (pos 175) (pos 200) (pos 100)
    -- one column in both views: after the other's, the right view's edit takes away what by itself it adds
    × Answers 32 (columns 0 1 1 (4 ∷ [])) (columns 1 1 1 (2 ∷ [])) (pos 34) (neg 8) (pos 1) (pos 25)
    -- blocks that overlap by one column are not separate: 369 in one order, 300 in the other
    × Answers 0 (columns 0 1 2 (4 ∷ 4 ∷ [])) (columns 0 2 2 (5 ∷ 5 ∷ [])) (pos 236) (pos 133) (pos 269) (pos 31)
unfolding settings row shown flat change_of fresh_total total_of fresh_combined fresh_sample fresh_row combined_of both_shown both_holes blended square_error written written_plane in_block rows row_of sum_to view_row seen left_row limit_at pixel_at shown_pixel near_edge placed_at owned_pixel pair_pixel last_pixel torn_pixel smooth_pixel mixed filtered weighted repeated sample_in read taps1 taps2 taps3 step_of kind_of owner limit least place list_from
answers_differ =
    (((refl, refl), (refl, refl)), ((refl, refl), (refl, refl)), ((refl, refl), (refl, refl)), ((refl, refl), (refl, refl)), ((refl, refl), (refl, refl)))

-- ---- which edits are separate

abbrev block : ℕ → ℕ → ℕ → ℕ → Block
block column row width height = record { column = column; row = row; width = width; height = height }

-- an edit of these columns and rows and one that begins at column 4 of row 4, both of the left view
abbrev test : Block → Bool
test a = separate (edit 0 a []) (edit 0 (block 4 4 4 4) [])

which_separate :
    -- side by side, one above the other, corner to corner
    (test (block 0 4 4 4) ≡ true) × (test (block 8 4 4 4) ≡ true) × (test (block 4 0 4 4) ≡ true) × (test (block 4 8 4 4) ≡ true) × (test (block 0 0 4 4) ≡ true) × (test (block 8 8 4 4) ≡ true)
    -- overlapping by one column, by one row, by a corner; the same block
    × (test (block 1 4 4 4) ≡ false) × (test (block 7 4 4 4) ≡ false) × (test (block 4 1 4 4) ≡ false) × (test (block 4 7 4 4) ≡ false) × (test (block 1 1 4 4) ≡ false) × (test (block 4 4 4 4) ≡ false)
    -- one block in both views
    × (separate (edit 0 (block 4 4 4 4) []) (edit 1 (block 4 4 4 4) []) ≡ true)
    × (separate (edit 1 (block 4 4 4 4) []) (edit 0 (block 4 4 4 4) []) ≡ true)
    × (separate (edit 1 (block 4 4 4 4) []) (edit 1 (block 4 4 4 4) []) ≡ false)
unfolding separate apart
which_separate = (refl, refl, refl, refl, refl, refl, refl, refl, refl, refl, refl, refl, refl, refl, refl)

-- ---- the SETs of a run, and their answers

-- a call that was sum_of_answers by a number and a change
abbrev event : State → ℕ → ℤ → Event
event st number change = record { reply = record { number = number; change = change }; after = st; journal = [] }

abbrev first : Block
first = block 1 0 1 1

-- SET, GET, a refused SET and a refused MOVE, and another SET: the two accepted SETs count
calls : List Call
calls =
    set 0 first (Flat 4) [] [] ∷ get 0 first (Flat 9) [] ∷ set 0 (block 4 0 1 1) (Flat 7) [] [] ∷ move (settings 65) row [] ∷ set 0 (block 2 0 1 1) Full (5 ∷ []) [] ∷ []

events : State → List Event
events st = event st 0 (pos 125) ∷ event st 0 (pos 7) ∷ event st 5 (pos 0) ∷ event st 4 (pos 0) ∷ event st 0 (pos 75) ∷ []

which_sets :
    (st : State) → (sets_of calls (events st) ≡ columns 0 2 1 (5 ∷ []) ∷ columns 0 1 1 (4 ∷ []) ∷ []) × (sum_of_answers calls (events st) ≡ pos 200)
unfolding calls events sets_after sum_of_answers filled list_from
which_sets st = (refl, refl)

-- ---- candidates that fill a block with the depths that it has

-- two rows of two columns
two : Settings
two = record { w = 2; h = 2; left = []; right = []; share = 0; tolerance = 0; tear = record { gap = 8; distance = 1 }; total = 0 }

corner : State → State
corner st = record { settings = two; depths = depths (5 ∷ 5 ∷ 7 ∷ 5 ∷ []) (9 ∷ 9 ∷ 9 ∷ 9 ∷ []); held = st.held }

whole : Block
whole = block 0 0 2 2

-- every kind, in either view
which_have :
    (st : State) →
    BlockHas (corner st) 0 whole (filled whole Full (5 ∷ 5 ∷ 7 ∷ 5 ∷ []))
    × BlockHas (corner st) 0 whole (filled whole (Regions 5 7 (Line (record { column = 0; row = 0 }) (record { column = 1; row = 1 }))) [])
    × BlockHas (corner st) 0 whole (filled whole (Regions 5 7 Mask) (4 ∷ []))
    × BlockHas (corner st) 0 (block 0 1 1 1) (filled (block 0 1 1 1) (Flat 7) [])
    × BlockHas (corner st) 1 whole (filled whole (Flat 9) [])
unfolding two corner whole filled in_region1 cross block_depths list_from
which_have st = (refl, refl, refl, refl, refl)
