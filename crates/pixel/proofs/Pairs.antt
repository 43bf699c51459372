-- A pair of columns shows what the row shows where the first of them is the owner.
--     next_last, next_inner, next_most     the place after a column
--     pair_pixel_lem                           what the pair shows is what the row does
--     past_cases                           the edge right of the column before a pair's is the pair's column, or stays
use Prim.Native.Nat.{ℕ, ◌+◌, ◌<◌, ◌≤◌, min}
use mathlib.Core.Path.{◌≡◌}
use mathlib.Core.Logic.{⊎_elim}
use mathlib.Core.List.{List}
use lib.ListN.{length}
use native.Mathlib.Omega.{arith}
use borrow.Author.Tests.{le-leb, lt-leb, lt-ltb, le-ltb}
use Rattle.model.specs.Row.{Line, width, quarter, place, smooth_pixel, torn_pixel, last_pixel, pair_pixel, owned_pixel}
use Rattle.model.proofs.Choice.{lt_or_le}
use Rattle.pixel.specs.declared.Edge.{Edge}
use Rattle.pixel.specs.declared.Pair.{Pair}
use Rattle.pixel.specs.Pairs.{next_place, Stands, smooth_of, torn_of, last_of, kind_pixel, pixel_of, edge_right, front_past, edge_past}

pub next_last : (t d : List ℕ) (c : ℕ) → length d ≤ c + 1 → next_place t d c ≡ quarter (length d)
unfolding next_place
next_last t d c h = rw (le-leb (length d) (c + 1) h)

pub next_inner : (t d : List ℕ) (c : ℕ) → c + 1 < length d → next_place t d c ≡ place t d (c + 1)
unfolding next_place
next_inner t d c h = rw (lt-leb (length d) (c + 1) h)

-- a place is at most the position of its column, so the next place lies within the row
pub place_most : (t d : List ℕ) (c : ℕ) → place t d c ≤ quarter c
unfolding place
place_most t d c = omega arith

pub next_most : (t d : List ℕ) (c : ℕ) → next_place t d c ≤ quarter (length d)
next_most t d c =
    ⊎_elim
    (λ h. rw (next_inner t d c h) (omega (arith, place_most t d (c + 1))))
    (λ h. rw (next_last t d c h) (omega arith))
    (lt_or_le (c + 1) (length d))

pub pair_pixel_lem : (l : Line) (q : Pair) (x : ℕ) → length l.texture ≡ width l → Stands l.table l.depths q → pixel_of l.tear l.texture q x ≡ owned_pixel l q.column x
unfolding pixel_of kind_pixel smooth_of torn_of last_of next_place owned_pixel last_pixel pair_pixel smooth_pixel torn_pixel
pair_pixel_lem l q x e s =
    ⊎_elim
    (λ h. rw (e, s.here, s.next, s.d0, s.d1, lt-leb (width l) (q.column + 1) h))
    (λ h. rw (e, s.here, s.d0, le-leb (width l) (q.column + 1) h))
    (lt_or_le (q.column + 1) (width l))

-- the edge right of the column before a pair's
pub past_cases : (q : Pair) (P : Edge → Type 0) → (q.here < q.limit → P (record { limit = q.here; column = q.column })) → (q.limit ≤ q.here → P (edge_right q)) → P (edge_past q)
unfolding front_past
past_cases q P near far =
    ⊎_elim
    (λ h. let e : min q.here q.limit ≡ q.here = omega arith in rw (lt-ltb q.here q.limit h, e) (near h))
    (λ h. let e : min q.here q.limit ≡ q.limit = omega arith in rw (le-ltb q.here q.limit h, e) (far h))
    (lt_or_le q.here q.limit)
