-- Document 01, "One row of the left view", from two neighbouring columns and the texture alone, and document 02, card 7, with the near edge right
-- of them. The law `pair_pixel_lem` of proofs/Pairs shows that the pair shows what the row does.
use Rattle.std.specs.Prelude.{ℕ, ◌+◌, ◌-◌, ◌<◌, ◌≤◌, min, ◌≡◌, Bool, cond, ◌&&◌, List, length, get_or, leb, ltb}
use Rattle.std.proofs.Math.IntN.{sub_ℕ}
use Rattle.model.specs.declared.Tear.{Tear}
use Rattle.model.specs.declared.Pixel.{Pixel}
use Rattle.model.specs.Row.{Line, quarter, place, sample_in, kind_of, step_of, mixed, pixel, column_pixel, by_kind, owned_pixel}
use Rattle.model.specs.Views.{entry_of}
use Rattle.pixel.specs.declared.Edge.{Edge}
use Rattle.pixel.specs.declared.Pair.{Pair}

-- the place of the column after c, or the row's end
unfoldable pub next_place : List ℕ → List ℕ → ℕ → ℕ
next_place t d c = cond (leb (length d) (c + 1)) (quarter (length d)) (place t d (c + 1))

-- The pair has the depths and places of its column and of the next, in a row with the table t and the depths d.
pub record Stands (t d : List ℕ) (q : Pair) : Type 0 where
  pub d0 : q.d0 ≡ get_or d q.column 0
  pub d1 : q.d1 ≡ get_or d (q.column + 1) 0
  pub here : q.here ≡ place t d q.column
  pub next : q.next ≡ next_place t d q.column

-- The pair's column is one of a row of w, with its entry; and so is that of its edge, if it lies before the row's end.
pub record Among (right : Bool) (w : ℕ) (q : Pair) : Type 0 where
  pub column : q.column < w
  pub most : w ≤ 4096
  pub entry : q.entry ≡ entry_of right w q.column
  pub front : q.limit < quarter w → q.front < w

-- 1 where x is at least m, else 0
unfoldable pub reached : ℕ → ℕ → ℕ
reached x m = cond (leb m x) 1 0

-- the pair's own sample and depth, with a mark; s is the texture as the view reads it
abbrev pub column_of : List ℕ → Pair → ℕ → Pixel
column_of s q mark = pixel (sample_in s q.column) mark q.d0

-- t quarters into a smooth pair, into a torn one, and past the last column
unfoldable pub smooth_of : List ℕ → Pair → ℕ → Pixel
smooth_of s q t = pixel (mixed s q.column (step_of t (q.next - q.here))) 0 q.d0

unfoldable pub torn_of : Tear → List ℕ → Pair → ℕ → Pixel
torn_of tear s q t = cond (leb t tear.distance) (column_of s q 0) (pixel (sample_in s (q.column + 1)) 1 q.d1)

unfoldable pub last_of : Tear → List ℕ → Pair → ℕ → Pixel
last_of tear s q t = cond (leb t tear.distance) (column_of s q 0) (column_of s q 1)

-- by the pair's kind; a hidden pair owns nothing
unfoldable pub kind_pixel : Tear → List ℕ → Pair → ℕ → Pixel
kind_pixel tear s q t = by_kind (kind_of tear.gap (sub_ℕ q.next q.here)) (column_of s q 0) (smooth_of s q t) (torn_of tear s q t)

-- what x shows by the pair's column itself, where that owns it
unfoldable pub pixel_of : Tear → List ℕ → Pair → ℕ → Pixel
pixel_of tear s q x = cond (leb (length s) (q.column + 1)) (last_of tear s q (x - q.here)) (kind_pixel tear s q (x - q.here))

-- ---- near edges

-- the near edge right of the pair's column
abbrev pub edge_right : Pair → Edge
edge_right q = record { limit = q.limit; column = q.front }

-- and that right of the column before: the pair's column, where it is placed before the limit
unfoldable pub front_past : Pair → ℕ
front_past q = cond (ltb q.here q.limit) q.column q.front

abbrev pub edge_past : Pair → Edge
edge_past q = record { limit = min q.here q.limit; column = front_past q }

-- The place `next` of the column after the owner of x is above its limit m, and m − x is at most 1.
unfoldable pub at_edge : ℕ → ℕ → ℕ → Bool
at_edge m next x = ltb m next && leb (m - x) 1

-- what x shows in a row where column c owns it, m is taken for the limit of c + 1 and column e for the greatest placed there
unfoldable pub edged_pixel : Line → ℕ → ℕ → ℕ → ℕ → Pixel
edged_pixel l c m e x = cond (at_edge m (next_place l.table l.depths c) x) (column_pixel l e 0) (owned_pixel l c x)
