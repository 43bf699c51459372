-- A row drawn from the right, position by position, from the columns below one of them; an edge is taken for the near edge right of them, its
-- limit for the limit of that column. Where they are that, what is drawn is the row of document 01 (proofs/Below: below_pixel).
use Rattle.std.specs.Prelude.{ℕ, zero, suc, ◌+◌, ◌-◌, ◌<◌, ◌≤◌, ◌≡◌, Bool, true, cond, List, ltb, length, get_or, ℤ}
use Rattle.model.specs.declared.Tear.{Tear}
use Rattle.model.specs.declared.Pixel.{Pixel}
use Rattle.model.specs.Row.{Line, line, width, place_in, quarter, least, owner, sample_in, pixel, Row}
use Rattle.model.specs.Views.{seen}
use Rattle.model.specs.Refusals.{table_ok}
use Rattle.planes.specs.Parts.{splice, Painted}
use Rattle.pixel.specs.declared.Edge.{Edge}
use Rattle.pixel.specs.declared.Pair.{Pair}
use Rattle.pixel.specs.Pairs.{Stands, Among, pixel_of, edge_right, at_edge, edged_pixel}
use Rattle.places.specs.Positions.{first_at}
use Rattle.limits.specs.Limits.{limit_below}

-- the greatest column placed at the least place of the n columns from c on, and `e` where none is placed before `top`
unfoldable pub front : (ℕ → ℕ) → ℕ → ℕ → ℕ → ℕ → ℕ
front f top e c zero = e
front f top e c (suc n) = cond (ltb (f c) (least f top (suc c) n)) c (front f top e (suc c) n)

-- the greatest column placed at the limit of column c, where g is taken for the edge right of the columns below n
unfoldable pub front_below : (ℕ → ℕ) → Edge → ℕ → ℕ → ℕ
front_below f g n c = front f g.limit g.column c (n - c)

-- what x shows where the pair's column owns it: s is the texture and d the depths, as the view reads them
unfoldable pub shown_of : Tear → List ℕ → List ℕ → Pair → ℕ → Pixel
shown_of tear s d q x = cond (at_edge q.limit q.next x) (pixel (sample_in s q.front) 0 (get_or d q.front 0)) (pixel_of tear s q x)

-- position p drawn from the columns below n alone, where g is taken for the edge right of them
unfoldable pub pixel_below : Line → ℕ → Edge → ℕ → Pixel
pixel_below l n g p =
    let c = owner (place_in l) (quarter p) n in
    edged_pixel l c (limit_below (place_in l) g.limit n (c + 1)) (front_below (place_in l) g n (c + 1)) (quarter p)

-- that right of all n columns of a row: its end
abbrev pub end_edge : ℕ → Edge
end_edge n = record { limit = quarter n; column = n }

-- a row that can be drawn
pub record Ready (l : Line) : Type 0 where
  pub table : table_ok l.table ≡ true
  pub texture : length l.texture ≡ width l
  pub some : 0 < width l
  pub most : width l ≤ 4096

-- ---- drawing from a pair on

-- the row as the view reads it, with the candidate x in the entries from `column` on
abbrev pub line_with : Tear → Bool → List ℕ → List ℕ → List ℕ → ℕ → List ℕ → Line
line_with tear right t s d column x = line tear t (seen right s) (seen right (splice d column x))

-- A pair of the row l from which the positions below `stop` can be drawn: they lie before its edge, and that is not past its second column.
pub record Ahead (right : Bool) (l : Line) (stop : ℕ) (q : Pair) : Type 0 where
  pub among : Among right (width l) q
  pub stands : Stands l.table l.depths q
  pub under : (edge_right q).limit ≤ q.next
  pub before : stop ≤ first_at (edge_right q).limit

-- The drawing has come from the pair q to the pair r: the columns it passed lie past the positions below `stop`, and r has the edge that follows
-- from them and from q's.
pub record Passed (l : Line) (q r : Pair) (stop : ℕ) : Type 0 where
  pub column : r.column ≤ q.column
  pub past : (j p : ℕ) → r.column < j → j ≤ q.column → p < stop → quarter p < place_in l j
  pub limit : (edge_right r).limit ≡ limit_below (place_in l) (edge_right q).limit (q.column + 1) (r.column + 1)
  pub front : (edge_right r).column ≡ front_below (place_in l) (edge_right q) (q.column + 1) (r.column + 1)

-- What is drawn from the pair q: the positions from `start` on, in parts of just that stretch; and the pair r from which the positions
-- before them can be drawn.
pub record SpanDrawn (right : Bool) (l : Line) (start : ℕ) (q r : Pair) (s f m s' f' m' : List ℕ) : Type 0 where
  pub painted : Painted (λ i. pixel_below l (q.column + 1) (edge_right q) (start + i)) 0 (length s) (seen right s) (seen right f) (seen right m) (seen right s') (seen right f') (seen right m')
  pub ahead : Ahead right l start r
  pub passed : Passed l q r start

-- the samples, front depths and marks of a drawn row
pub record Shows (r : Row) (samples fronts marks : List ℕ) : Type 0 where
  pub samples_are : samples ≡ r.samples
  pub fronts_are : fronts ≡ r.fronts
  pub marks_are : marks ≡ r.marks

-- and its limits
pub record Drawn (r : Row) (samples fronts marks : List ℕ) (limits : List ℤ) : Type 0 where
  pub shows : Shows r samples fronts marks
  pub limits_are : limits ≡ r.limits
