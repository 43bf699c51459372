-- What SET writes of one view, row by row (document 01, "The span of an edit").
--
-- The planes may hold anything. What is written is decided for any of them; that it is the truth is promised where they held it.
use Rattle.std.specs.Prelude.{ℕ, ◌+◌, ◌-◌, ◌*◌, ◌<◌, ◌≤◌, Bool, ◌≡◌, List, ◌⊎◌, length, get_or, pos}
use Rattle.model.specs.declared.Tear.{Tear}
use Rattle.model.specs.declared.Pixel.{Pixel}
use Rattle.model.specs.Lists.{list_of, row_of}
use Rattle.model.specs.Row.{Line, line, Row}
use Rattle.model.specs.Views.{seen, view_row, entry_of}
use Rattle.model.specs.Marks.{mark_bytes, pack_row, spare_bits}
use Rattle.model.specs.Planes.{View, read_all, NoneHigher, view_rows}
use Rattle.model.specs.Span.{first_column}
use Rattle.planes.specs.Parts.{splice}
use Rattle.pixel.specs.declared.Edge.{Edge}
use Rattle.marks.specs.Puts.{put_marks, held_pixel}
use Rattle.places.specs.Positions.{first_at}
use Rattle.limits.specs.Limits.{Edged}
use Rattle.row.specs.Drawing.{pixel_below, Ready}

-- ---- the planes of a view

-- the planes of one view with its texture and depths, w wide and h high
pub record Sized (w h : ℕ) (picture d : List ℕ) (v : View) : Type 0 where
  pub texture : length picture ≡ w * h
  pub depths : length d ≡ w * h
  pub samples : length v.samples ≡ w * h
  pub fronts : length v.fronts ≡ w * h
  pub limits : length v.limits ≡ w * h
  pub marks : length v.marks ≡ mark_bytes w * h

-- row y lies within them
pub record RowIn (w y : ℕ) (picture d : List ℕ) (v : View) : Type 0 where
  pub texture : y * w + w ≤ length picture
  pub depths : y * w + w ≤ length d
  pub samples : y * w + w ≤ length v.samples
  pub fronts : y * w + w ≤ length v.fronts
  pub limits : y * w + w ≤ length v.limits
  pub marks : y * mark_bytes w + mark_bytes w ≤ length v.marks

-- row y of the depths d, drawn afresh
abbrev pub drawn_row : Tear → Bool → List ℕ → List ℕ → ℕ → List ℕ → ℕ → Row
drawn_row tear right t texture w d y = view_row right (line tear t (row_of texture w y) (row_of d w y))

-- row y of a view's planes is the fresh drawing of row y of its depths, its samples as they are read
pub record SoundRow (tear : Tear) (right : Bool) (t texture : List ℕ) (w : ℕ) (d : List ℕ) (v : View) (y : ℕ) : Type 0 where
  pub samples : read_all (row_of v.samples w y) ≡ (drawn_row tear right t texture w d y).samples
  pub fronts : row_of v.fronts w y ≡ (drawn_row tear right t texture w d y).fronts
  pub limits : row_of v.limits w y ≡ (drawn_row tear right t texture w d y).limits
  pub marks : row_of v.marks (mark_bytes w) y ≡ pack_row (mark_bytes w) (drawn_row tear right t texture w d y).marks

-- what planes of samples, fronts and marks hold at entry i of row y
abbrev pub held_at : ℕ → List ℕ → List ℕ → List ℕ → ℕ → ℕ → Pixel
held_at w s f m y = held_pixel (row_of s w y) (row_of f w y) (row_of m (mark_bytes w) y)

-- and what a view's do
abbrev pub held_in : ℕ → View → ℕ → ℕ → Pixel
held_in w v = held_at w v.samples v.fronts v.marks

-- What holds of a view's planes, w wide, whatever they held, once columns below n are edited, as the view reads the rows: no sample above the greatest is
-- written, and the limits from column n on and the spare bits are as they were.
pub record Bounded (right : Bool) (w n : ℕ) (v v' : View) : Type 0 where
  pub samples : NoneHigher v.samples v'.samples
  pub limits : (k i : ℕ) → n ≤ entry_of right w i → get_or (row_of v'.limits w k) i (pos 0) ≡ get_or (row_of v.limits w k) i (pos 0)
  pub spare_stay : (k : ℕ) → spare_bits (row_of v'.marks (mark_bytes w) k) w ≡ spare_bits (row_of v.marks (mark_bytes w) k) w

-- ---- the span of a row

-- Positions from `start` on can be drawn into parts of just that stretch, from the columns below n and the edge right of them, and their marks
-- can be put from entry `at` on.
pub record Drawable (tear : Tear) (right : Bool) (t texture d : List ℕ) (n : ℕ) (edge : Edge) (start at : ℕ) (s f m : List ℕ) : Type 0 where
  pub ready : Ready (line tear t texture d)
  pub some : 0 < n
  pub columns : n ≤ length d
  pub edged : Edged t (seen right d) n edge
  pub before : start + length s ≤ first_at edge.limit
  pub fronts : length f ≡ length s
  pub marks : at + length s ≤ 8 * length m
  pub most : at + length s ≤ 4096

-- what k positions from `start` on show, drawn from the columns below n and the edge right of them, in the order of the row's entries
unfoldable pub part_shown : (Pixel → ℕ) → Bool → Line → ℕ → Edge → ℕ → ℕ → List ℕ
part_shown g right l n edge start k = seen right (list_of (λ i. g (pixel_below l n edge (start + i))) k)

-- They are drawn, and their marks put into the row of marks m from entry `at` on.
pub record PartDrawn (right : Bool) (l : Line) (n : ℕ) (edge : Edge) (start at k : ℕ) (m s' f' m' : List ℕ) : Type 0 where
  pub samples : s' ≡ part_shown (λ q. q.sample) right l n edge start k
  pub fronts : f' ≡ part_shown (λ q. q.front) right l n edge start k
  pub marks : m' ≡ put_marks m at (part_shown (λ q. q.mark) right l n edge start k) k

-- what the span from low to the limit of the edge shows
abbrev pub span_shown : (Pixel → ℕ) → Bool → Line → ℕ → ℕ → Edge → List ℕ
span_shown g right l n low edge = part_shown g right l n edge (first_at low) (first_at edge.limit - first_at low)

-- The span's entries, `from` up to `to`, in a row of w; an empty span has none.
pub record Stretched (right : Bool) (w low high from to : ℕ) : Type 0 where
  pub size : to ≡ from + (first_at high - first_at low)
  pub within : to ≤ w
  pub first : first_at low < first_at high → from ≡ first_column right w (first_at low) (first_at high - first_at low)

-- The span is drawn into row y of the samples and fronts, and its marks are put into the row of marks m.
pub record Redrawn (right : Bool) (l : Line) (w y n low : ℕ) (edge : Edge) (from to : ℕ) (s f m s' f' m' : List ℕ) : Type 0 where
  pub stretched : Stretched right w low edge.limit from to
  pub samples : s' ≡ splice s (y * w + from) (span_shown (λ q. q.sample) right l n low edge)
  pub fronts : f' ≡ splice f (y * w + from) (span_shown (λ q. q.front) right l n low edge)
  pub marks : m' ≡ put_marks m from (span_shown (λ q. q.mark) right l n low edge) (first_at edge.limit - first_at low)

-- The same, with the plane of marks: no other row of it changes.
pub record RowRedrawn (right : Bool) (l : Line) (w y n low : ℕ) (edge : Edge) (from to : ℕ) (s f m s' f' m' : List ℕ) : Type 0 where
  pub drawn : Redrawn right l w y n low edge from to s f (row_of m (mark_bytes w) y) s' f' (row_of m' (mark_bytes w) y)
  pub others : (k : ℕ) → (k ≡ y → ⊥) → row_of m' (mark_bytes w) k ≡ row_of m (mark_bytes w) k

-- Row y of one view is committed: the candidate stands at its column x, and every row that was sound is sound again. No other row changes,
-- and of this one only the entries `from` up to `to` are drawn anew.
pub record RowCommitted (tear : Tear) (right : Bool) (t texture : List ℕ) (w y x : ℕ) (candidate d d' : List ℕ) (v v' : View) (from to : ℕ) : Type 0 where
  pub depths : d' ≡ splice d (y * w + x) candidate
  pub sound : (k : ℕ) → SoundRow tear right t texture w d v k → SoundRow tear right t texture w d' v' k
  pub others : (k : ℕ) → (k ≡ y → ⊥) → view_rows w v' k ≡ view_rows w v k
  pub order : from ≤ to
  pub within : to ≤ w
  pub bounded : Bounded right w (first_column right w x (length candidate) + length candidate) v v'
  pub kept : SoundRow tear right t texture w d v y → (i : ℕ) → i < w → (i < from) ⊎ (to ≤ i) → held_in w v' y i ≡ held_in w v y i
