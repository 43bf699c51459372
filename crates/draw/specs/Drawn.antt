-- What is drawn afresh: the rows of one view's planes, and those of the combined picture.
use Rattle.std.specs.Prelude.{ℕ, ◌+◌, ◌*◌, ◌≤◌, ◌<◌, ◌≡◌, Bool, true, List, length}
use Rattle.model.specs.declared.Tear.{Tear}
use Rattle.model.specs.Lists.{row_of}
use Rattle.model.specs.Row.{line}
use Rattle.model.specs.Views.{view_row}
use Rattle.model.specs.Marks.{mark_bytes, pack_row}
use Rattle.model.specs.Planes.{View, view, view_rows}
use Rattle.model.specs.Refusals.{table_ok}

-- a table whose entries are at most 1,023
abbrev pub Table : List ℕ → Type 0
Table t = table_ok t ≡ true

-- row y of a view, drawn, with its marks packed
unfoldable pub drawn_row : Tear → Bool → List ℕ → ℕ → List ℕ → List ℕ → ℕ → View
drawn_row tear right t w texture depths y =
    let r = view_row right (line tear t (row_of texture w y) (row_of depths w y)) in
    view r.samples r.fronts r.limits (pack_row (mark_bytes w) r.marks)

-- row y lies within planes w wide
pub record PlanesIn (w y : ℕ) (texture depths : List ℕ) (v : View) : Type 0 where
  pub texture_in : y * w + w ≤ length texture
  pub depths_in : y * w + w ≤ length depths
  pub samples_in : y * w + w ≤ length v.samples
  pub fronts_in : y * w + w ≤ length v.fronts
  pub limits_in : y * w + w ≤ length v.limits
  pub marks_in : y * mark_bytes w + mark_bytes w ≤ length v.marks

-- planes w wide and h high
pub record PlanesOf (w h : ℕ) (texture depths : List ℕ) (v : View) : Type 0 where
  pub texture_there : length texture ≡ w * h
  pub depths_there : length depths ≡ w * h
  pub samples_of : length v.samples ≡ w * h
  pub fronts_of : length v.fronts ≡ w * h
  pub limits_of : length v.limits ≡ w * h
  pub marks_there : length v.marks ≡ mark_bytes w * h

-- row y of the planes is drawn, and every other row is as it was
pub record RowDrawn (tear : Tear) (right : Bool) (t : List ℕ) (w y : ℕ) (texture depths : List ℕ) (v v' : View) : Type 0 where
  pub drawn : view_rows w v' y ≡ drawn_row tear right t w texture depths y
  pub others : (k : ℕ) → (k ≡ y → ⊥) → view_rows w v' k ≡ view_rows w v k

-- the first n rows of the planes are drawn
pub record ViewDrawn (tear : Tear) (right : Bool) (t : List ℕ) (w n : ℕ) (texture depths : List ℕ) (v : View) : Type 0 where
  pub rows_are : (k : ℕ) → k < n → view_rows w v k ≡ drawn_row tear right t w texture depths k
