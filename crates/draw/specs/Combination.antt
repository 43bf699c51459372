-- The combined picture of two views' planes, row by row, with its total.
use Rattle.std.specs.Prelude.{ℕ, ◌*◌, ◌≤◌, ◌<◌, ◌≡◌, false, List, length}
use Rattle.model.specs.declared.Pixel.{Pixel}
use Rattle.model.specs.Lists.{row_of, sum_to}
use Rattle.model.specs.Row.{sample_in}
use Rattle.model.specs.Marks.{mark_bytes}
use Rattle.model.specs.Combined.{worst, square_error}
use Rattle.blend.specs.Blend.{combined_part}
pub use Rattle.blend.specs.Blend.{SideIn, held_rows}

-- a view's samples, front depths and marks are w wide and h high
pub record SideOf (w h : ℕ) (s f m : List ℕ) : Type 0 where
  pub samples : length s ≡ w * h
  pub fronts : length f ≡ w * h
  pub marks : length m ≡ mark_bytes w * h

-- row y, combined
unfoldable pub combined_row : ℕ → ℕ → ℕ → (ℕ → ℕ → Pixel) → (ℕ → ℕ → Pixel) → ℕ → List ℕ
combined_row share tolerance w left right y = combined_part false share tolerance (left y) (right y) 0 w

-- the sum of its squared errors, both samples as they are read
unfoldable pub row_error : ℕ → List ℕ → List ℕ → ℕ → ℕ
row_error w combined reference y = sum_to (λ i. square_error (sample_in combined i) (sample_in (row_of reference w y) i)) w

-- the first n rows of the picture are combined, and r is the sum of their squared errors
pub record PictureCombined (share tolerance w n : ℕ) (left right : ℕ → ℕ → Pixel) (reference c : List ℕ) (r : ℕ) : Type 0 where
  pub rows_are : (k : ℕ) → k < n → row_of c w k ≡ combined_row share tolerance w left right k
  pub total : r ≡ sum_to (λ y. row_error w (combined_row share tolerance w left right y) reference y) n
  pub most : r ≤ worst * w * n
