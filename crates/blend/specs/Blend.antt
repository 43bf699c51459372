-- The combined samples of a stretch of a row (document 01, "Combined picture and total").
use Rattle.std.specs.Prelude.{ℕ, ◌+◌, ◌*◌, ◌≤◌, Bool, List, length}
use Rattle.model.specs.declared.Pixel.{Pixel}
use Rattle.model.specs.Lists.{list_of, row_of}
use Rattle.model.specs.Marks.{mark_bytes}
use Rattle.marks.specs.Puts.{held_pixel}
use Rattle.sums.specs.Sides.{paired}

-- rows of samples, front depths and packed marks that have entries 0 to n − 1
pub record Reaches (n : ℕ) (s f m : List ℕ) : Type 0 where
  pub samples : n ≤ length s
  pub fronts : n ≤ length f
  pub marks : n ≤ 8 * length m

-- row y lies within a view's samples, front depths and marks, w wide
pub record SideIn (w y : ℕ) (s f m : List ℕ) : Type 0 where
  pub samples : y * w + w ≤ length s
  pub fronts : y * w + w ≤ length f
  pub marks : y * mark_bytes w + mark_bytes w ≤ length m

-- what a view's planes hold at entry i of row y
abbrev pub held_rows : ℕ → List ℕ → List ℕ → List ℕ → ℕ → ℕ → Pixel
held_rows w s f m y = held_pixel (row_of s w y) (row_of f w y) (row_of m (mark_bytes w) y)

-- the combined samples of n entries from `from` on, of what the one view and the other hold
unfoldable pub combined_part : Bool → ℕ → ℕ → (ℕ → Pixel) → (ℕ → Pixel) → ℕ → ℕ → List ℕ
combined_part right share tolerance own other from n = list_of (λ i. paired right share tolerance (own (from + i)) (other (from + i))) n
