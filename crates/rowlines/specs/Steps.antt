-- Writing into a buffer, and what a drawn row shows: what the contracts of the steps cite.
use Rattle.std.specs.Prelude.{ℕ, ◌+◌, ◌<◌, ◌≤◌, ◌≡◌, List, [], ◌∷◌, ◌++◌, length, get_or, take}
use Rattle.model.specs.Row.{Row}
use Rattle.model.specs.Marks.{mark_at}
use Rattle.model.specs.declared.Settings.{Settings}
use Rattle.rowtext.specs.Format.{text_line}
use Rattle.rowlines.specs.Printed.{printer_tear, printer_table}

-- The bytes xs were written after the first `at`, at most `most` of them; `next` is past them.
pub record Put (most : ℕ) (before : List ℕ) (at : ℕ) (xs after : List ℕ) (next : ℕ) : Type 0 where
  pub written : take next after ≡ take at before ++ xs
  pub room : next ≤ at + most
  pub size : length after ≡ length before

-- The settings are those of a row of w with the table of document 01.
pub record PrinterSettings (w : ℕ) (s : Settings) : Type 0 where
  pub width_is : s.w ≡ w
  pub left_is : s.left ≡ printer_table
  pub right_is : s.right ≡ printer_table
  pub tear_is : s.tear ≡ printer_tear

-- a position's line, from samples, packed marks and front depths
unfoldable pub shown_line : List ℕ → List ℕ → List ℕ → ℕ → List ℕ
shown_line samples marks fronts p = text_line (p ∷ get_or samples p 0 ∷ mark_at marks p ∷ get_or fronts p 0 ∷ [])

-- Samples, packed marks and front depths are those of a row, below w.
pub record Shows (x : Row) (w : ℕ) (samples marks fronts : List ℕ) : Type 0 where
  pub samples_size : length samples ≡ 64
  pub marks_size : length marks ≡ 64
  pub fronts_size : length fronts ≡ 64
  pub samples_are : (p : ℕ) → p < w → get_or samples p 0 ≡ get_or x.samples p 0
  pub marks_are : (p : ℕ) → p < w → mark_at marks p ≡ get_or x.marks p 0
  pub fronts_are : (p : ℕ) → p < w → get_or fronts p 0 ≡ get_or x.fronts p 0
