-- Document 01, "Small rows and sessions", its last paragraphs: what the row printer prints.
use Rattle.std.specs.Prelude.{ℕ, ◌≡◌, false, List, [], ◌∷◌, ◌++◌, get_or}
use Rattle.model.specs.declared.Tear.{Tear}
use Rattle.model.specs.Lists.{list_of, rows}
use Rattle.model.specs.Row.{Row, line}
use Rattle.model.specs.Views.{view_row}
use Rattle.rowtext.specs.Format.{RowText, Valid, text_of, text_line}

-- Table: entry d is d.
unfoldable pub printer_table : List ℕ
printer_table = list_of (λ d. d) 256

-- The printer keeps the widest gap of 8 and the distance of 1 (document 02, card 11).
abbrev pub printer_tear : Tear
printer_tear = record { gap = 8; distance = 1 }

-- what the left view shows of a row, drawn with these
unfoldable pub drawn_row : RowText → Row
drawn_row r = view_row false (line printer_tear printer_table r.samples r.depths)

-- `row ` and `bad input`, as bytes
abbrev pub row_word : List ℕ
row_word = 114 ∷ 111 ∷ 119 ∷ 32 ∷ []

abbrev pub bad_input : List ℕ
bad_input = 98 ∷ 97 ∷ 100 ∷ 32 ∷ 105 ∷ 110 ∷ 112 ∷ 117 ∷ 116 ∷ 10 ∷ []

-- a header, the word row and w
unfoldable pub header_of : ℕ → List ℕ
header_of w = row_word ++ text_line (w ∷ [])

-- and a line for each position: position, sample, mark, front depth
unfoldable pub position_line : Row → ℕ → List ℕ
position_line x p = text_line (p ∷ get_or x.samples p 0 ∷ get_or x.marks p 0 ∷ get_or x.fronts p 0 ∷ [])

unfoldable pub printed : RowText → List ℕ
printed r = header_of r.w ++ rows (position_line (drawn_row r)) r.w

-- What is printed for a text. Other input prints `bad input`.
pub record Answers (text out : List ℕ) : Type 0 where
  pub row : (r : RowText) → Valid r → text ≡ text_of r → out ≡ printed r
  pub other : ((r : RowText) → Valid r → text ≡ text_of r → ⊥) → out ≡ bad_input
