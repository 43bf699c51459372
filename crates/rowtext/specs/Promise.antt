-- What reading a text promises: a row exactly where the text is that of a valid row, and then that row.
use Rattle.std.specs.Prelude.{ℕ, ◌≤◌, ◌≡◌, List, get_or, take, Option, Some, None}
use Rattle.rowtext.specs.declared.Row.{Row}
use Rattle.rowtext.specs.Format.{RowText, row_text, Valid, text_of}

-- The entries from n on are 0.
abbrev pub ZeroFrom : ℕ → List ℕ → Type 0
ZeroFrom n values = (i : ℕ) → n ≤ i → get_or values i 0 ≡ 0

-- The text is that of a valid row: the first w entries of samples and of depths. The entries past them are 0.
pub record IsRow (text : List ℕ) (w : ℕ) (samples depths : List ℕ) : Type 0 where
  pub valid : Valid (row_text w (take w samples) (take w depths))
  pub is_text : text ≡ text_of (row_text w (take w samples) (take w depths))
  pub spare_samples : ZeroFrom w samples
  pub spare_depths : ZeroFrom w depths

-- The text is that of no valid row.
pub record IsBad (text : List ℕ) : Type 0 where
  pub none : (r : RowText) → Valid r → text ≡ text_of r → ⊥

abbrev pub ReadPost : List ℕ → Option Row → Type 0
ReadPost text (Some row) = IsRow text row.w row.samples row.depths
ReadPost text None = IsBad text
