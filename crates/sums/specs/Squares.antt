-- Document 01, "Combined picture and total": squared errors are read from a fixed table of squares; document 02, card 12: of 1,024.
use Rattle.std.specs.Prelude.{ℕ, ◌*◌, ◌≤◌, ◌≡◌, List, get_or}
use Rattle.model.specs.Row.{greatest}

-- Entry i of the table is i × i.
pub record Squares (table : List ℕ) : Type 0 where
  pub at : (i : ℕ) → i ≤ greatest → get_or table i 0 ≡ i * i
