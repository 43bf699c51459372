-- The rows of the block that a candidate stands for (document 02, card 6), and where they are found.
use Rattle.std.specs.Prelude.{ℕ, ◌+◌, ◌*◌, ◌<◌, ◌≤◌, ◌≡◌, Bool, true, false, cond, List, length, get_or}
use Rattle.model.specs.declared.Point.{Point}
use Rattle.model.specs.declared.Split.TheVariants.{Line, Mask}
use Rattle.model.specs.declared.Candidate.{Candidate}
use Rattle.model.specs.declared.Candidate.TheVariants.{Full, Flat, Regions}
use Rattle.model.specs.Lists.{list_of, row_of}
use Rattle.model.specs.Candidates.{in_region1}

-- ---- lines

-- The cross product with its brackets resolved: what it adds and what it takes away, without the product of the start's two numbers, which is in both.
unfoldable pub above : Point → Point → ℕ → ℕ → ℕ
above start end row column = end.column * row + end.row * start.column + start.row * column

unfoldable pub below : Point → Point → ℕ → ℕ → ℕ
below start end row column = start.column * row + end.column * start.row + end.row * column

-- a point of a block
pub record Near (p : Point) : Type 0 where
  pub column : p.column ≤ 4096
  pub row : p.row ≤ 4096

-- ---- rows

-- row i of the block so filled, which is w wide
unfoldable pub filled_row : ℕ → Candidate → List ℕ → ℕ → List ℕ
filled_row w Full bytes i = row_of bytes w i
filled_row w (Flat depth) bytes i = list_of (λ k. depth) w
filled_row w (Regions value0 value1 split) bytes i = list_of (λ k. cond (in_region1 w split bytes (i * w + k)) value1 value0) w

-- what it takes that row i is there
abbrev pub RowThere : ℕ → Candidate → List ℕ → ℕ → Type 0
RowThere w Full bytes i = i * w + w ≤ length bytes
RowThere w (Flat depth) bytes i = Unit
RowThere w (Regions value0 value1 (Line start end)) bytes i = Near start × Near end
RowThere w (Regions value0 value1 Mask) bytes i = i * w + w ≤ 8 * length bytes

-- a full block's rows are lent as they are
abbrev pub is_lent : Candidate → Bool
is_lent Full = true
is_lent (Flat depth) = false
is_lent (Regions value0 value1 split) = false

-- the entries of the room that n entries of rows take
unfoldable pub room_of : Candidate → ℕ → ℕ
room_of c n = cond (is_lent c) 0 n

-- row i is lent from the bytes, or as it was made
unfoldable pub row_in : ℕ → Candidate → List ℕ → ℕ → List ℕ → List ℕ
row_in w c bytes i made = cond (is_lent c) (row_of bytes w i) made

-- the room before the first row: one value is in it
abbrev pub Started : Candidate → List ℕ → Type 0
Started Full room = Unit
Started (Flat depth) room = (k : ℕ) → k < length room → get_or room k 0 ≡ depth
Started (Regions value0 value1 split) room = Unit

-- n rows from row i on: they are there, and once they are made each is where it is lent from, and the next ones can be made
abbrev pub RowsThere : ℕ → Candidate → List ℕ → ℕ → ℕ → Type 0
RowsThere w c bytes i n = (k : ℕ) → k < n → RowThere w c bytes (i + k)

pub record RowsMade (w : ℕ) (c : Candidate) (bytes : List ℕ) (i n : ℕ) (room room' : List ℕ) : Type 0 where
  pub row : (k : ℕ) → k < n → row_in w c bytes (i + k) (row_of room' w k) ≡ filled_row w c bytes (i + k)
  pub started : Started c room'
  pub size : length room' ≡ length room
