-- Rows of depths that a record saved, one a word.
use Rattle.std.specs.Prelude.{ℕ, ◌+◌, ◌-◌, ◌*◌, ◌<◌, ◌≤◌, ◌≡◌, List, length, take, drop}

-- the words of n rows from row i on, of a block that is w wide
abbrev pub part_of : List ℕ → ℕ → ℕ → ℕ → List ℕ
part_of words w i n = take (i * w + n * w - i * w) (drop (i * w) words)

-- n of the rows that are left stand at the room's front.
pub record Narrowed (words : List ℕ) (w done left : ℕ) (room : List ℕ) (n : ℕ) : Type 0 where
  pub some : 0 < n
  pub few : n ≤ left
  pub holds : n * w ≤ length room
  pub rows : take (n * w) room ≡ part_of words w done n
