-- The words of a record (document 02, card 3), and what it takes to save one.
use Rattle.std.specs.Prelude.{ℕ, ◌+◌, ◌*◌, ◌≤◌, List, [], ◌∷◌, length}
use Rattle.model.specs.declared.Block.{Block}

-- what stands before the old depths
abbrev pub head_of : ℕ → ℕ → Block → List ℕ
head_of before v b = before ∷ v ∷ b.column ∷ b.row ∷ b.width ∷ b.height ∷ []

-- the block lies in a plane that is w wide
pub record InPlane (w : ℕ) (b : Block) (plane : List ℕ) : Type 0 where
  pub wide : w ≤ 4096
  pub high : b.row + b.height ≤ 4096
  pub right : b.column + b.width ≤ w
  pub below : (b.row + b.height) * w ≤ length plane
