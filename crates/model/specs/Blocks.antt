-- A candidate written into a block of a view's depths, and the change of the total (document 01, "Calls and what they turn down").
use Rattle.std.specs.Prelude.{ℕ, ◌+◌, ◌-◌, ◌*◌, ◌/◌, ◌%◌, Bool, cond, ◌&&◌, List, leb, ltb, length, get_or, ℤ, pos, ◌-ℤ◌}
use Rattle.model.specs.declared.Settings.{Settings}
use Rattle.model.specs.declared.Block.{Block}
use Rattle.model.specs.Lists.{list_of}
use Rattle.model.specs.Views.{is_right}
use Rattle.model.specs.Planes.{Pictures, Depths, depths, depths_of}
use Rattle.model.specs.Candidates.{positions}
use Rattle.model.specs.Fresh.{fresh_total}

-- row y is one of the block's rows; column x is one of its columns
abbrev pub in_rows : Block → ℕ → Bool
in_rows b y = leb b.row y && ltb y (b.row + b.height)

abbrev pub in_columns : Block → ℕ → Bool
in_columns b x = leb b.column x && ltb x (b.column + b.width)

-- entry i of a plane that is w wide lies in the block
unfoldable pub in_block : ℕ → Block → ℕ → Bool
in_block w b i = in_rows b (i / w) && in_columns b (i % w)

-- the candidate's depth for that entry; candidates come in row order
abbrev pub candidate_at : ℕ → Block → List ℕ → ℕ → ℕ
candidate_at w b c i = get_or c ((i / w - b.row) * b.width + (i % w - b.column)) 0

-- a depth plane with the candidate written into the block
unfoldable pub written_plane : ℕ → Block → List ℕ → List ℕ → List ℕ
written_plane w b c plane = list_of (λ i. cond (in_block w b i) (candidate_at w b c i) (get_or plane i 0)) (length plane)

-- the candidate written into the block in the view's plane
unfoldable pub written : Settings → ℕ → Block → List ℕ → Depths → Depths
written s v b c d =
    cond (is_right v) (depths d.left (written_plane s.w b c d.right))
    (depths (written_plane s.w b c d.left) d.right)

-- The depths that stand in the block, in row order (document 02, card 3: what a SET saves).
unfoldable pub block_depths : ℕ → Block → List ℕ → List ℕ
block_depths w b plane = list_of (λ k. get_or plane ((b.row + k / b.width) * w + (b.column + k % b.width)) 0) (positions b)

abbrev pub old_depths : Settings → ℕ → Block → Depths → List ℕ
old_depths s v b d = block_depths s.w b (depths_of d (is_right v))

-- The fresh total with the candidate written less the fresh total of the depths as they stand.
unfoldable pub change_of : Settings → Pictures → Depths → ℕ → Block → List ℕ → ℤ
change_of s p d v b c = pos (fresh_total s p (written s v b c d)) -ℤ pos (fresh_total s p d)
