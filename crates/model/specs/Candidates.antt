-- Document 02, card 6: a candidate is a full block, one value, or two regions; the regions come from a line or from a mask.
use Rattle.std.specs.Prelude.{ℕ, ◌+◌, ◌*◌, ◌/◌, ◌%◌, Bool, cond, not, ◌&&◌, ◌||◌, List, ltb, eqb, ℤ, pos, ◌-ℤ◌, ◌*ℤ◌}
use Rattle.std.specs.Int.Signed.{lt_z}
use Rattle.model.specs.declared.Block.{Block}
use Rattle.model.specs.declared.Point.{Point}
use Rattle.model.specs.declared.Split.{Split}
use Rattle.model.specs.declared.Split.TheVariants.{Line, Mask}
use Rattle.model.specs.declared.Candidate.{Candidate}
use Rattle.model.specs.declared.Candidate.TheVariants.{Full, Flat, Regions}
use Rattle.model.specs.Lists.{list_of}
use Rattle.model.specs.Marks.{mark_at}

-- ---- the block that a candidate stands for

abbrev pub positions : Block → ℕ
positions b = b.width * b.height

-- (end column − start column) × (row − start row) − (end row − start row) × (column − start column)
unfoldable pub cross : Point → Point → ℕ → ℕ → ℤ
cross start end row column =
    (pos end.column -ℤ pos start.column) *ℤ (pos row -ℤ pos start.row)
    -ℤ (pos end.row -ℤ pos start.row) *ℤ (pos column -ℤ pos start.column)

-- Position i of a block that is w wide is in region 1: the line's product is above 0 there, or its bit of the mask is 1. A mask is packed by rows without gaps,
-- low bit first.
unfoldable pub in_region1 : ℕ → Split → List ℕ → ℕ → Bool
in_region1 w (Line start end) bits i = lt_z (pos 0) (cross start end (i / w) (i % w))
in_region1 w Mask bits i = eqb (mark_at bits i) 1

-- The depths of the block so filled, in row order. A full block's depths and a mask's bits are the bytes that are lent beside.
unfoldable pub filled : Block → Candidate → List ℕ → List ℕ
filled b Full bytes = bytes
filled b (Flat depth) bytes = list_of (λ i. depth) (positions b)
filled b (Regions value0 value1 split) bytes = list_of (λ i. cond (in_region1 b.width split bytes i) value1 value0) (positions b)

-- ---- the lines that are taken

-- the sides of a block are its first and last column and row; points count from its first column and row
abbrev pub on_first_column : Point → Bool
on_first_column p = eqb p.column 0

abbrev pub on_last_column : Block → Point → Bool
on_last_column b p = eqb (p.column + 1) b.width

abbrev pub on_first_row : Point → Bool
on_first_row p = eqb p.row 0

abbrev pub on_last_row : Block → Point → Bool
on_last_row b p = eqb (p.row + 1) b.height

-- a border point of the block
unfoldable pub on_border : Block → Point → Bool
on_border b p =
    (ltb p.column b.width && ltb p.row b.height)
    && ((on_first_column p || on_last_column b p) || (on_first_row p || on_last_row b p))

-- two points with a side in common
unfoldable pub side_shared : Block → Point → Point → Bool
side_shared b p q =
    ((on_first_column p && on_first_column q) || (on_last_column b p && on_last_column b q))
    || ((on_first_row p && on_first_row q) || (on_last_row b p && on_last_row b q))

-- A line has two border points of the block with no side in common.
unfoldable pub line_ok : Block → Point → Point → Bool
line_ok b start end = (on_border b start && on_border b end) && not (side_shared b start end)
