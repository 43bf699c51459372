-- L as a caller works it out from what it holds (include/luphwezane.h, luph_get): the limit held for the next column, the view's table, and depths.
use Rattle.std.specs.Prelude.{ℕ, ◌+◌, ◌-◌, ◌*◌, Bool, cond, eqb, ℤ, pos, ◌-ℤ◌, get_or}
use Rattle.std.specs.Int.Signed.{le_z}
use Rattle.model.specs.declared.Settings.{Settings}
use Rattle.model.specs.declared.Block.{Block}
use Rattle.model.specs.Lists.{entry_at}
use Rattle.model.specs.Views.{entry_of}
use Rattle.model.specs.Planes.{Depths, Held, table_of, depths_of, view_of}
use Rattle.reach.specs.Reach.{from_zero}

-- the lesser of two numbers
abbrev pub lesser : ℤ → ℤ → ℤ
lesser a b = cond (le_z a b) a b

-- the place of column c, as the view reads the row, with depth q: 4 × c − table[q]
abbrev pub place_with : Settings → Bool → ℕ → ℕ → ℤ
place_with s right c q = pos (4 * c) -ℤ pos (get_or (table_of s right) q 0)

-- the depth that is held for column c of row y, as the view reads the row; and the limit
abbrev pub held_depth : Settings → Bool → Depths → ℕ → ℕ → ℕ
held_depth s right d y c = entry_at (depths_of d right) s.w y (entry_of right s.w c) 0

abbrev pub held_limit : Settings → Bool → Held → ℕ → ℕ → ℤ
held_limit s right h y c = entry_at (view_of h right).limits s.w y (entry_of right s.w c) (pos 0)

-- Low for column c of row y, where depth q is tried: the least of three places, less one quarter. They are the place of c with its depth, of c with q, and of c − 1.
-- At c = 0 the last is column 0's own, which is counted already.
unfoldable pub held_low : Settings → Bool → Depths → ℕ → ℕ → ℕ → ℤ
held_low s right d y c q =
    lesser (place_with s right c (held_depth s right d y c)) (lesser (place_with s right c q) (place_with s right (c - 1) (held_depth s right d y (c - 1)))) -ℤ pos 1

-- high: the limit of c + 1, and 4 × w for the last column
unfoldable pub held_high : Settings → Bool → Held → ℕ → ℕ → ℤ
held_high s right h y c = cond (eqb (c + 1) s.w) (pos (4 * s.w)) (held_limit s right h y (c + 1))

-- L for a block of one column and one row
unfoldable pub held_length : Settings → Bool → Block → Depths → Held → ℕ → ℤ
held_length s right b d h q =
    let c = entry_of right s.w b.column in
    held_high s right h b.row c -ℤ from_zero (held_low s right d b.row c q)
