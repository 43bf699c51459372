-- Counts of holes, and a row as a part of the marks.
use Prim.Native.Nat.{ℕ, ◌+◌, ◌-◌, ◌*◌, ◌/◌, ◌%◌, ◌^◌, ◌<◌, ◌≤◌}
use mathlib.Core.Path.{◌≡◌}
use mathlib.Core.List.{List}
use native.Mathlib.Nat.{mod-lt}
use native.Mathlib.Omega.{arith}
use lib.ListN.{get_or, take, drop}
use Rattle.model.specs.Lists.{row_of}
use Rattle.model.specs.Marks.{mark_at, row_holes}
use Rattle.model.proofs.Sums.{sum_most}

mark_lt : (row : List ℕ) (p : ℕ) → mark_at row p < 2
mark_lt row p = mod-lt (get_or row (p / 8) 0 / 2 ^ (p % 8)) {m = 2} (omega arith)

-- no more holes than positions
pub holes_most : (row : List ℕ) (w : ℕ) → row_holes row w ≤ w
unfolding row_holes
holes_most row w = omega (arith, sum_most (mark_at row) 1 w (λ p h. omega (arith, mark_lt row p)))

-- the part of a plane of rows of s bytes that is its row y
pub part_row : (plane : List ℕ) (s bytes y : ℕ) → bytes ≡ s → take (y * bytes + bytes - y * bytes) (drop (y * bytes) plane) ≡ row_of plane s y
unfolding row_of
part_row plane s bytes y q = let e : y * s + s - y * s ≡ s = omega arith in rw (q, e)
