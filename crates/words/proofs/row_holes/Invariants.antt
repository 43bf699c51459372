use Rattle.std.proofs.Common.{◌≡◌, ◌*◌}
use Rattle.model.specs.Marks.{row_holes}
use Rattle.words.proofs.row_holes.Given as goal

-- Positions are written as those of byte 8 k, where word k begins.
abbrev pub invariant-loop-k : goal.invariant-loop-k
invariant-loop-k l = l.n ≡ row_holes l.row (8 * (8 * l.k))
