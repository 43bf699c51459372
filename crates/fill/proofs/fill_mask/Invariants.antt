use Rattle.std.proofs.Common.{◌≡◌, ℕ, ◌+◌, ◌<◌, cond, get_or}
use lib.Dec.{eqb}
use Rattle.model.specs.Marks.{mark_at}
use Rattle.fill.proofs.fill_mask.Given as goal

abbrev pub invariant-loop-k : goal.invariant-loop-k
invariant-loop-k l =
    (j : ℕ) → j < l.k → get_or l.room j 0 ≡ cond (eqb (mark_at l.bits (l.from + j)) 1) l.value1 l.value0
