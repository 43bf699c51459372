use Rattle.std.proofs.Common.{◌≡◌, ℕ, ◌+◌, ◌*◌, ◌<◌, cond, get_or}
use lib.Dec.{ltb}
use Rattle.fill.proofs.walk.Given as goal

abbrev pub invariant-loop-entry : goal.invariant-loop-entry
invariant-loop-entry l =
    (l.a ≡ l.over + l.up * l.entry-index) × ((l.b ≡ l.under + l.down * l.entry-index)
    × ((k : ℕ) → k < l.entry-index → get_or l.room k 0 ≡ cond (ltb (l.under + l.down * k) (l.over + l.up * k)) l.value1 l.value0))
