use Prim.Native.Nat.{ℕ, ◌+◌, ◌<◌}
use mathlib.Core.Path.{◌≡◌}
use Rattle.model.specs.declared.Candidate.TheVariants.{Regions}
use Rattle.model.specs.Lists.{row_of}
use Rattle.fill.specs.Rows.{filled_row}
use Rattle.fill.proofs.fill_rows.Given as goal

abbrev pub invariant-loop-k : goal.invariant-loop-k
invariant-loop-k l = (j : ℕ) → j < l.k → row_of l.room l.width j ≡ filled_row l.width (Regions l.value0 l.value1 l.split) l.bytes (l.i + j)
