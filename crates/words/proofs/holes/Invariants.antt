use Rattle.std.proofs.Common.{◌≡◌, ◌*◌, ◌≤◌}
use Rattle.model.specs.Marks.{holes_in}
use Rattle.words.proofs.holes.Given as goal

abbrev pub invariant-loop-y : goal.invariant-loop-y
invariant-loop-y l = (l.n ≤ 4096 * l.y) × (l.n ≡ holes_in l.marks l.w l.y)
