use Rattle.std.proofs.Common.{◌≡◌}
use Rattle.marks.specs.Puts.{put_marks}
use Rattle.marks.proofs.put_marks.Given as goal

abbrev pub invariant-loop-i : goal.invariant-loop-i
invariant-loop-i l = l.row ≡ put_marks l.initial.row l.start l.flags l.i
