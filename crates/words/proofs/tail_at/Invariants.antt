use Rattle.std.proofs.Common.{◌≡◌}
use Rattle.words.specs.Words.{joined}
use Rattle.words.proofs.tail_at.Given as goal

abbrev pub invariant-loop-k : goal.invariant-loop-k
invariant-loop-k l = l.v ≡ joined l.row l.j l.k
