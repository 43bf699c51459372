use Rattle.planes.specs.Parts.{block_of}
use Rattle.strips.specs.Strips.{around_lent, own_lent}
use Rattle.trial.specs.Trial.{BlockTrial}
use Rattle.trial.proofs.trial_block.Given as goal

abbrev pub invariant-loop-i : goal.invariant-loop-i
invariant-loop-i l =
    BlockTrial l.w (around_lent l.o) (own_lent l.v) (block_of l.column l.row l.width l.height) l.candidate l.i l.old l.new
