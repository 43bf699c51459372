use lib.ListN.{get_or}
use Rattle.model.specs.Row.{pixel}
use Rattle.strips.specs.Strips.{around_lent, Measured}
use Rattle.strips.proofs.measure.Given as goal

abbrev pub invariant-loop-k : goal.invariant-loop-k
invariant-loop-k l =
    Measured (around_lent l.o) l.from l.k (λ i. pixel (get_or l.s i 0) (get_or l.m i 0) (get_or l.f i 0)) l.old l.new
