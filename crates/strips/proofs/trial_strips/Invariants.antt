use Rattle.row.specs.Drawing.{line_with}
use Rattle.strips.specs.Strips.{around_lent}
use Rattle.strips.proofs.Strips.{Strips}
use Rattle.strips.proofs.trial_strips.Given as goal

abbrev pub invariant-loop-top : goal.invariant-loop-top
invariant-loop-top l =
    Strips (around_lent l.o) (line_with l.v.tear l.o.right l.v.table.now l.v.texture.now l.v.depths.now l.column l.candidate) l.initial.q l.start l.stop l.top l.q l.old l.new

abbrev pub decreases-loop-top : goal.decreases-loop-top
decreases-loop-top l = l.top
