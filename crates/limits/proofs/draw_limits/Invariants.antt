use Rattle.model.specs.Row.{place}
use Rattle.model.specs.Views.{seen}
use Rattle.limits.proofs.Falling.{LimitsFrom}
use Rattle.limits.proofs.draw_limits.Given as goal

abbrev pub invariant-loop-c : goal.invariant-loop-c
invariant-loop-c l = LimitsFrom (place l.table (seen l.right l.depths)) l.columns l.high l.top l.c (seen l.right l.initial.limits) (seen l.right l.limits)
