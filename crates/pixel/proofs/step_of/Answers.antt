use native.Mathlib.Omega.{arith}
use borrow.Author.Rules.{rules}
use Rattle.pixel.proofs.Steps.{step_count, step_even}
use Rattle.pixel.proofs.step_of.Goals as goal

pub returns-then-gap-eq4 : goal.returns-then-gap-eq4
returns-then-gap-eq4 c = (step_even c.args.t c.args.gap c.if-gap-eq4.true, omega arith)

pub returns : goal.returns
returns c = (
  rw (c.reaches.ensures.0, c.reaches-2.ensures.0, c.reaches-3.ensures.0, c.reaches-4.ensures.0) (step_count c.args.t c.args.gap (omega arith)),
  search rules,
)
