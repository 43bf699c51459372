use mathlib.Core.Path.{◌∙◌}
use native.Mathlib.Omega.{arith}
use Rattle.filter.proofs.Near.{near_each, near_mixed}
use Rattle.filter.proofs.outer.Goals as goal

pub returns : goal.returns
returns c =
    c.inner.ensures
    ∙ near_mixed c.args.row.now c.args.c _
    (near_each c.loop-j-test.array_long (λ j h. c.loop-j.invariant j (omega arith)))
    c.args.k
    c.requires.le_k.0
    c.requires.le_k.1
