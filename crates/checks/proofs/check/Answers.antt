-- `checks::check` reports what the walk finds.
use native.Mathlib.Omega.{arith}
use Rattle.checks.proofs.Ways.{reported}
use Rattle.checks.proofs.check.Goals as goal

pub returns : goal.returns
returns c =
    reported _ _ _ _ _ _ c.in_ok-common.ensures c.walk-found.ensures c.verdict.ensures
    (record { left = λ i. omega (arith, c.type_inv.leftMarks i); right = λ i. omega (arith, c.type_inv.rightMarks i) })
