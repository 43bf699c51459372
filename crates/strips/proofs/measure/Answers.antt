-- `strips::measure` meets its contract: the two sums so far, entry by entry.
use mathlib.Core.Path.{◌∙◌}
use native.Mathlib.Omega.{arith}
use Rattle.strips.proofs.Rows.{measured_none, measured_next}
use Rattle.strips.proofs.measure.Goals as goal

pub loop-k-init : goal.loop-k-init
loop-k-init c = measured_none _ _ _

pub loop-k-preserved : goal.loop-k-preserved
loop-k-preserved c =
    measured_next c.loop-k.invariant
    (c.from-old.ensures ∙ c.error_at.ensures.0)
    (omega (arith, c.from-old.ensures, c.error_at.ensures.1))
    (c.from-new.ensures ∙ c.error_with-error.ensures.0)
    (omega (arith, c.from-new.ensures, c.error_with-error.ensures.1))
