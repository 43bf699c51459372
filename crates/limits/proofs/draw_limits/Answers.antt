use Prim.Native.Nat.{ℕ, min}
use mathlib.Core.Path.{ap, ◌∙◌}
use native.Mathlib.Omega.{arith}
use mir.Syntax.{w16}
use mir.ValLaws.{to_z-of_z}
use Rattle.model.proofs.Views.{length_seen}
use Rattle.limits.proofs.Falling.{limits_none, limits_next}
use Rattle.limits.proofs.draw_limits.Goals as goal

pub loop-c-init : goal.loop-c-init
loop-c-init c = limits_none _ _ _ _

pub loop-c-preserved : goal.loop-c-preserved
loop-c-preserved c =
    limits_next _ c.loop-c.invariant (omega arith) (omega (arith, length_seen c.args.right c.loop-c.limits))
    (c.min-top.ensures ∙ ap (λ (p : ℕ). min p c.loop-c.top) c.place_of.ensures)
    (to_z-of_z w16 c.limit_of.result (record { sfits = c.limit_of.type_inv }) ∙ c.limit_of.ensures)
    c.put_limit.ensures
