-- `edits::write_limits` meets its contract: from the right, the limits of the columns passed are written.
use Prim.Native.Nat.{ℕ, min}
use mathlib.Core.Path.{ap, ◌∙◌}
use native.Mathlib.Omega.{arith}
use mir.Syntax.{w16}
use Rattle.model.proofs.Views.{length_seen}
use Rattle.signed.proofs.Signed.{read_back}
use Rattle.limits.proofs.Falling.{limits_none, limits_next}
use Rattle.edits.proofs.Limits.{written_settled}
use Rattle.edits.proofs.write_limits.Goals as goal

pub loop-c-init : goal.loop-c-init
loop-c-init c = limits_none _ _ _ _

pub returns-then-held_limit-top : goal.returns-then-held_limit-top
returns-then-held_limit-top c =
    written_settled c.loop-c.invariant c.args.first _ _ _ (omega arith) (omega arith)
    c.place_of.ensures c.min-top.ensures c.held_limit.ensures c.if-held_limit-top.true

pub loop-c-preserved : goal.loop-c-preserved
loop-c-preserved c =
    limits_next _ c.loop-c.invariant (omega arith) (omega (arith, length_seen c.args.right c.loop-c.limits))
    (c.min-top.ensures ∙ ap (λ (p : ℕ). min p c.loop-c.top) c.place_of.ensures)
    (read_back w16 c.limit_of.result c.limit_of.type_inv ∙ c.limit_of.ensures) c.put_limit.ensures
