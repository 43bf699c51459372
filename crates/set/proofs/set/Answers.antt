-- `set::set` keeps SET's promise, refused and accepted.
use mathlib.Core.Path.{refl, sym, ◌∙◌}
use Rattle.std.specs.Prelude.{Ok, Err}
use Rattle.std.proofs.Common.{rules}
use native.Mathlib.Omega.{arith}
use mir.Facts.{to_z-of_z}
use mir.Syntax.{w64}
use mir.Val.{SFits}
use lib.ListN.{length}
use Rattle.model.specs.Planes.{pictures, depths}
use Rattle.model.proofs.Refusals.{err_from}
use Rattle.validate.proofs.Numbers.{early_number_lem}
use Rattle.judge.specs.Judged.{verdict}
use Rattle.decide.specs.Decided.{held_of}
use Rattle.set.proofs.Setting.{set_refused, set_settled}
use Rattle.set.proofs.set.Goals as goal

pub returns-in_err-set_refusal : goal.returns-in_err-set_refusal
returns-in_err-set_refusal c =
    let p = pictures c.args.left.now c.args.right.now c.args.reference.now in
    let d = depths c.args.leftDepths.now c.args.rightDepths.now in
    let h = held_of c.args.leftSamples.now c.args.leftFronts.now c.args.leftLimits.now c.args.leftMarks.now c.args.rightSamples.now c.args.rightFronts.now c.args.rightLimits.now c.args.rightMarks.now c.args.combined.now in
    let found = c.in_err-set_refusal.ensures ∙ early_number_lem c.args.settings p d h c.args.view c.args.block c.args.candidate (length c.args.bytes.now) in
    rw (sym (err_from c.from_residual.result _ c.from_residual.ensures.1))
    (set_refused c.args.settings p d h c.args.journal.now c.args.view c.args.block c.args.candidate c.args.bytes.now c.in_err-set_refusal.field-0.0 found
    (record { left = λ i. omega (arith, c.type_inv.leftDepths i); right = λ i. omega (arith, c.type_inv.rightDepths i) }))

pub settle_view-requires : goal.settle_view-requires
settle_view-requires c =
    let p = pictures c.args.left.now c.args.right.now c.args.reference.now in
    let d = depths c.args.leftDepths.now c.args.rightDepths.now in
    let h = held_of c.args.leftSamples.now c.args.leftFronts.now c.args.leftLimits.now c.args.leftMarks.now c.args.rightSamples.now c.args.rightFronts.now c.args.rightLimits.now c.args.rightMarks.now c.args.combined.now in
    sym (c.in_ok-set_refusal.ensures ∙ early_number_lem c.args.settings p d h c.args.view c.args.block c.args.candidate (length c.args.bytes.now))

pub returns-in_err-decision : goal.returns-in_err-decision
returns-in_err-decision c =
    let p = pictures c.args.left.now c.args.right.now c.args.reference.now in
    let d = depths c.args.leftDepths.now c.args.rightDepths.now in
    let h = held_of c.args.leftSamples.now c.args.leftFronts.now c.args.leftLimits.now c.args.leftMarks.now c.args.rightSamples.now c.args.rightFronts.now c.args.rightLimits.now c.args.rightMarks.now c.args.combined.now in
    let none = sym (c.in_ok-set_refusal.ensures ∙ early_number_lem c.args.settings p d h c.args.view c.args.block c.args.candidate (length c.args.bytes.now)) in
    rw (sym (err_from c.from_residual-in_err-decision.result _ c.from_residual-in_err-decision.ensures.1))
    (set_settled c.args.settings p d h c.args.journal.now c.args.view c.args.block c.args.candidate c.args.bytes.now (verdict c.args.settings.total (Err c.in_err-decision.field-0.0)) _ refl _ _ _ none c.in_err-decision.ensures.0 c.in_err-decision.ensures.1
    (record { left = λ i. omega (arith, c.type_inv.leftDepths i); right = λ i. omega (arith, c.type_inv.rightDepths i) }))

pub returns : goal.returns
returns c =
    let p = pictures c.args.left.now c.args.right.now c.args.reference.now in
    let d = depths c.args.leftDepths.now c.args.rightDepths.now in
    let h = held_of c.args.leftSamples.now c.args.leftFronts.now c.args.leftLimits.now c.args.leftMarks.now c.args.rightSamples.now c.args.rightFronts.now c.args.rightLimits.now c.args.rightMarks.now c.args.combined.now in
    let none = sym (c.in_ok-set_refusal.ensures ∙ early_number_lem c.args.settings p d h c.args.view c.args.block c.args.candidate (length c.args.bytes.now)) in
    let fits : SFits w64 c.in_ok-decision.decision.change = search rules in
    set_settled c.args.settings p d h c.args.journal.now c.args.view c.args.block c.args.candidate c.args.bytes.now (verdict c.args.settings.total (Ok c.in_ok-decision.decision)) _ (to_z-of_z fits) _ _ _ none c.in_ok-decision.ensures.0 c.in_ok-decision.ensures.1
    (record { left = λ i. omega (arith, c.type_inv.leftDepths i); right = λ i. omega (arith, c.type_inv.rightDepths i) })
