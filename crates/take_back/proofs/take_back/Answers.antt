-- `take_back::take_back` keeps TAKE BACK's promise, refused and accepted.
use mathlib.Core.Path.{refl, sym, ap, ◌∙◌}
use native.Mathlib.Omega.{arith}
use mir.Facts.{to_z-of_z}
use mir.Syntax.{w64}
use mir.Val.{SFits}
use Rattle.std.specs.Prelude.{Ok, Err}
use Rattle.std.proofs.Common.{rules}
use Rattle.model.specs.Planes.{pictures, depths}
use Rattle.model.specs.Refusals.{answer_number}
use Rattle.model.specs.Promises.{EightBit}
use Rattle.model.proofs.Refusals.{some_number, err_from}
use Rattle.judge.specs.Judged.{verdict}
use Rattle.decide.specs.Decided.{held_of}
use Rattle.take_back.proofs.Taking.{early_taken, newest_there, part_there, taken_requires, handed_on, take_refused, take_settled}
use Rattle.take_back.proofs.take_back.Goals as goal

pub returns-in_err-take_back_refusal : goal.returns-in_err-take_back_refusal
returns-in_err-take_back_refusal c =
    let p = pictures c.args.left.now c.args.right.now c.args.reference.now in
    let d = depths c.args.leftDepths.now c.args.rightDepths.now in
    let h = held_of c.args.leftSamples.now c.args.leftFronts.now c.args.leftLimits.now c.args.leftMarks.now c.args.rightSamples.now c.args.rightFronts.now c.args.rightLimits.now c.args.rightMarks.now c.args.combined.now in
    rw (sym (err_from c.from_residual.result _ c.from_residual.ensures.1))
    (take_refused c.args.settings p d h c.args.journal.now c.in_err-take_back_refusal.field-0.0 (early_taken c.args.settings p d h c.args.journal.now c.in_err-take_back_refusal.ensures)
    (record { left = λ i. omega (arith, c.type_inv.leftDepths i); right = λ i. omega (arith, c.type_inv.rightDepths i) }))

pub newest_record-record-requires : goal.newest_record-record-requires
newest_record-record-requires c =
    let p = pictures c.args.left.now c.args.right.now c.args.reference.now in
    let d = depths c.args.leftDepths.now c.args.rightDepths.now in
    let h = held_of c.args.leftSamples.now c.args.leftFronts.now c.args.leftLimits.now c.args.leftMarks.now c.args.rightSamples.now c.args.rightFronts.now c.args.rightLimits.now c.args.rightMarks.now c.args.combined.now in
    let early = sym (early_taken c.args.settings p d h c.args.journal.now c.in_ok-take_back_refusal.ensures) in
    newest_there c.args.settings p d h c.args.journal.now early

pub offset_bounds-journal-from : goal.offset_bounds-journal-from
offset_bounds-journal-from c =
    let p = pictures c.args.left.now c.args.right.now c.args.reference.now in
    let d = depths c.args.leftDepths.now c.args.rightDepths.now in
    let h = held_of c.args.leftSamples.now c.args.leftFronts.now c.args.leftLimits.now c.args.leftMarks.now c.args.rightSamples.now c.args.rightFronts.now c.args.rightLimits.now c.args.rightMarks.now c.args.combined.now in
    let early = sym (early_taken c.args.settings p d h c.args.journal.now c.in_ok-take_back_refusal.ensures) in
    omega (arith, (part_there c.args.settings p d h c.args.journal.now early c.newest_record-record.ensures).0, c.well_formed)

pub slice_bounds-restore_view-end : goal.slice_bounds-restore_view-end
slice_bounds-restore_view-end c =
    let p = pictures c.args.left.now c.args.right.now c.args.reference.now in
    let d = depths c.args.leftDepths.now c.args.rightDepths.now in
    let h = held_of c.args.leftSamples.now c.args.leftFronts.now c.args.leftLimits.now c.args.leftMarks.now c.args.rightSamples.now c.args.rightFronts.now c.args.rightLimits.now c.args.rightMarks.now c.args.combined.now in
    let early = sym (early_taken c.args.settings p d h c.args.journal.now c.in_ok-take_back_refusal.ensures) in
    (part_there c.args.settings p d h c.args.journal.now early c.newest_record-record.ensures).1

pub restore_view-restored-requires : goal.restore_view-restored-requires
restore_view-restored-requires c =
    let p = pictures c.args.left.now c.args.right.now c.args.reference.now in
    let d = depths c.args.leftDepths.now c.args.rightDepths.now in
    let h = held_of c.args.leftSamples.now c.args.leftFronts.now c.args.leftLimits.now c.args.leftMarks.now c.args.rightSamples.now c.args.rightFronts.now c.args.rightLimits.now c.args.rightMarks.now c.args.combined.now in
    let early = sym (early_taken c.args.settings p d h c.args.journal.now c.in_ok-take_back_refusal.ensures) in
    taken_requires c.args.settings p d h c.args.journal.now early c.newest_record-record.ensures

pub strike-requires : goal.strike-requires
strike-requires c =
    let p = pictures c.args.left.now c.args.right.now c.args.reference.now in
    let d = depths c.args.leftDepths.now c.args.rightDepths.now in
    let h = held_of c.args.leftSamples.now c.args.leftFronts.now c.args.leftLimits.now c.args.leftMarks.now c.args.rightSamples.now c.args.rightFronts.now c.args.rightLimits.now c.args.rightMarks.now c.args.combined.now in
    let early = sym (early_taken c.args.settings p d h c.args.journal.now c.in_ok-take_back_refusal.ensures) in
    (newest_there c.args.settings p d h c.args.journal.now early).0

pub returns-in_err-decision : goal.returns-in_err-decision
returns-in_err-decision c =
    let p = pictures c.args.left.now c.args.right.now c.args.reference.now in
    let d = depths c.args.leftDepths.now c.args.rightDepths.now in
    let h = held_of c.args.leftSamples.now c.args.leftFronts.now c.args.leftLimits.now c.args.leftMarks.now c.args.rightSamples.now c.args.rightFronts.now c.args.rightLimits.now c.args.rightMarks.now c.args.combined.now in
    let early = sym (early_taken c.args.settings p d h c.args.journal.now c.in_ok-take_back_refusal.ensures) in
    let e = c.in_err-decision.ensures.answer in
    let bytes : EightBit (depths c.restore_view-restored.new.leftDepths c.restore_view-restored.new.rightDepths) = record { left = λ i. omega (arith, c.type_inv.leftDepths i); right = λ i. omega (arith, c.type_inv.rightDepths i) } in
    rw (sym (err_from c.from_residual-in_err-decision.result _ c.from_residual-in_err-decision.ensures.1))
    (take_settled c.args.settings p d h c.args.journal.now (verdict c.args.settings.total (Err c.in_err-decision.field-0.0)) _ refl _ _ _ early c.newest_record-record.ensures (handed_on c.args.settings.total e c.restore_view-restored.ensures)
    (λ ne. c.in_err-decision.ensures.struck.refused (λ z. ne (ap answer_number e ∙ z))) (λ z. absurd (some_number _ z)) bytes)

pub returns : goal.returns
returns c =
    let p = pictures c.args.left.now c.args.right.now c.args.reference.now in
    let d = depths c.args.leftDepths.now c.args.rightDepths.now in
    let h = held_of c.args.leftSamples.now c.args.leftFronts.now c.args.leftLimits.now c.args.leftMarks.now c.args.rightSamples.now c.args.rightFronts.now c.args.rightLimits.now c.args.rightMarks.now c.args.combined.now in
    let early = sym (early_taken c.args.settings p d h c.args.journal.now c.in_ok-take_back_refusal.ensures) in
    let e = c.in_ok-decision.ensures.answer in
    let bytes : EightBit (depths c.restore_view-restored.new.leftDepths c.restore_view-restored.new.rightDepths) = record { left = λ i. omega (arith, c.type_inv.leftDepths i); right = λ i. omega (arith, c.type_inv.rightDepths i) } in
    let fits : SFits w64 c.in_ok-decision.decision.change = search rules in
    take_settled c.args.settings p d h c.args.journal.now (verdict c.args.settings.total (Ok c.in_ok-decision.decision)) _ (to_z-of_z fits) _ _ _ early c.newest_record-record.ensures (handed_on c.args.settings.total e c.restore_view-restored.ensures)
    (λ ne. absurd (ne refl)) (λ _. c.in_ok-decision.ensures.struck.moved (sym (ap answer_number e))) bytes
