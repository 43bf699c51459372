-- `settle::settle_view` meets its contract, for either view.
use mathlib.Core.Bool.{true, false}
use mathlib.Core.Path.{◌≡◌}
use borrow.Author.Tests.{eq-eqb, ne_eqb}
use Rattle.model.specs.Views.{is_right}
use Rattle.model.specs.Planes.{pictures, depths}
use Rattle.model.specs.Candidates.{filled}
use Rattle.decide.specs.Decided.{settings_of, held_of}
use Rattle.decide.proofs.Ways.{passed, candidate_taken}
use Rattle.settled.proofs.Settling.{own_requires, settled_by}
use Rattle.settle.proofs.settle_view.Goals as goal

pub settle-requires : goal.settle-requires
settle-requires c =
    let s = settings_of c.args.w c.args.h c.args.leftTable.now c.args.rightTable.now c.args.share c.args.tolerance c.args.tear c.args.total in
    let p = pictures c.args.left.now c.args.right.now c.args.reference.now in
    let d = depths c.args.leftDepths.now c.args.rightDepths.now in
    let h = held_of c.args.leftSamples.now c.args.leftFronts.now c.args.leftLimits.now c.args.leftMarks.now c.args.rightSamples.now c.args.rightFronts.now c.args.rightLimits.now c.args.rightMarks.now c.args.combined.now in
    let f = passed s p d h c.args.view c.args.block c.args.candidate c.args.bytes.now c.requires in
    let r = own_requires s p d h c.args.block (filled c.args.block c.args.candidate c.args.bytes.now) f true in record { table_value = r.0; sized = r.1.0; sized_2 = r.1.1.0; fits = (r.1.1.1, candidate_taken s p d h c.args.view c.args.block c.args.candidate c.args.bytes.now c.requires) }

pub returns-then-view-eq1 : goal.returns-then-view-eq1
returns-then-view-eq1 c =
    let s = settings_of c.args.w c.args.h c.args.leftTable.now c.args.rightTable.now c.args.share c.args.tolerance c.args.tear c.args.total in
    let p = pictures c.args.left.now c.args.right.now c.args.reference.now in
    let d = depths c.args.leftDepths.now c.args.rightDepths.now in
    let h = held_of c.args.leftSamples.now c.args.leftFronts.now c.args.leftLimits.now c.args.leftMarks.now c.args.rightSamples.now c.args.rightFronts.now c.args.rightLimits.now c.args.rightMarks.now c.args.combined.now in
    let f = passed s p d h c.args.view c.args.block c.args.candidate c.args.bytes.now c.requires in
    let side : is_right c.args.view ≡ true = eq-eqb c.args.view 1 c.if-view-eq1.true in
    (settled_by s p d h c.args.block (filled c.args.block c.args.candidate c.args.bytes.now) f c.args.view _ true side _ _ _ _ c.settle.ensures.0, rw side c.settle.ensures.1)

pub settle-requires-2 : goal.settle-requires-2
settle-requires-2 c =
    let s = settings_of c.args.w c.args.h c.args.leftTable.now c.args.rightTable.now c.args.share c.args.tolerance c.args.tear c.args.total in
    let p = pictures c.args.left.now c.args.right.now c.args.reference.now in
    let d = depths c.args.leftDepths.now c.args.rightDepths.now in
    let h = held_of c.args.leftSamples.now c.args.leftFronts.now c.args.leftLimits.now c.args.leftMarks.now c.args.rightSamples.now c.args.rightFronts.now c.args.rightLimits.now c.args.rightMarks.now c.args.combined.now in
    let f = passed s p d h c.args.view c.args.block c.args.candidate c.args.bytes.now c.requires in
    let r = own_requires s p d h c.args.block (filled c.args.block c.args.candidate c.args.bytes.now) f false in record { table_value = r.0; sized = r.1.0; sized_2 = r.1.1.0; fits = (r.1.1.1, candidate_taken s p d h c.args.view c.args.block c.args.candidate c.args.bytes.now c.requires) }

pub returns : goal.returns
returns c =
    let s = settings_of c.args.w c.args.h c.args.leftTable.now c.args.rightTable.now c.args.share c.args.tolerance c.args.tear c.args.total in
    let p = pictures c.args.left.now c.args.right.now c.args.reference.now in
    let d = depths c.args.leftDepths.now c.args.rightDepths.now in
    let h = held_of c.args.leftSamples.now c.args.leftFronts.now c.args.leftLimits.now c.args.leftMarks.now c.args.rightSamples.now c.args.rightFronts.now c.args.rightLimits.now c.args.rightMarks.now c.args.combined.now in
    let f = passed s p d h c.args.view c.args.block c.args.candidate c.args.bytes.now c.requires in
    let side : is_right c.args.view ≡ false = ne_eqb c.args.view 1 c.if-view-eq1.false in
    (settled_by s p d h c.args.block (filled c.args.block c.args.candidate c.args.bytes.now) f c.args.view _ false side _ _ _ _ c.settle-2.ensures.0, rw side c.settle-2.ensures.1)
