-- `open::open` keeps OPEN's promise, refused and accepted.
use native.Mathlib.Omega.{arith}
use Rattle.std.proofs.Common.{rules, ◌≡◌, sym, ◌∙◌}
use Rattle.model.specs.Planes.{pictures, depths, view, held}
use Rattle.model.specs.Refusals.{words_ok, unless, pictures_ok, open_number}
use Rattle.model.proofs.Refusals.{Common, common_facts, common_passed, table_yes}
use Rattle.validate.proofs.Numbers.{common_number_lem}
use Rattle.open.proofs.Opening.{planes_left, planes_right, common_kept, words_some, refused, opened}
use Rattle.open.proofs.open.Goals as goal
use Rattle.open.proofs.open.Goals.{In_ok-open_refusal}

-- no number applies
none : (c : In_ok-open_refusal) → let a = c.args in open_number a.settings (pictures a.left.now a.right.now a.reference.now) (depths a.leftDepths.now a.rightDepths.now) (held (view a.leftSamples.now a.leftFronts.now a.leftLimits.now a.leftMarks.now) (view a.rightSamples.now a.rightFronts.now a.rightLimits.now a.rightMarks.now) a.combined.now) a.journal.now ≡ 0
none c =
    let a = c.args in
    let p = pictures a.left.now a.right.now a.reference.now in
    let d = depths a.leftDepths.now a.rightDepths.now in
    let g = held (view a.leftSamples.now a.leftFronts.now a.leftLimits.now a.leftMarks.now) (view a.rightSamples.now a.rightFronts.now a.rightLimits.now a.rightMarks.now) a.combined.now in
    sym (c.in_ok-open_refusal.ensures ∙ common_number_lem a.settings p d g (unless (words_ok a.journal.now) 13 (unless (pictures_ok p) 21 0)))

passed : (c : In_ok-open_refusal) → let a = c.args in Common a.settings (pictures a.left.now a.right.now a.reference.now) (depths a.leftDepths.now a.rightDepths.now) (held (view a.leftSamples.now a.leftFronts.now a.leftLimits.now a.leftMarks.now) (view a.rightSamples.now a.rightFronts.now a.rightLimits.now a.rightMarks.now) a.combined.now)
passed c = common_facts _ _ _ _ (common_passed _ _ _ _ _ (none c))

pub returns-in_err-open_refusal : goal.returns-in_err-open_refusal
returns-in_err-open_refusal c =
    let a = c.args in
    let p = pictures a.left.now a.right.now a.reference.now in
    let d = depths a.leftDepths.now a.rightDepths.now in
    let g = held (view a.leftSamples.now a.leftFronts.now a.leftLimits.now a.leftMarks.now) (view a.rightSamples.now a.rightFronts.now a.rightLimits.now a.rightMarks.now) a.combined.now in
    search (rules, refused a.settings p d g a.journal.now c.in_err-open_refusal.field-0.0 (c.in_err-open_refusal.ensures ∙ common_number_lem a.settings p d g (unless (words_ok a.journal.now) 13 (unless (pictures_ok p) 21 0))) (record { left = λ i. omega (arith, c.type_inv.leftDepths i); right = λ i. omega (arith, c.type_inv.rightDepths i) }))

pub fill-total-requires : goal.fill-total-requires
fill-total-requires c =
    let f = passed (goal.at.fill-total-requires c).In_ok-open_refusal in
    record {
      table = (table_yes _ f.tables.left, (table_yes _ f.tables.right, f.share));
      w_nonzero = (f.size.w.some, (f.size.w.most, f.size.h.most));
      planes_of = planes_left _ _ _ _ f;
      planes_of_2 = planes_right _ _ _ _ f;
      reference_len = (f.pictures.reference, f.held.combined);
    }

pub bounds-journal-0 : goal.bounds-journal-0
bounds-journal-0 c = words_some _ _ _ _ _ (none (goal.at.bounds-journal-0 c).In_ok-open_refusal)

pub returns : goal.returns
returns c =
    let at = (goal.at.returns c).In_ok-open_refusal in
    let l = c.fill-total.auto in
    opened _ _ _ _ _ _ _ (none at) (common_kept _ _ _ _ _ (passed at) l.leftSamples l.leftFronts l.leftLimits l.leftMarks l.rightSamples l.rightFronts l.rightLimits l.rightMarks l.combined) c.fill-total.ensures
    (record { left = λ i. omega (arith, c.type_inv.leftDepths i); right = λ i. omega (arith, c.type_inv.rightDepths i) })
