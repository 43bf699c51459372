-- `holes::holes` keeps HOLES' promise: refused, or the marks of the chosen view counted.
use borrow.Author.Tests.{eq-eqb, ne_eqb}
use Rattle.std.proofs.Common.{rules, sym}
use Rattle.holes.proofs.Ways.{lent, refused, counted}
use Rattle.holes.proofs.holes.Goals as goal
use Rattle.holes.proofs.holes.Goals.{then-view-eq1, else-view-eq1}

pub returns-in_err-refusal : goal.returns-in_err-refusal
returns-in_err-refusal c =
    let a = c.args in
    search (rules, refused a.settings a.view a.left.now a.right.now c.in_err-refusal.field-0.0 c.in_err-refusal.ensures)

pub holes-count-requires : goal.holes-count-requires
holes-count-requires c =
    let a = c.args in
    let f = lent a.settings.w a.settings.h a.view a.left.now a.right.now (sym c.in_ok-refusal.ensures) in
    (f.columns, (f.rows, elim c.if-view-eq1.branch [ then-view-eq1 w ↦ rw w.marks-is f.right_marks | else-view-eq1 w ↦ rw w.marks-is f.left_marks ]))

pub returns : goal.returns
returns c =
    let a = c.args in
    counted a.settings a.view a.left.now a.right.now _ c.in_ok-refusal.ensures
    (elim c.if-view-eq1.branch [ then-view-eq1 w ↦ rw (eq-eqb a.view 1 w.if-view-eq1.true, ← w.marks-is) c.holes-count.ensures | else-view-eq1 w ↦ rw (ne_eqb a.view 1 w.if-view-eq1.false, ← w.marks-is) c.holes-count.ensures ])
