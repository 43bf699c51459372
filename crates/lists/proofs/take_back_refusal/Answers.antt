-- `lists::take_back_refusal` meets its contract: 13 and 12 come after 4.
use mathlib.Core.Path.{sym, ◌∙◌}
use Rattle.std.proofs.Common.{rules}
use Rattle.model.specs.Refusals.{taking_then}
use Rattle.model.proofs.Refusals.{refused_before}
use Rattle.validate.specs.Numbers.{sides}
use Rattle.validate.proofs.Numbers.{numbers_before, sides_passed}
use Rattle.lists.proofs.take_back_refusal.Goals as goal

pub returns-in_err-common : goal.returns-in_err-common
returns-in_err-common c =
    let a = c.args in
    let refused = refused_before (numbers_before a.w a.h a.leftTable.now a.rightTable.now a.share a.tear a.lengths) c.in_err-common.field-0.0 in
    search (rules, refused (taking_then (sides a.w a.h) a.journal.now 0) c.in_err-common.ensures)

pub taking-requires : goal.taking-requires
taking-requires c =
    let a = c.args in
    sides_passed a.w a.h a.leftTable.now a.rightTable.now a.share a.tear a.lengths (sym c.in_ok-common.ensures)

pub returns : goal.returns
returns c =
    let a = c.args in
    c.taking.ensures ∙ sym ((numbers_before a.w a.h a.leftTable.now a.rightTable.now a.share a.tear a.lengths).rest _ (sym c.in_ok-common.ensures))
