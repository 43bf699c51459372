-- `lists::set_refusal` meets its contract: each step's number is the list's.
use mathlib.Core.Path.{sym, ◌∙◌}
use Rattle.std.proofs.Common.{rules}
use Rattle.model.specs.Refusals.{candidate_then}
use Rattle.validate.proofs.Numbers.{common_refused, own_refused, none_refused}
use Rattle.lists.proofs.set_refusal.Goals as goal

pub returns-in_err-common : goal.returns-in_err-common
returns-in_err-common c =
    let a = c.args in
    search (rules, common_refused a.w a.h a.leftTable.now a.rightTable.now a.share a.tear a.lengths a.view a.block (candidate_then a.block a.candidate a.n 0) c.in_err-common.field-0.0 c.in_err-common.ensures)

pub returns-in_err-own : goal.returns-in_err-own
returns-in_err-own c =
    let a = c.args in
    search (rules, own_refused a.w a.h a.leftTable.now a.rightTable.now a.share a.tear a.lengths a.view a.block (candidate_then a.block a.candidate a.n 0) c.in_err-own.field-0.0 c.in_ok-common.ensures c.in_err-own.ensures)

pub returns : goal.returns
returns c =
    let a = c.args in
    c.candidate_refusal.ensures
    ∙ sym (none_refused a.w a.h a.leftTable.now a.rightTable.now a.share a.tear a.lengths a.view a.block (candidate_then a.block a.candidate a.n 0) c.in_ok-common.ensures c.in_ok-own.ensures)
