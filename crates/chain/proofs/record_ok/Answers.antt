-- `chain::record_ok` meets its contract: each way out decides one of the record's tests.
use Rattle.model.proofs.Refusals.{err_number, ok_number}
use mathlib.Core.Path.{sym, ◌∙◌}
use native.Mathlib.Omega.{arith}
use Rattle.chain.proofs.Chains.{record_short, record_refused, record_past, record_rest}
use Rattle.chain.proofs.record_ok.Goals as goal

pub returns-then-journal-first : goal.returns-then-journal-first
returns-then-journal-first c = sym (record_short c.args.w c.args.h c.args.journal.now c.args.at c.if-journal-first.true)

pub returns-then-journal-end : goal.returns-then-journal-end
returns-then-journal-end c =
    sym (record_past c.args.w c.args.h c.args.journal.now c.args.at (omega (arith, c.if-journal-end.true)))

pub returns-then-is_err : goal.returns-then-is_err
returns-then-is_err c =
    sym (record_refused c.args.w c.args.h c.args.journal.now c.args.at (λ z. err_number c.own.result (sym c.is_err.ensures.value ∙ c.if-is_err.true) (c.own.ensures ∙ z)))

pub returns : goal.returns
returns c =
    c.depths_ok.ensures
    ∙ record_rest c.args.w c.args.h c.args.journal.now c.args.at (omega (arith, c.if-journal-end.false))
    (sym c.own.ensures ∙ ok_number c.own.result (sym c.is_err.ensures.value ∙ c.if-is_err.false))
