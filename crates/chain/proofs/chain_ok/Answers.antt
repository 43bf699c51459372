-- `chain::chain_ok` meets its contract: from the index reached the chain is sound exactly where it is from the newest.
use mathlib.Core.Path.{sym, ◌∙◌}
use native.Mathlib.Omega.{arith}
use Rattle.model.proofs.Journals.{chain_zero}
use Rattle.validate.specs.Numbers.{sides}
use Rattle.chain.proofs.Chains.{chain_refused, chain_still, chain_next, record_inside}
use Rattle.chain.proofs.chain_ok.Goals as goal

pub returns-then-not-record_ok : goal.returns-then-not-record_ok
returns-then-not-record_ok c =
    sym (sym c.loop-at.invariant.1 ∙ chain_refused (sides c.args.w c.args.h) c.args.journal.now c.loop-at.at c.loop-at-test.true (sym c.record_ok.ensures ∙ c.if-not-record_ok.true))

pub bounds-journal-at : goal.bounds-journal-at
bounds-journal-at c =
    omega (arith, record_inside (sides c.args.w c.args.h) c.args.journal.now c.loop-at.at (sym c.record_ok.ensures ∙ c.if-not-record_ok.false))

pub returns-then-at-before : goal.returns-then-at-before
returns-then-at-before c =
    sym (sym c.loop-at.invariant.1 ∙ chain_still (sides c.args.w c.args.h) c.args.journal.now c.loop-at.at c.loop-at-test.true c.if-at-before.true)

pub loop-at-preserved : goal.loop-at-preserved
loop-at-preserved c = (
  omega (arith, c.if-at-before.false, c.loop-at.invariant.0),
  chain_next (sides c.args.w c.args.h) c.args.journal.now c.loop-at.at c.loop-at-test.true (sym c.record_ok.ensures ∙ c.if-not-record_ok.false) c.if-at-before.false ∙ c.loop-at.invariant.1,
)

pub returns : goal.returns
returns c =
    sym (sym c.loop-at.invariant.1 ∙ chain_zero (sides c.args.w c.args.h) c.args.journal.now c.loop-at.at (omega arith))
