-- `chain::taking` meets its contract: 13, 12 or none.
use mathlib.Core.Path.{sym, ◌∙◌}
use Rattle.model.proofs.Journals.{journal_words}
use Rattle.validate.specs.Numbers.{sides}
use Rattle.chain.proofs.Chains.{taking_journal, taking_nothing, taking_none}
use Rattle.chain.proofs.taking.Goals as goal

pub returns-then-not-journal_ok : goal.returns-then-not-journal_ok
returns-then-not-journal_ok c = taking_journal (sides c.args.w c.args.h) c.args.journal.now (sym c.journal_ok.ensures ∙ c.if-not-journal_ok.true)

pub bounds-journal-0 : goal.bounds-journal-0
bounds-journal-0 c = journal_words (sides c.args.w c.args.h) c.args.journal.now (sym c.journal_ok.ensures ∙ c.if-not-journal_ok.false)

pub returns-then-journal-eq0 : goal.returns-then-journal-eq0
returns-then-journal-eq0 c = taking_nothing (sides c.args.w c.args.h) c.args.journal.now (sym c.journal_ok.ensures ∙ c.if-not-journal_ok.false) c.if-journal-eq0.true

pub returns : goal.returns
returns c = taking_none (sides c.args.w c.args.h) c.args.journal.now (sym c.journal_ok.ensures ∙ c.if-not-journal_ok.false) c.if-journal-eq0.false
