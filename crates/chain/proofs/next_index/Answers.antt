-- `chain::next_index` meets its contract: the newest record lies within the words.
use mathlib.Core.Path.{sym}
use native.Mathlib.Omega.{arith}
use Rattle.model.proofs.Journals.{next_first, next_after}
use Rattle.chain.proofs.Chains.{newest_end}
use Rattle.chain.proofs.next_index.Goals as goal

pub returns-then-newest-eq0 : goal.returns-then-newest-eq0
returns-then-newest-eq0 c = sym (next_first c.args.journal.now c.if-newest-eq0.true)

pub bounds-journal-newest : goal.bounds-journal-newest
bounds-journal-newest c = omega (arith, newest_end c.args.journal.now c.if-newest-eq0.false c.requires.1)

pub bounds-journal-newest-2 : goal.bounds-journal-newest-2
bounds-journal-newest-2 c = omega (arith, newest_end c.args.journal.now c.if-newest-eq0.false c.requires.1)

pub returns : goal.returns
returns c = omega (arith, next_after c.args.journal.now c.if-newest-eq0.false)
