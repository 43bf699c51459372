-- `trial::trial_candidate` meets its contract: a full block is its bytes.
use mathlib.Core.Path.{sym, ◌∙◌}
use Rattle.planes.specs.Parts.{block_of}
use Rattle.fill.proofs.Rows.{lent_filled}
use Rattle.trial.proofs.trial_candidate.Goals as goal

pub trial_block-requires-clause-fits : goal.trial_block-requires-clause-fits
trial_block-requires-clause-fits c =
    let b = block_of c.args.column c.args.row c.args.width c.args.height in
    let e = lent_filled b c.args.candidate c.args.bytes.now (sym c.lent.ensures ∙ c.if-lent.true) in
    rw e at c.requires.fits.0

pub returns-then-lent : goal.returns-then-lent
returns-then-lent c =
    let b = block_of c.args.column c.args.row c.args.width c.args.height in
    rw (lent_filled b c.args.candidate c.args.bytes.now (sym c.lent.ensures ∙ c.if-lent.true)) c.trial_block.ensures
