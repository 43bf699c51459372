-- `decide::try_candidate` meets its contract, for either view: a candidate whose rows are lent is its bytes.
use mathlib.Core.Bool.{true, false}
use mathlib.Core.Path.{sym, ◌∙◌}
use borrow.Author.Tests.{eq-eqb, ne_eqb}
use Rattle.fill.proofs.Rows.{lent_filled}
use Rattle.decide.proofs.Ways.{passed, candidate_taken, tried}
use Rattle.decide.proofs.try_candidate.Goals as goal

pub trial_block-requires : goal.trial_block-requires
trial_block-requires c =
    let f = passed _ _ _ _ _ _ c.args.candidate c.args.bytes.now c.requires in
    let e = lent_filled c.args.block c.args.candidate c.args.bytes.now (sym c.lent-lent.ensures ∙ c.if-lent.true) in
    record { table_value = (f.table true, f.common.share); sized = f.sized true; fits = rw e at f.fits }

pub returns-then-lent : goal.returns-then-lent
returns-then-lent c =
    let f = passed _ _ _ _ _ _ c.args.candidate c.args.bytes.now c.requires in
    let e = lent_filled c.args.block c.args.candidate c.args.bytes.now (sym c.lent-lent.ensures ∙ c.if-lent.true) in
    rw e (tried _ _ _ _ _ _ c.args.bytes.now true (rw e at f) (eq-eqb c.args.view 1 c.if-view-eq1.true) c.trial_block.ensures)

pub trial_made-requires : goal.trial_made-requires
trial_made-requires c =
    let f = passed _ _ _ _ _ _ c.args.candidate c.args.bytes.now c.requires in
    record {
      table_value = (f.table true, f.common.share);
      sized = f.sized true;
      fits = (f.fits, candidate_taken _ _ _ _ _ _ c.args.candidate c.args.bytes.now c.requires);
      candidate_value = sym c.lent-lent.ensures ∙ c.if-lent.false;
    }

pub returns-then-view-eq1 : goal.returns-then-view-eq1
returns-then-view-eq1 c =
    tried _ _ _ _ _ _ _ true (passed _ _ _ _ _ _ c.args.candidate c.args.bytes.now c.requires) (eq-eqb c.args.view 1 c.if-view-eq1.true) c.trial_made.ensures

pub trial_block-requires-then-lent-2 : goal.trial_block-requires-then-lent-2
trial_block-requires-then-lent-2 c =
    let f = passed _ _ _ _ _ _ c.args.candidate c.args.bytes.now c.requires in
    let e = lent_filled c.args.block c.args.candidate c.args.bytes.now (sym c.lent-lent.ensures ∙ c.if-lent-2.true) in
    record { table_value = (f.table false, f.common.share); sized = f.sized false; fits = rw e at f.fits }

pub returns-then-lent-2 : goal.returns-then-lent-2
returns-then-lent-2 c =
    let f = passed _ _ _ _ _ _ c.args.candidate c.args.bytes.now c.requires in
    let e = lent_filled c.args.block c.args.candidate c.args.bytes.now (sym c.lent-lent.ensures ∙ c.if-lent-2.true) in
    rw e (tried _ _ _ _ _ _ c.args.bytes.now false (rw e at f) (ne_eqb c.args.view 1 c.if-view-eq1.false) c.trial_block-then-lent-2.ensures)

pub trial_made-requires-2 : goal.trial_made-requires-2
trial_made-requires-2 c =
    let f = passed _ _ _ _ _ _ c.args.candidate c.args.bytes.now c.requires in
    record {
      table_value = (f.table false, f.common.share);
      sized = f.sized false;
      fits = (f.fits, candidate_taken _ _ _ _ _ _ c.args.candidate c.args.bytes.now c.requires);
      candidate_value = sym c.lent-lent.ensures ∙ c.if-lent-2.false;
    }

pub returns : goal.returns
returns c =
    tried _ _ _ _ _ _ _ false (passed _ _ _ _ _ _ c.args.candidate c.args.bytes.now c.requires) (ne_eqb c.args.view 1 c.if-view-eq1.false) c.trial_made-2.ensures
