-- `chain::saving` meets its contract: 13, 11 or none.
use Rattle.chain.proofs.saving.Goals.{then-journal-next-via-then-journal-next, then-journal-next-via-else-journal-next+then-next-gt4294967295}
use mathlib.Core.Path.{sym, ◌∙◌}
use native.Mathlib.Omega.{arith}
use Rattle.model.proofs.Refusals.{room_short, room_far, room_yes}
use Rattle.model.proofs.Journals.{journal_words, next_inside}
use Rattle.validate.specs.Numbers.{sides}
use Rattle.chain.proofs.Chains.{saving_journal, saving_full, saving_none}
use Rattle.chain.proofs.saving.Goals as goal

pub returns-then-not-journal_ok : goal.returns-then-not-journal_ok
returns-then-not-journal_ok c = saving_journal (sides c.args.w c.args.h) c.args.block c.args.journal.now (sym c.journal_ok.ensures ∙ c.if-not-journal_ok.true)

pub next_index-next-requires : goal.next_index-next-requires
next_index-next-requires c =
    let e = sym c.journal_ok.ensures ∙ c.if-not-journal_ok.false in
    (journal_words (sides c.args.w c.args.h) c.args.journal.now e, next_inside (sides c.args.w c.args.h) c.args.journal.now e)

pub overflow_sub-journal : goal.overflow_sub-journal
overflow_sub-journal c =
    omega (arith, c.next_index-next.ensures, next_inside (sides c.args.w c.args.h) c.args.journal.now (sym c.journal_ok.ensures ∙ c.if-not-journal_ok.false))

pub returns-then-journal-next : goal.returns-then-journal-next
returns-then-journal-next c =
    let e = sym c.journal_ok.ensures ∙ c.if-not-journal_ok.false in
    let full = saving_full (sides c.args.w c.args.h) c.args.block c.args.journal.now e in
    elim c.then-journal-next.branch [
      | then-journal-next-via-then-journal-next w ↦
          full (room_short c.args.block c.args.journal.now (omega (arith, c.next_index-next.ensures, w.if-journal-next.true, next_inside (sides c.args.w c.args.h) c.args.journal.now e)))
      | then-journal-next-via-else-journal-next+then-next-gt4294967295 w ↦
          full (room_far c.args.block c.args.journal.now (omega (arith, c.next_index-next.ensures, w.if-next-gt4294967295.true)))
    ]

pub returns : goal.returns
returns c =
    let e = sym c.journal_ok.ensures ∙ c.if-not-journal_ok.false in
    saving_none (sides c.args.w c.args.h) c.args.block c.args.journal.now e
    (room_yes c.args.block c.args.journal.now
    (omega (arith, c.next_index-next.ensures, c.if-journal-next.false, next_inside (sides c.args.w c.args.h) c.args.journal.now e))
    (omega (arith, c.next_index-next.ensures, c.if-next-gt4294967295.false)))
