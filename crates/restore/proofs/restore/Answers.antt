-- `restore::restore` meets its contract, refused and accepted.
use mathlib.Core.Path.{refl, sym, ◌∙◌}
use native.Mathlib.Omega.{arith}
use Rattle.trial.proofs.Blocks.{block_small}
use Rattle.settled.proofs.Settling.{set_requires}
use Rattle.restore.proofs.restore.Goals as goal

pub judge-requires : goal.judge-requires
judge-requires c =
    let small = block_small _ _ _ _ _ c.trial_saved-sums.ensures c.requires.fits.0 c.requires.sized.depths (omega arith) in
    (small.0, (small.1, c.most_total-most.ensures.1))

pub set_saved-requires : goal.set_saved-requires
set_saved-requires c = record { table_value = c.requires.table_value; sized = c.requires.sized_2; other_sized = (set_requires c.requires.sized c.requires.fits.0).0; fits = (c.requires.fits.0, (c.requires.fits.1, c.trial_saved-sums.auto.room ∙ sym c.room-room.ensures)) }

pub returns : goal.returns
returns c =
    record {
      old = c.trial_saved-sums.result.old;
      new = c.trial_saved-sums.result.new;
      tried = c.trial_saved-sums.ensures;
      judged = rw c.most_total-most.ensures.0 at c.in_ok-decision.ensures;
      kept_depths = λ ne. absurd (ne refl);
      kept_view = λ ne. absurd (ne refl);
      kept_combined = λ ne. absurd (ne refl);
      set = λ _. c.set_saved.ensures;
    }
