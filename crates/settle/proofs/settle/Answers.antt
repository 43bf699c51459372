-- `settle::settle` meets its contract, refused and accepted.
use mathlib.Core.Path.{refl}
use native.Mathlib.Omega.{arith}
use Rattle.trial.proofs.Blocks.{block_small}
use Rattle.settled.proofs.Settling.{set_requires, saved_requires}
use Rattle.settle.proofs.settle.Goals as goal

pub judge_then-requires : goal.judge_then-requires
judge_then-requires c =
    let small = block_small _ _ _ _ _ c.trial_candidate-sums.ensures c.requires.fits.0 c.requires.sized.depths (omega arith) in
    (small.0, (small.1, c.most_total-most.ensures.1))

pub save-requires : goal.save-requires
save-requires c =
    saved_requires _ c.requires.sized c.requires.fits.0 c.saving-late.ensures c.in_ok-decision.ensures refl

pub set_block-requires : goal.set_block-requires
set_block-requires c =
    let asked = set_requires c.requires.sized c.requires.fits.0 in record { table_value = (c.requires.table_value.0, (c.requires.table_value.1, (c.requires.fits.0.wide, c.requires.fits.0.high))); sized = c.requires.sized_2; other_sized = asked.0; block_in = (asked.1, c.requires.fits.1) }

pub returns : goal.returns
returns c = (
  record {
    old = c.trial_candidate-sums.result.old;
    new = c.trial_candidate-sums.result.new;
    tried = c.trial_candidate-sums.ensures;
    judged = rw (c.most_total-most.ensures.0, c.saving-late.ensures) at c.in_ok-decision.ensures;
    kept_depths = λ ne. absurd (ne refl);
    kept_view = λ ne. absurd (ne refl);
    kept_combined = λ ne. absurd (ne refl);
    set = λ _. c.set_block.ensures;
  },
  record { kept = λ ne. absurd (ne refl); recorded = λ _. c.save.ensures },
)
