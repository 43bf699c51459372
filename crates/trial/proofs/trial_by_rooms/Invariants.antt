use Prim.Native.Nat.{◌≤◌}
use Rattle.model.specs.Candidates.{filled}
use Rattle.planes.specs.Parts.{block_of}
use Rattle.fill.specs.Rows.{Started}
use Rattle.strips.specs.Strips.{around_lent, own_lent}
use Rattle.trial.specs.Trial.{BlockTrial}
use Rattle.trial.proofs.trial_by_rooms.Given as goal

abbrev pub invariant-loop-done : goal.invariant-loop-done
invariant-loop-done l =
    record {
      within : l.done ≤ l.height;
      started : Started l.candidate l.room;
      tried : BlockTrial l.w (around_lent l.o) (own_lent l.v) (block_of l.column l.row l.width l.height) (filled (block_of l.column l.row l.width l.height) l.candidate l.bytes) l.done l.old l.new;
    }
