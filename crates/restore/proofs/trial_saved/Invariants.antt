use Prim.Native.Nat.{◌-◌, ◌≤◌}
use mathlib.Core.Path.{◌≡◌}
use lib.ListN.{length}
use Rattle.planes.specs.Parts.{block_of}
use Rattle.strips.specs.Strips.{around, own}
use Rattle.trial.specs.Trial.{BlockTrial}
use Rattle.restore.proofs.trial_saved.Given as goal

abbrev pub invariant-loop-done : goal.invariant-loop-done
invariant-loop-done l =
    (l.done ≤ l.height) × ((length l.room ≡ 4096)
    × BlockTrial l.w (around l.right l.share l.tolerance l.samples l.fronts l.marks l.combined l.reference) (own l.fn.tear l.table l.texture l.depths l.limits) (block_of l.column l.row l.width l.height) l.words l.done l.old l.new)

abbrev pub decreases-loop-done : goal.decreases-loop-done
decreases-loop-done l = l.height - l.done
