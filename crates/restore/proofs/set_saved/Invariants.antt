use Prim.Native.Nat.{◌-◌, ◌≤◌}
use mathlib.Core.Path.{◌≡◌}
use lib.ListN.{length}
use Rattle.model.specs.Planes.{view}
use Rattle.planes.specs.Parts.{block_of}
use Rattle.combine.proofs.Rows.{Through}
use Rattle.restore.proofs.set_saved.Given as goal

abbrev pub invariant-loop-done : goal.invariant-loop-done
invariant-loop-done l =
    (l.done ≤ l.height) × ((length l.room ≡ 4096)
    × Through l.tear l.right l.table l.share l.tolerance l.w l.h (block_of l.column l.row l.width l.height) l.done l.texture l.words l.samples2 l.fronts2 l.marks2 l.initial.depths l.depths
    (view l.initial.samples l.initial.fronts l.initial.limits l.initial.marks) (view l.samples l.fronts l.limits l.marks) l.initial.combined l.combined)

abbrev pub decreases-loop-done : goal.decreases-loop-done
decreases-loop-done l = l.height - l.done
