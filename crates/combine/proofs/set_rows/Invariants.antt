use Rattle.model.specs.Planes.{view}
use Rattle.model.specs.Candidates.{filled}
use Rattle.planes.specs.Parts.{block_of}
use Rattle.fill.specs.Rows.{Started}
use Rattle.combine.proofs.Rows.{Through}
use Rattle.combine.proofs.set_rows.Given as goal

abbrev pub invariant-loop-j : goal.invariant-loop-j
invariant-loop-j l =
    (Through l.tear l.right l.table l.share l.tolerance l.w l.h (block_of l.column l.row l.width l.height) l.j l.texture (filled (block_of l.column l.row l.width l.height) l.candidate l.bytes) l.samples2 l.fronts2 l.marks2 l.initial.depths l.depths
    (view l.initial.samples l.initial.fronts l.initial.limits l.initial.marks) (view l.samples l.fronts l.limits l.marks) l.initial.combined l.combined)
    × Started l.candidate l.room
