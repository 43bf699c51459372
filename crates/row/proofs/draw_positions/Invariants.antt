use Prim.Native.Nat.{◌+◌}
use lib.ListN.{length}
use Rattle.model.specs.Views.{seen}
use Rattle.planes.specs.Parts.{Painted}
use Rattle.pixel.specs.Pairs.{edge_right}
use Rattle.row.specs.Drawing.{pixel_below, line_with, Ahead, Passed}
use Rattle.row.proofs.draw_positions.Given as goal

abbrev pub invariant-loop-i : goal.invariant-loop-i
invariant-loop-i l =
    let row = line_with l.tear l.right l.table l.texture l.depths l.column l.candidate in
    record {
      ahead : Ahead l.right row (l.start + l.i) l.q;
      passed : Passed row l.initial.q l.q (l.start + l.i);
      painted : Painted (λ k. pixel_below row (l.initial.q.column + 1) (edge_right l.initial.q) (l.start + k)) l.i (length l.initial.samples)
          (seen l.right l.initial.samples) (seen l.right l.initial.fronts) (seen l.right l.initial.flags)
          (seen l.right l.samples) (seen l.right l.fronts) (seen l.right l.flags);
    }

-- columns are passed until one is placed at most at the position
abbrev pub invariant-loop-q : goal.invariant-loop-q
invariant-loop-q l =
    let row = line_with l.tear l.right l.table l.texture l.depths l.column l.candidate in
    record { ahead : Ahead l.right row (l.start + l.i + 1) l.q; passed : Passed row l.fn.from l.q (l.start + l.i + 1) }

abbrev pub decreases-loop-q : goal.decreases-loop-q
decreases-loop-q l = l.q.column
