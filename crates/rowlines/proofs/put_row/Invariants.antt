use Prim.Native.Nat.{◌+◌, ◌*◌}
use mathlib.Core.List.{◌++◌}
use Rattle.model.specs.Lists.{rows}
use Rattle.rowlines.specs.Printed.{header_of}
use Rattle.rowlines.specs.Steps.{Put, shown_line}
use Rattle.rowlines.proofs.put_row.Given as goal

-- The header and the lines of the positions below p are written.
abbrev pub invariant-loop-p : goal.invariant-loop-p
invariant-loop-p l =
    Put (22 + 24 * l.p) l.initial.out 0 (header_of l.w ++ rows (shown_line l.samples l.marks l.fronts) l.p) l.out l.at
