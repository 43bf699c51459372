use Prim.Native.Nat.{◌*◌}
use Rattle.planes.specs.Parts.{Filled, block_of}
use Rattle.journal.proofs.Records.{standing}
use Rattle.journal.proofs.save_rows.Given as goal

abbrev pub invariant-loop-j : goal.invariant-loop-j
invariant-loop-j l = Filled 0 (standing l.w (block_of l.column l.row l.width l.height) l.depths) 0 (l.j * l.width) l.initial.words l.words
