use mathlib.Core.Path.{◌≡◌}
use lib.ListN.{length, take}
use Rattle.rowtext.proofs.bytes.Given as goal

abbrev pub invariant-loop-i : goal.invariant-loop-i
invariant-loop-i l = (length l.narrowed ≡ 64) × (take l.i l.narrowed ≡ take l.i l.values)
