use Prim.Native.Nat.{◌≤◌}
use mathlib.Core.Path.{◌≡◌}
use lib.ListN.{length}
use Rattle.rowtext.specs.Reader.{read_number, read_digits}
use Rattle.rowtext.proofs.read_number.Given as goal

-- The number is read as its digits so far, and then the rest of the text, are read.
abbrev pub invariant-loop-b : goal.invariant-loop-b
invariant-loop-b l =
    (l.value ≤ l.most) × (read_number l.most l.fn.text ≡ read_digits l.most l.value l.rest)

abbrev pub decreases-loop-b : goal.decreases-loop-b
decreases-loop-b l = length l.rest
