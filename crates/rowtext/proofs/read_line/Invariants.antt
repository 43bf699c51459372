use Prim.Native.Nat.{◌-◌}
use mathlib.Core.Path.{◌≡◌}
use lib.ListN.{length, take}
use Rattle.rowtext.specs.Promise.{ZeroFrom}
use Rattle.rowtext.specs.Reader.{read_line}
use Rattle.rowtext.proofs.Lines.{ahead}
use Rattle.rowtext.proofs.read_line.Given as goal

-- The line is read as its first k numbers before what is read of the rest.
abbrev pub invariant-loop-k : goal.invariant-loop-k
invariant-loop-k l =
    (length l.values ≡ 64) × ZeroFrom l.k l.values
    × (read_line l.most l.w l.fn.text ≡ ahead (take l.k l.values) (read_line l.most (l.w - l.k) l.rest))
