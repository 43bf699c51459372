use Prim.Native.Nat.{◌+◌, ◌-◌, min}
use mathlib.Core.Path.{◌≡◌}
use lib.ListN.{length}
use Rattle.model.specs.Row.{place, least}
use Rattle.model.specs.Views.{seen}
use Rattle.planes.specs.Parts.{splice}
use Rattle.strips.proofs.span_start.Given as goal

abbrev pub invariant-loop-n : goal.invariant-loop-n
invariant-loop-n l =
    l.low ≡ least (λ c. min (place l.table (seen l.right l.depths) c) (place l.table (splice (seen l.right l.depths) l.first (seen l.right l.candidate)) c)) l.initial.low (l.first + l.n) (length l.candidate - l.n)
