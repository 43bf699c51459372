use Prim.Native.Nat.{◌+◌, ◌-◌}
use mathlib.Core.Path.{◌≡◌}
use Rattle.model.specs.Row.{place, least as leastOf}
use Rattle.model.specs.Views.{seen}
use Rattle.places.proofs.least_place.Given as goal

abbrev pub invariant-loop-i : goal.invariant-loop-i
invariant-loop-i l = l.low ≡ leastOf (place l.table (seen l.right l.depths)) l.top (l.from + l.i) (l.n - l.i)
