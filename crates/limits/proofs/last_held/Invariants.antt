use Prim.Native.Nat.{◌+◌, ◌-◌, ◌<◌, ◌≤◌, min}
use mathlib.Core.Path.{◌≡◌}
use lib.ListN.{length, get_or}
use lib.IntN.{pos}
use Rattle.model.specs.Views.{seen}
use Rattle.signed.specs.Limits.{raised_of}
use Rattle.limits.proofs.last_held.Given as goal

abbrev pub invariant-loop-low : goal.invariant-loop-low
invariant-loop-low l =
    (l.n ≤ l.low)
    × ((l.low < l.top)
    × ((l.top ≤ min (length l.limits) (l.n + 256))
    × ((l.n < l.low → raised_of (get_or (seen l.right l.limits) l.low (pos 0)) ≡ l.high)
    × (l.top < min (length l.limits) (l.n + 256) → raised_of (get_or (seen l.right l.limits) l.top (pos 0)) ≡ l.high → ⊥))))

abbrev pub decreases-loop-low : goal.decreases-loop-low
decreases-loop-low l = l.top - l.low
