use Prim.Native.Nat.{◌+◌}
use Rattle.marks.specs.Puts.{held_pixel}
use Rattle.sums.specs.Sides.{paired}
use Rattle.planes.specs.Parts.{Filled}
use Rattle.blend.proofs.blend_part.Given as goal

abbrev pub invariant-loop-i : goal.invariant-loop-i
invariant-loop-i l =
    Filled 0 (λ k. paired l.right l.share l.tolerance (held_pixel l.samples l.fronts l.marks (l.from + k)) (held_pixel l.samples2 l.fronts2 l.marks2 (l.from + k))) 0 l.i l.initial.part l.part
