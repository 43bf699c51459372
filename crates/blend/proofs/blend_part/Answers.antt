use mathlib.Core.Path.{◌≡◌}
use native.Mathlib.Omega.{arith}
use lib.ListN.{length}
use Rattle.planes.proofs.Fills.{filled_all}
use Rattle.blend.specs.Blend.{combined_part}
use Rattle.blend.proofs.blend_part.Goals as goal

pub returns : goal.returns
unfolding combined_part
returns c =
    let e : c.loop-i.i ≡ length c.args.part.now = omega arith in
    filled_all (rw e at c.loop-i.invariant) c.loop-i.auto.part
