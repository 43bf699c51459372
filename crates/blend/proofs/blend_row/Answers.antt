-- `blend::blend_row` meets its contract: the entries are combined in their place.
use Prim.Native.Nat.{◌+◌, ◌-◌, ◌*◌}
use mathlib.Core.Path.{◌≡◌, ◌∙◌}
use native.Mathlib.Omega.{arith}
use lib.ListN.{length, take, drop, length-drop}
use lib.Seq.{length-take-le}
use Rattle.model.specs.Marks.{mark_bytes}
use Rattle.planes.specs.Parts.{splice}
use Rattle.planes.proofs.Splices.{part_row}
use Rattle.blend.proofs.blend_row.Goals as goal

pub returns : goal.returns
unfolding splice
returns c =
    let a = c.args in
    let start = a.y * a.w + a.from in
    let n : a.y * a.w + a.to - start ≡ a.to - a.from = omega arith in
    let long : length (take (a.y * a.w + a.to - start) (drop start a.combined.now)) ≡ a.to - a.from = length-take-le _ _ (omega (arith, length-drop start a.combined.now)) ∙ n in
    let bytes : c.div_ceil-bytes.result ≡ mark_bytes a.w = omega arith in
    let made = rw (long, bytes, part_row a.samples.now a.w a.y, part_row a.fronts.now a.w a.y, part_row a.marks.now (mark_bytes a.w) a.y, part_row a.samples2.now a.w a.y, part_row a.fronts2.now a.w a.y, part_row a.marks2.now (mark_bytes a.w) a.y) at c.blend_part.ensures in
    let wide = c.blend_part.auto.part ∙ long in
    rw (n, ← made, wide)
