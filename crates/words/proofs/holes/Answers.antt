-- `words::holes` meets its contract: the holes of the rows passed are counted.
use Prim.Native.Nat.{ℕ, ◌≤◌}
use mathlib.Core.Path.{◌≡◌, ap, ◌∙◌}
use mathlib.Core.List.{List}
use native.Mathlib.Nat.{le_trans}
use native.Mathlib.Omega.{arith}
use native.Mathlib.Numerals.{add-one}
use Rattle.model.specs.Lists.{sum_to, row_of}
use Rattle.model.specs.Marks.{mark_bytes, row_holes, holes_in}
use Rattle.words.proofs.Counts.{holes_most, part_row}
use Rattle.words.proofs.holes.Goals as goal

pub loop-y-preserved : goal.loop-y-preserved
unfolding holes_in sum_to
loop-y-preserved c =
    let s = mark_bytes c.args.w in
    let few : c.row_holes.result ≤ 4096 = rw c.row_holes.ensures (le_trans (holes_most _ _) (omega arith)) in
    let row : c.from-n.result ≡ row_holes (row_of c.args.marks.now s c.loop-y.y) c.args.w =
    c.from-n.ensures ∙ c.row_holes.ensures ∙ ap (λ (r : List ℕ). row_holes r c.args.w) (part_row c.args.marks.now s c.div_ceil-bytes.result c.loop-y.y (omega arith)) in
    (omega arith, rw (row, c.loop-y.invariant.1, add-one c.loop-y.y))
