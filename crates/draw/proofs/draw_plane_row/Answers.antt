-- `draw::draw_plane_row` meets its contract: the parts of row y are drawn and put back.
use mathlib.Core.List.{List}
use mathlib.Core.Path.{◌≡◌, sym, subst, ◌∙◌}
use native.Mathlib.Omega.{arith}
use Rattle.model.specs.Marks.{mark_bytes}
use Prim.Native.Nat.{ℕ}
use Rattle.model.proofs.Packing.{Flags}
use Rattle.model.proofs.Fresh.{flags_view}
use Rattle.draw.proofs.Planes.{parts_drawn, row_drawn}
use Rattle.draw.proofs.draw_plane_row.Goals as goal

-- the drawn marks are 0 or 1
pub pack-requires-clause-by_index : goal.pack-requires-clause-by_index
pack-requires-clause-by_index c = subst (λ (ms : List ℕ). Flags ms) (sym c.draw_row.ensures.shows.marks_are) (flags_view c.args.right _)

pub returns : goal.returns
returns c =
    let a = c.args in
    let bytes : c.div_ceil-bytes.result ≡ mark_bytes a.w = omega arith in
    rw bytes (row_drawn a.tear a.right a.table.now a.w a.y a.texture.now a.depths.now _ _ _ _ _ c.requires.planes_in c.draw_row.auto.samples c.draw_row.auto.fronts c.draw_row.auto.limits (rw bytes at c.pack.auto.row)
    (parts_drawn a.tear a.right a.table.now a.w a.y a.texture.now a.depths.now _ _ _ _ _ c.draw_row.ensures (c.draw_row.auto.flags ∙ c.requires.flags_len) c.pack.ensures))
