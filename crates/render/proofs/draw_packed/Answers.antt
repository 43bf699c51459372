use mathlib.Core.Path.{◌∙◌}
use lib.ListN.{length}
use lib.Seq.{length-take-le}
use Rattle.model.specs.Row.{line}
use Rattle.model.specs.Views.{view_row}
use Rattle.render.proofs.Strips.{part_flags, packed}
use Rattle.render.proofs.draw_packed.Goals as goal

pub pack-requires-clause-by_index : goal.pack-requires-clause-by_index
pack-requires-clause-by_index c =
    let w = length c.args.depths.now in
    let n = c.draw_view_row.auto.flags ∙ length-take-le w c.args.flags.now c.requires.depths_in_bounds in
    part_flags c.args.right (line c.args.tear c.args.table.now c.args.texture.now c.args.depths.now) c.draw_view_row.new.flags _ w n c.draw_view_row.ensures

pub returns : goal.returns
returns c =
    let w = length c.args.depths.now in
    let n = c.draw_view_row.auto.flags ∙ length-take-le w c.args.flags.now c.requires.depths_in_bounds in
    packed (view_row c.args.right (line c.args.tear c.args.table.now c.args.texture.now c.args.depths.now)) _ _ c.draw_view_row.new.flags _ _ w n c.draw_view_row.ensures c.pack.ensures
