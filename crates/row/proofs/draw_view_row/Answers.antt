use mathlib.Core.Path.{refl, sym, ◌∙◌}
use native.Mathlib.Omega.{arith}
use lib.ListN.{length}
use Rattle.model.specs.Views.{seen}
use Rattle.model.proofs.Views.{length_seen}
use Rattle.row.proofs.Wholes.{end_edged, end_before, row_whole}
use Rattle.row.proofs.draw_view_row.Goals as goal

pub draw_part-requires : goal.draw_part-requires
draw_part-requires c = record { ready = c.requires.ready; columns_nonzero = (c.requires.ready.some, (omega arith, (end_edged c.args.table.now (seen c.args.right c.args.depths.now) (length c.args.depths.now) c.requires.ready.some (length_seen c.args.right c.args.depths.now), rw c.requires.samples_len.0 (end_before (length c.args.depths.now))))); fronts_len = (c.requires.samples_len.1.0 ∙ sym c.requires.samples_len.0, c.requires.samples_len.1.1 ∙ sym c.requires.samples_len.0) }

pub returns : goal.returns
returns c =
    row_whole c.args.tear c.args.right c.args.table.now c.args.texture.now c.args.depths.now (length c.args.depths.now) c.requires.ready.some refl _ _ _ (c.draw_part.auto.samples ∙ c.requires.samples_len.0) (c.draw_part.auto.fronts ∙ c.requires.samples_len.1.0) (c.draw_part.auto.flags ∙ c.requires.samples_len.1.1) (rw c.requires.samples_len.0 at c.draw_part.ensures)
