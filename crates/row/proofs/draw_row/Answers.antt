use mathlib.Core.Path.{refl, ◌∙◌}
use lib.ListN.{length}
use Rattle.row.proofs.Wholes.{limits_whole}
use Rattle.row.proofs.draw_row.Goals as goal

pub returns : goal.returns
returns c =
    record {
      shows = c.draw_view_row.ensures;
      limits_are = limits_whole c.args.tear c.args.right c.args.table.now c.args.texture.now c.args.depths.now (length c.args.depths.now) c.requires.ready.some refl _ (c.draw_limits.auto.limits ∙ c.requires.samples_len.1.1.1) c.draw_limits.ensures;
    }
