use mathlib.Core.Path.{sym, ap, ◌∙◌}
use native.Mathlib.Omega.{arith}
use lib.ListN.{length}
use Rattle.model.specs.Row.{sample_in}
use Rattle.model.proofs.Views.{entry_within}
use Rattle.model.proofs.Readings.{sample_in_seen}
use Rattle.pixel.proofs.sample_at.Goals as goal

pub sample_in-requires : goal.sample_in-requires
sample_in-requires c = omega (arith, c.requires.1, entry_within c.args.right (length c.args.texture.now) c.args.c c.requires.0)

pub returns : goal.returns
returns c =
    c.sample_in.ensures.0 ∙ ap (sample_in c.args.texture.now) c.requires.1 ∙ sym (sample_in_seen c.args.right c.args.texture.now c.args.c c.requires.0)
