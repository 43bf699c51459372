use Prim.Native.Nat.{◌+◌}
use mathlib.Core.Path.{sym, ap, ◌∙◌}
use Rattle.model.specs.Row.{sample_in}
use Rattle.model.proofs.Readings.{sample_in_seen}
use Rattle.pixel.proofs.sample_after.Goals as goal

pub returns : goal.returns
returns c =
    c.sample_in.ensures.0 ∙ ap (sample_in c.args.texture.now) c.right_of-after.ensures.0
    ∙ sym (sample_in_seen c.args.right c.args.texture.now (c.args.c + 1) c.requires.0)
