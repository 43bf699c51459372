use mathlib.Core.Logic.{⊎_elim}
use borrow.Author.Tests.{le-leb, lt-leb, le-ltb, lt-ltb}
use Rattle.model.proofs.Choice.{lt_or_le}
use Rattle.pixel.specs.Pairs.{last_of}
use Rattle.pixel.proofs.last_pixel.Goals as goal

pub returns : goal.returns
unfolding last_of
returns c =
    ⊎_elim (λ h. rw (lt-leb c.args.t c.args.tear.distance h, lt-ltb c.args.tear.distance c.args.t h, c.sample_at.ensures)) (λ h. rw (le-leb c.args.t c.args.tear.distance h, le-ltb c.args.tear.distance c.args.t h, c.sample_at.ensures)) (lt_or_le c.args.tear.distance c.args.t)
