use native.Mathlib.Omega.{arith}
use mathlib.Core.Path.{refl}
use mathlib.Core.Logic.{⊎_elim}
use borrow.Author.Tests.{le-leb, lt-leb}
use Rattle.model.proofs.Choice.{lt_or_le}
use Rattle.pixel.specs.Pairs.{reached}
use Rattle.pixel.proofs.reaches.Goals as goal

pub returns : goal.returns
unfolding reached
returns c =
    ⊎_elim (λ h. rw (lt-leb c.args.m c.args.x h) (refl, omega arith)) (λ h. rw (le-leb c.args.m c.args.x h) (refl, omega arith)) (lt_or_le c.args.x c.args.m)
