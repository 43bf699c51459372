use Rattle.pixel.specs.Pairs.{smooth_of}
use Rattle.pixel.proofs.smooth_pixel.Goals as goal

pub returns : goal.returns
unfolding smooth_of
returns c = rw (c.mix.ensures, c.step_of-k.ensures.0)
