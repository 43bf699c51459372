use Rattle.model.specs.Row.{sample_in}
use Rattle.model.proofs.sample_in.Goals as goal

pub returns : goal.returns
unfolding sample_in
returns c = c.read.ensures
