use native.Mathlib.Omega.{arith}
use Rattle.model.proofs.Lists.{list_of_lem}
use Rattle.fill.proofs.walk.Goals as goal

pub returns : goal.returns
returns c = list_of_lem 0 _ _ _ (omega arith) (λ k h. c.loop-entry.invariant.1.1 k (omega arith))
