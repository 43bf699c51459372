use Prim.Native.Nat.{◌<◌}
use mathlib.Core.Path.{◌≡◌}
use Rattle.model.specs.Refusals.{chain_ok}
use Rattle.validate.specs.Numbers.{sides}
use Rattle.chain.proofs.chain_ok.Given as goal

abbrev pub invariant-loop-at : goal.invariant-loop-at
invariant-loop-at l = (l.at < 4294967296) × (chain_ok (sides l.w l.h) l.journal l.at l.at ≡ chain_ok (sides l.w l.h) l.journal l.newest l.newest)

abbrev pub decreases-loop-at : goal.decreases-loop-at
decreases-loop-at l = l.at
