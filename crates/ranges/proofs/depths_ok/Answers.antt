use mathlib.Core.Path.{refl}
use lib.Bits.{bit_or}
use Rattle.ranges.proofs.Joined.{list_joined}
use Rattle.ranges.proofs.depths_ok.Goals as goal

pub returns : goal.returns
returns c = list_joined 8 255 refl c.args.words.now c.join.result (c.join.ensures bit_or (λ _ _ _ e. e))
