use mathlib.Core.Path.{refl}
use lib.Bits.{bit_or}
use Rattle.ranges.proofs.Joined.{lists_joined}
use Rattle.ranges.proofs.tables_ok.Goals as goal

pub returns : goal.returns
returns c =
    lists_joined 10 1023 refl c.args.left.now c.args.right.now c.join.result c.join-2.result
    (c.join.ensures bit_or (λ _ _ _ e. e)) (c.join-2.ensures bit_or (λ _ _ _ e. e))
