use Rattle.std.proofs.lemmas.Nat.{one_shl}
use Rattle.marks.proofs.Bits.{put_bit-lt}
use Rattle.marks.proofs.put_bit.Goals as goal

pub overflow_add-result : goal.overflow_add-result
overflow_add-result c =
    rw (one_shl c.args.k 8 c.requires.0)
    (record { fits = put_bit-lt 8 c.args.byte c.args.k c.args.v c.ranges.byte.fits c.requires.0 c.requires.1 })
