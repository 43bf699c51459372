use mathlib.Core.Path.{refl}
use native.Mathlib.Omega.{arith}
use Rattle.rowtext.proofs.Lengths.{length_5}
use Rattle.rowlines.proofs.Puts.{put_then, put_as}
use Rattle.rowlines.proofs.put_field.Goals as goal

pub returns : goal.returns
returns c =
    put_as refl (omega (arith, length_5 c.args.n (omega arith)))
    (put_then c.put_number-next.ensures c.put.ensures)
