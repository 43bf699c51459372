-- `words::tail_at` meets its contract: the bytes passed are joined.
use Prim.Native.Nat.{◌+◌, ◌*◌, ◌%◌, ◌^◌}
use mathlib.Core.Path.{◌≡◌}
use native.Mathlib.Omega.{arith}
use Rattle.words.specs.Words.{joined}
use Rattle.words.proofs.Words.{Bytes, joined_more, joined_fits}
use Rattle.words.proofs.tail_at.Goals as goal
use Rattle.words.proofs.tail_at.Goals.{After-from}

more : (c : After-from) → c.loop-k.v + c.from.result * 2 ^ (8 * c.loop-k.k) % 2 ^ 64 ≡ joined c.args.row.now c.args.j (c.loop-k.k + 1)
more c =
    let bytes : Bytes c.args.row.now = λ i. (c.type_inv.row i).fits in
    joined_more c.args.row.now bytes c.args.j c.loop-k.k c.loop-k.v c.from.result (omega arith) c.loop-k.invariant c.from.ensures

pub overflow_add-v : goal.overflow_add-v
overflow_add-v c =
    let bytes : Bytes c.args.row.now = λ i. (c.type_inv.row i).fits in
    omega (arith, more (goal.at.overflow_add-v c).After-from, joined_fits c.args.row.now bytes c.args.j (c.loop-k.k + 1) (omega arith))

pub loop-k-preserved : goal.loop-k-preserved
loop-k-preserved c = more (goal.at.loop-k-preserved c).After-from
