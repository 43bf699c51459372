-- `blocks::set_block` meets its contract: either room is as long as the candidate's rows take.
use Prim.Native.Nat.{◌≤◌}
use mathlib.Core.Path.{sym, ◌∙◌}
use native.Mathlib.Omega.{arith}
use lib.ListN.{length}
use lib.Seq.{length-take-le}
use Rattle.combine.proofs.Filled.{room_most}
use Rattle.blocks.proofs.set_block.Goals as goal

pub slice_bounds-set_rows-end-2 : goal.slice_bounds-set_rows-end-2
slice_bounds-set_rows-end-2 c =
    let fits : c.room_of-n.result ≤ length c.room-room-2.result = omega (arith, room_most c.args.candidate c.args.width, c.requires.block_in.0.right) in
    sym (length-take-le _ c.room-room-2.result fits)

pub set_rows-requires-2-clause-block_in : goal.set_rows-requires-2-clause-block_in
set_rows-requires-2-clause-block_in c =
    let fits : c.room_of-n.result ≤ length c.room-room-2.result = omega (arith, room_most c.args.candidate c.args.width, c.requires.block_in.0.right) in
    (c.requires.block_in.0, (c.requires.block_in.1, length-take-le _ c.room-room-2.result fits ∙ c.room_of-n.ensures))
