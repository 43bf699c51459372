-- `combine::set_rows` meets its contract: the rows passed are set, and the room is ready for the next.
use Prim.Native.Nat.{◌+◌, ◌<◌}
use mathlib.Core.Path.{◌≡◌, ◌∙◌}
use native.Mathlib.Omega.{arith}
use Rattle.planes.specs.Parts.{block_of}
use Rattle.commit.proofs.Planes.{sized_row}
use Rattle.combine.proofs.Filled.{one_fits, one_there, row_here, row_chosen}
use Rattle.combine.proofs.Rows.{through_none, through_next, through_all, row_wide, other_row, resized, other_resized}
use Rattle.combine.proofs.set_rows.Goals as goal

pub loop-j-init : goal.loop-j-init
loop-j-init c =
    (through_none c.requires.sized c.requires.other_sized, c.start.ensures.0)

pub fill_rows-requires : goal.fill_rows-requires
fill_rows-requires c = record { rows_there = one_there (block_of c.args.column c.args.row c.args.width c.args.height) c.args.candidate c.args.bytes.now _ c.requires.block_in.0 c.requires.table_value.1.1.0 c.requires.table_value.1.1.1 c.requires.block_in.1.0 (omega arith); room_len = (one_fits c.args.candidate c.args.width c.loop-j.room (omega arith), c.loop-j.invariant.1) }

pub row_of-chosen-requires : goal.row_of-chosen-requires
row_of-chosen-requires c =
    row_here (block_of c.args.column c.args.row c.args.width c.args.height) c.args.candidate c.args.bytes.now c.loop-j.j c.requires.block_in.0 c.requires.table_value.1.1.0 c.requires.table_value.1.1.1 c.requires.block_in.1.0 (omega arith)

pub set_row-requires : goal.set_row-requires
set_row-requires c =
    let e = c.row_of-chosen.ensures ∙ row_chosen (block_of c.args.column c.args.row c.args.width c.args.height) c.args.candidate c.args.bytes.now c.loop-j.j (omega arith) (omega arith) c.fill_rows.ensures in
    let n = row_wide {j = c.loop-j.j} c.requires.block_in.0 (omega arith) in
    let k : c.args.row + c.loop-j.j < c.args.h = omega (arith, c.requires.block_in.0.below) in record { table_value = (c.requires.table_value.0, (c.requires.table_value.1.0, c.requires.table_value.1.1.0)); row_in = sized_row k c.loop-j.invariant.0.size; view_in = other_row k c.loop-j.invariant.0.other; candidate_nonzero = (rw (e, n) c.requires.block_in.0.some, rw (e, n) c.requires.block_in.0.right) }

pub loop-j-preserved : goal.loop-j-preserved
loop-j-preserved c =
    let e = c.row_of-chosen.ensures ∙ row_chosen (block_of c.args.column c.args.row c.args.width c.args.height) c.args.candidate c.args.bytes.now c.loop-j.j (omega arith) (omega arith) c.fill_rows.ensures in (
      through_next c.loop-j.invariant.0 c.requires.block_in.0 c.requires.sized.depths (omega arith) (rw e at c.set_row.ensures)
          (resized c.loop-j.invariant.0.size c.set_row.auto.depths c.set_row.auto.samples c.set_row.auto.fronts c.set_row.auto.limits c.set_row.auto.marks)
          (other_resized c.loop-j.invariant.0.other c.set_row.auto.combined),
      c.fill_rows.ensures.started,
    )

pub returns : goal.returns
returns c =
    let e : c.loop-j.j ≡ c.args.height = omega (arith, c.loop-j.invariant.0.row) in
    through_all (rw e at c.loop-j.invariant.0) c.requires.sized.depths
