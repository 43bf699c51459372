-- `journal::save_rows` meets its contract: the words of the rows passed hold the block's depths.
use Prim.Native.Nat.{◌+◌, ◌*◌, ◌≤◌}
use mathlib.Core.Path.{◌≡◌, ap, ◌∙◌}
use native.Mathlib.Omega.{arith}
use lib.ListN.{length}
use Rattle.planes.specs.Parts.{block_of}
use Rattle.planes.proofs.Splices.{part_length, put_back}
use Rattle.journal.proofs.Records.{row_facts, row_saved, rows_all}
use Rattle.journal.proofs.save_rows.Goals as goal

pub loop-j-preserved : goal.loop-j-preserved
loop-j-preserved c =
    let b = block_of c.args.column c.args.row c.args.width c.args.height in
    let f = row_facts c.args.w b c.args.depths.now c.loop-j.j c.requires.0 c.loop-j-test.true in
    let fits : c.loop-j.j * c.args.width + c.args.width ≤ length c.loop-j.words = omega (arith, f.last) in
    rw (put_back c.loop-j.words _ (c.loop-j.j * c.args.width) c.args.width (ap length c.widen.ensures ∙ part_length c.args.depths.now _ c.args.width f.inside))
    (row_saved c.args.w b c.args.depths.now c.loop-j.j c.args.words.now c.loop-j.words c.loop-j.invariant fits f.inside _ c.widen.ensures)

pub returns : goal.returns
returns c =
    let e : c.loop-j.j ≡ c.args.height = omega arith in
    rows_all c.args.w (block_of c.args.column c.args.row c.args.width c.args.height) c.args.depths.now c.args.words.now c.loop-j.words (rw e at c.loop-j.invariant) (omega arith)
