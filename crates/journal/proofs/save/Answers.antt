-- `journal::save` meets its contract: the record in its place, and then word 0.
use Rattle.model.specs.Blocks.{block_depths}
use Rattle.model.proofs.Written.{length-old}
use Rattle.journal.proofs.Records.{saved_is}
use Rattle.journal.proofs.save.Goals as goal

pub returns : goal.returns
returns c =
    saved_is c.args.journal.now c.args.view c.args.block (block_depths c.args.w c.args.block c.args.depths.now) c.write_record.new.words c.next_index-next.result
    c.requires.1 c.next_index-next.ensures (length-old c.args.w c.args.block c.args.depths.now) c.write_record.ensures
