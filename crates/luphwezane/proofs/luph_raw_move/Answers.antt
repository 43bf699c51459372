-- `luphwezane::luph_raw_move` answers what MOVE promises.
use Rattle.model.specs.Replies.{open_reply}
use Rattle.luphwezane.proofs.luph_raw_move.Goals as goal

pub returns : goal.returns
returns c =
    let s = c.args.settings in
    record { reply = open_reply s c.move_seat-moved.result; promised = c.move_seat-moved.ensures; told = c.opened.ensures s }
