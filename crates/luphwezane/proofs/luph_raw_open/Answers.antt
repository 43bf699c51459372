-- `luphwezane::luph_raw_open` answers what OPEN promises.
use Rattle.model.specs.Replies.{open_reply}
use Rattle.luphwezane.proofs.luph_raw_open.Goals as goal

pub returns : goal.returns
returns c =
    let s = c.args.settings in
    record { reply = open_reply s c.open-opened.result; promised = c.open-opened.ensures; told = c.opened.ensures s }
