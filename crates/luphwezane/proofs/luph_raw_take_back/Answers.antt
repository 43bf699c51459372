-- `luphwezane::luph_raw_take_back` answers what TAKE BACK promises.
use Rattle.model.specs.Replies.{edit_reply}
use Rattle.luphwezane.proofs.luph_raw_take_back.Goals as goal

pub returns : goal.returns
returns c =
    record {
      reply = edit_reply c.args.settings c.take_back-edited.result;
      promised = c.take_back-edited.ensures;
      told = c.edited.ensures c.args.settings;
    }
