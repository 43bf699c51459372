use mathlib.Core.Path.{ap, ◌∙◌}
use mir.Syntax.{w16}
use lib.IntN.{pos}
use lib.ListN.{get_or}
use Rattle.signed.specs.Limits.{raised_of}
use Rattle.signed.proofs.Signed.{read_back}
use Rattle.planes.proofs.Entries.{read_at}
use mathlib.Core.Path.{refl}
use Rattle.limits.proofs.held_limit.Goals as goal

pub returns : goal.returns
returns c =
    c.raised_of.ensures.0
    ∙ ap raised_of (read_back w16 (get_or c.args.limits.now c.entry-i.result (pos 0)) c.raised_of-arg-1.given
    ∙ read_at (pos 0) c.args.right c.args.limits.now refl c.requires c.entry-i.ensures.0)
