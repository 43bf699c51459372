use Prim.Native.Nat.{ℕ}
use mathlib.Core.Path.{ap, ◌∙◌}
use mir.Syntax.{w16}
use mir.ValLaws.{to_z-of_z}
use lib.IntN.{pos}
use lib.ListN.{set}
use Rattle.model.specs.Views.{seen}
use Rattle.model.proofs.Views.{set_seen}
use Rattle.places.proofs.put_limit.Goals as goal

pub returns : goal.returns
returns c =
    rw (to_z-of_z w16 c.args.v c.ranges.v)
    (ap (λ (i : ℕ). seen c.args.right (set c.args.row.now i c.args.v)) c.entry-i.ensures.0
    ∙ set_seen (pos 0) c.args.right c.args.row.now c.args.c c.args.v c.requires)
