-- `trial::trial_at` meets its contract: the parts that are lent are the rows.
use Prim.Native.Nat.{◌+◌, ◌-◌, ◌*◌}
use mathlib.Core.Path.{◌≡◌}
use native.Mathlib.Omega.{arith}
use Rattle.model.specs.Lists.{row_of}
use Rattle.model.specs.Marks.{mark_bytes}
use Rattle.trial.proofs.trial_at.Goals as goal

pub returns : goal.returns
unfolding row_of
returns c =
    let e : c.args.y * c.args.w + c.args.w - c.args.y * c.args.w ≡ c.args.w = omega arith in
    let g : c.args.y * mark_bytes c.args.w + mark_bytes c.args.w - c.args.y * mark_bytes c.args.w ≡ mark_bytes c.args.w = omega arith in
    let k : c.args.i * c.args.width + c.args.width - c.args.i * c.args.width ≡ c.args.width = omega arith in
    rw (e, g, k) at c.trial_row.ensures
