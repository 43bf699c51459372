-- `signed::raised_of` meets its contract.
use Rattle.std.proofs.Common.{rules, arith, w32, SFits}
use Rattle.std.proofs.lemmas.Int.{to_z-of_z, ints, clamps}
use Rattle.signed.proofs.Limits.{raised_clamp}
use Rattle.signed.proofs.raised_of.Goals as goal

pub returns : goal.returns
returns c =
    let f : SFits w32 c.clamp.result = search rules in
    rw (to_z-of_z w32 c.clamp.result f) (raised_clamp c.args.limit c.clamp.result (grind (arith, ints, clamps)))
