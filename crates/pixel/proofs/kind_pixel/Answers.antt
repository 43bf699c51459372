-- `pixel::kind_pixel` meets its contract: the ranges are the two tests of `kind_of`.
use Prim.Native.Nat.{◌<◌}
use mathlib.Core.Path.{◌≡◌}
use mathlib.Core.Bool.{true, false}
use native.Mathlib.Omega.{arith}
use lib.IntN.{pos}
use lib.Signed.{lt_z}
use mir.Syntax.{w32}
use Rattle.model.specs.Row.{kind_of}
use Rattle.signed.proofs.Signed.{read_back}
use Rattle.pixel.specs.Pairs.{kind_pixel}
use Rattle.pixel.proofs.kind_pixel.Goals as goal

pub returns-then-tear-gap : goal.returns-then-tear-gap
unfolding kind_pixel kind_of
returns-then-tear-gap c =
    let h : lt_z c.gap_of-gap.result (pos 1) ≡ false = rw (read_back w32 c.gap_of-gap.result c.gap_of-gap.type_inv) at c.in-1-to-2147483647.if-gap-lt1-own.false in
    let small : c.args.tear.gap < 2147483648 = omega (arith, c.struct_known-1.given) in
    let k : lt_z (pos c.args.tear.gap) c.gap_of-gap.result ≡ true = rw (read_back w32 c.gap_of-gap.result c.gap_of-gap.type_inv, read_back w32 (pos c.args.tear.gap) small) at c.if-tear-gap.true in
    rw (← c.gap_of-gap.ensures, h, k, c.torn_pixel.ensures)

pub returns-else-tear-gap : goal.returns-else-tear-gap
unfolding kind_pixel kind_of
returns-else-tear-gap c =
    let h : lt_z c.gap_of-gap.result (pos 1) ≡ false = rw (read_back w32 c.gap_of-gap.result c.gap_of-gap.type_inv) at c.in-1-to-2147483647.if-gap-lt1-own.false in
    let small : c.args.tear.gap < 2147483648 = omega (arith, c.struct_known-1.given) in
    let k : lt_z (pos c.args.tear.gap) c.gap_of-gap.result ≡ false = rw (read_back w32 c.gap_of-gap.result c.gap_of-gap.type_inv, read_back w32 (pos c.args.tear.gap) small) at c.if-tear-gap.false in
    rw (← c.gap_of-gap.ensures, h, k, c.smooth_pixel.ensures)
