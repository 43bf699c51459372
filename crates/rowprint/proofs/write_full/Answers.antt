use Rattle.std.proofs.Common.{◌++◌, take, drop, rules, arith}
use Rattle.std.proofs.KnownBytes.{Appends-trans, Appends-kept}
use Rattle.std.proofs.lemmas.Grind.{common_steps}
use Rattle.std.proofs.lemmas.Result.{err_from_is_err_and}
use Rattle.rowprint.proofs.Runs.{part_written}
use Rattle.rowprint.proofs.write_full.Goals as goal

pub loop-rest-preserved : goal.loop-rest-preserved
loop-rest-preserved g c =
    let (done, is, written) = c.loop-rest.invariant in
    let n = c.in_ok-n.n in
    (done ++ take n c.loop-rest.rest.now, grind (arith, common_steps, is), Appends-trans _ _ _ _ _ written c.in_ok-n.ensures.bytes)

pub returns-in_err-n-clause-err : goal.returns-in_err-n-clause-err
returns-in_err-n-clause-err g c =
    let (done, is, written) = c.loop-rest.invariant in
    let p = err_from_is_err_and c.from_residual.result c.from_residual.ensures.1 in
    rw p.1 (part_written _ _ _ _ _ is (Appends-kept _ _ _ _ written c.in_err-n.ensures.bytes))

pub returns-then-n-eq0-clause-err : goal.returns-then-n-eq0-clause-err
returns-then-n-eq0-clause-err g c =
    let (done, is, written) = c.loop-rest.invariant in
    let n = c.in_ok-n.n in
    let rest = c.loop-rest.rest.now in
    let all = Appends-trans _ _ _ _ _ written c.in_ok-n.ensures.bytes in
    let part = part_written _ _ c.args.bytes.now (done ++ take n rest) (drop n rest) (grind (arith, common_steps, is)) all in
    search (rules, part)
