use Rattle.std.proofs.Common.{arith, length-take-le}
use Rattle.std.proofs.lemmas.Result.{on_ok_weaker, on_err_weaker}
use Rattle.rowprint.proofs.Runs.{printed_all, printed_part}
use Rattle.rowprint.proofs.run.Goals as goal

pub returns-clause-ok : goal.returns-clause-ok
returns-clause-ok g c =
    let n = c.in_ok-n.n in
    let size = length-take-le n c.read_full.new.buffer c.in_ok-n.ensures.within in
    on_ok_weaker c.write_full.result
    (printed_all _ _ _ _ _ _ c.in_ok-n.ensures.taken (λ h. c.in_ok-n.ensures.ended (omega (arith, size))) c.answer-k.ensures.answers)
    c.write_full.ensures.ok

pub returns-clause-err : goal.returns-clause-err
returns-clause-err g c =
    let n = c.in_ok-n.n in
    let size = length-take-le n c.read_full.new.buffer c.in_ok-n.ensures.within in
    on_err_weaker c.write_full.result
    (printed_part _ _ _ _ _ _ c.in_ok-n.ensures.taken (λ h. c.in_ok-n.ensures.ended (omega (arith, size))) c.answer-k.ensures.answers)
    c.write_full.ensures.err
