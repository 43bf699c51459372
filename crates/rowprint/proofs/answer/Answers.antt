use Rattle.rowprint.proofs.Answers.{answers_row}
use Rattle.rowprint.proofs.answer.Goals as goal

pub returns-in-Some-clause-answers : goal.returns-in-Some-clause-answers
returns-in-Some-clause-answers c =
    let row = c.in-Some.row in
    answers_row c.args.text.now row.w row.samples row.depths c.in-Some.ensures c.put_drawing.ensures
