use Rattle.dk_show_request.proofs.Names.{asked}
use Rattle.dk_show_request.proofs.FewNames.{answers_few, asked_few}
use Rattle.dk_show_request.proofs.request.asked_by.Goals as goal

pub returns-in-Some-clause-few : goal.returns-in-Some-clause-few
returns-in-Some-clause-few c =
    let command = c.form.inside.command in
    let rows = c.in-Some.given in
    answers_few c.asked.result (asked command rows) c.asked.ensures (asked_few command rows)
