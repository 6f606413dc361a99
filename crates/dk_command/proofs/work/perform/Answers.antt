use Rattle.dk_command.proofs.Names.{◌++◌, codes, refl, header_text, ledger_text, numbers_text}
use Rattle.dk_command.proofs.work.perform.Goals as goal

pub returns-in-Run : goal.returns-in-Run
returns-in-Run g c =
    let (es, entries, wrote) = c.write_run-result.ensures in
    rw c.in-Run.is (ledger_text c.in-Run.header es, (es, entries, refl), wrote)

pub returns-in-Report : goal.returns-in-Report
returns-in-Report g c = rw c.in-Report.is (header_text c.in-Report.header ++ numbers_text c.in-Report.header c.in-Report.totals, refl, c.write_report.ensures)

pub returns-in-Certified : goal.returns-in-Certified
returns-in-Certified g c = rw c.in-Certified.is (header_text c.in-Certified.header ++ codes "certified\n", refl, c.write_certificate.ensures)
