use Rattle.std.proofs.Common.{◌∙◌, List, subst}
use Rattle.toml.specs.View.{table_view}
use Rattle.dk_needs_report.specs.Found.{Told}
use Rattle.dk_needs_report.specs.Telling.{IsTextOf}
use Rattle.dk_needs_report.proofs.page.faults_text.Goals as goal

pub returns : goal.returns
returns c =
    let ms = table_view c.args.table.now in
    record {
      members = ms;
      read = c.requires.read;
      told = subst (λ (t : List Told). IsTextOf c.args.bytes.now ms t c.in_ok-page.page)
          (c.as_slice.ensures.value ∙ c.in_ok-found.ensures) c.in_ok-page.ensures;
    }
