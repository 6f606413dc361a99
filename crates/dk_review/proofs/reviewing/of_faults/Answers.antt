use Rattle.std.proofs.Common.{refl, subst, sym}
use Rattle.dk_document_report.specs.Telling.{Tells}
use Rattle.dk_review.proofs.reviewing.of_faults.Goals as goal

pub returns : goal.returns
returns c =
    record {
      faults = c.as_bytes.result.now;
      tells = subst (Tells c.args.file.bytes.now) (sym c.as_bytes.ensures) c.in_ok-faults.ensures;
      page = c.in_ok-bytes.ensures;
      ends = refl;
    }
