use Rattle.std.proofs.Common.{◌∙◌, ap}
use Rattle.dk_document_report.specs.Standing.{place_text}
use Rattle.dk_document_report.proofs.places.find_place.Goals as goal

pub returns : goal.returns
returns g c =
    λ reached decides there. record {
      start = c.in_ok-piece.piece.start;
      stop = c.in_ok-piece.piece.stop;
      at = c.first_word-at.result;
      is = c.in_ok-piece.ensures.found reached decides there;
      first = c.first_word-at.ensures;
      whole = c.in_ok-place_text.ensures ∙ ap place_text c.place_after-place.ensures;
    }
