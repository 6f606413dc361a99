use Rattle.std.proofs.Common.{◌≡◌, ◌≤◌, true, rules, ◌∙◌, ap, arith}
use Rattle.dk_document_report.specs.Standing.{IsReachedIn, is_refused}
use Rattle.dk_document_report.specs.Telling.{not_toml_text}
use Rattle.dk_document_report.proofs.telling.stopped_page.Goals as goal

pub returns : goal.returns
returns c =
    let piece = c.in_ok-piece.piece in
    let refused : is_refused c.args.bytes.now ≡ true = grind (arith, c.requires.refused) in
    let reached : IsReachedIn c.args.bytes.now is_refused piece.start piece.stop = c.in_ok-piece.ensures.found is_refused (λ part r called. search rules) refused in
    let order : piece.start ≤ piece.stop = reached.is.order in
    record {
      start = piece.start;
      stop = piece.stop;
      at = c.min-at.result;
      message = c.shown_message.result.now;
      is = reached;
      low = omega (arith, order, c.max.ensures, c.min-at.ensures);
      high = omega (arith, c.min-at.ensures);
      fits = c.shown_message.ensures;
      whole = c.new.ensures ∙ (c.in_ok-not_toml_line.ensures ∙ ap (λ p. not_toml_text c.args.kind.now p c.shown_message.result.now) c.place_after-place.ensures);
    }
