use Rattle.std.proofs.Common.{rules, refl, sym, inl, inr}
use Rattle.std.specs.Str.{is_utf8}
use Rattle.std.proofs.lemmas.Str.{IsUtf8-from_is_utf8, is_utf8-from_IsUtf8}
use Rattle.std.proofs.lemmas.Bool.{cases_Bool}
use Rattle.dk_loader.specs.Reading.{document}
use Rattle.dk_document_report.proofs.reading.table_of.Goals as goal

pub returns-in-Ok : goal.returns-in-Ok
unfolding document
returns-in-Ok c = let read = c.in-Ok.ensures.ok in rw (is_utf8-from_IsUtf8 c.args.bytes.now read.0) (sym read.1)

pub returns-in-Err-2 : goal.returns-in-Err-2
unfolding document
returns-in-Err-2 c =
    elim (cases_Bool (is_utf8 c.args.bytes.now)) [
      | inl text ↦ rw text (sym (c.in-Err-2.ensures.refused (search rules) (IsUtf8-from_is_utf8 c.args.bytes.now text)))
      | inr none ↦ rw none refl
    ]
