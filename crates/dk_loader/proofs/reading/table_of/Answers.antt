use Rattle.dk_loader.proofs.Names.{rules, refl, is_utf8, IsUtf8-from_is_utf8, is_utf8-from_IsUtf8, cases_Bool, inl, inr, table_view}
use Rattle.dk_loader.specs.Reading.{document}
use Rattle.dk_loader.proofs.FewRows.{few_rows}
use Rattle.dk_loader.proofs.reading.table_of.Goals as goal

pub returns-in-Ok-clause-ok : goal.returns-in-Ok-clause-ok
unfolding document
returns-in-Ok-clause-ok c = let read = c.in-Ok.ensures.ok in rw (is_utf8-from_IsUtf8 c.args.bytes.now read.0) read.1

pub returns-in-Err-2-clause-not_toml : goal.returns-in-Err-2-clause-not_toml
unfolding document
returns-in-Err-2-clause-not_toml c _ =
    elim (cases_Bool (is_utf8 c.args.bytes.now)) [
      | inl text ↦ rw text (c.in-Err-2.ensures.refused (search rules) (IsUtf8-from_is_utf8 c.args.bytes.now text))
      | inr none ↦ rw none refl
    ]

pub returns-in-Ok-clause-few : goal.returns-in-Ok-clause-few
returns-in-Ok-clause-few c = few_rows c.args.bytes.now (table_view c.in-Ok.table) (returns-in-Ok-clause-ok c) c.requires
