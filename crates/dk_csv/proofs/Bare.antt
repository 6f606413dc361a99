-- No field of a table has a byte that parts fields or records, so its text is its fields with commas between them.
use Rattle.std.proofs.Common.{ℕ, ◌≡◌, ◌∙◌, ◌++◌, [], ◌∷◌, List, map, sym, ap, refl, arith, length-append}
use Rattle.std.specs.Prelude.{true, decimal, flat_map}
use Rattle.std.proofs.lemmas.Bool.Decides.{nat_tests}
use Rattle.std.specs.List.{AllByRecursion}
use Rattle.csv.specs.Writing.{fields_text, is_blank}
use Rattle.dk_trace.specs.declared.Entry.{Entry}
use Rattle.dk_ledger.specs.declared.line.LedgerLine.{LedgerLine}
use Rattle.dk_ledger.specs.Heading.{Heading}
use Rattle.dk_ledger.specs.Readable.{IsReadable, IsReadableHeading}
use Rattle.dk_ledger.proofs.WordBytes.{all_more}
use Rattle.dk_groups.specs.Groups.{groups}
use Rattle.dk_entry_words.proofs.ReadBack.{printable}
use Rattle.dk_overrun_spans.specs.declared.overrun.Overrun.{Overrun}
use Rattle.dk_overrun_spans.specs.Overruns.{overruns}
use Rattle.dk_csv.specs.Rows.{columns, csv_text, event_fields, fields, group_fields, overran_at, owner_fields, record_text, rows_text, source_fields}
use Rattle.dk_csv.specs.Laws.{is_bare, IsBare, IsRecord, joined, records}
use Rattle.dk_csv.proofs.PlainRows.{Plains, fields_are_plain, is_plain}
use Rattle.dk_csv.proofs.ReadBack.{event_length, owner_length, source_length}

plain_bare : (b : ℕ) → is_plain b ≡ true → is_bare b ≡ true
plain_bare b h = grind (arith, nat_tests)

all_bare : (fs : List (List ℕ)) → Plains fs → AllByRecursion IsBare fs
all_bare [] all = tt
all_bare (f ∷ fs) all = (all_more is_plain is_bare plain_bare f all.0, all_bare fs all.1)

module _ (h : Heading) (is : IsReadableHeading h) where
  row_is_record : (n : ℕ) (g : LedgerLine) → IsRecord (fields h n g)
  row_is_record n g =
      let plain = fields_are_plain h (printable h is) n g in
      let owner = owner_length h g.label in
      let source = source_length g.label in
      let event = event_length g.event in
      let last = event_fields g.event ++ decimal n ∷ [] in
      let more = length-append (event_fields g.event) (decimal n ∷ []) in
      let back = length-append (source_fields g.label) last in
      let all = length-append (owner_fields h g.label) (source_fields g.label ++ last) in
      record { count = omega (arith, owner, source, event, more, back, all); bare = all_bare (fields h n g) (plain.0, plain.1) }

  module _ (os : List Overrun) where
    rows_are_records : (gs : List LedgerLine) → AllByRecursion IsRecord (map (group_fields h os) gs)
    rows_are_records [] = tt
    rows_are_records (g ∷ gs) = (row_is_record (overran_at os g) g, rows_are_records gs)

    rows_joined : (gs : List LedgerLine) → rows_text h os gs ≡ flat_map joined (map (group_fields h os) gs)
    rows_joined [] = refl
    rows_joined (g ∷ gs) =
        ap (λ t. t ++ rows_text h os gs) (sym (fields_are_plain h (printable h is) (overran_at os g) g).2)
        ∙ ap (λ t. joined (group_fields h os g) ++ t) (rows_joined gs)

columns_joined : record_text columns ≡ joined columns
unfolding fields_text is_blank
columns_joined = refl

names_are_record : IsRecord columns
names_are_record = record {
  count = refl;
  bare = (refl, (refl, (refl, (refl, (refl, (refl, (refl, (refl, (refl, (refl, (refl, (refl, (refl, tt)))))))))))));
}

pub all_records : (h : Heading) (from to : ℕ) (es : List Entry) → IsReadable (record { heading = h; entries = es }) → AllByRecursion IsRecord (records from to h es)
all_records h from to es is = (names_are_record, rows_are_records h is.heading (overruns h es) (groups from to es))

pub all_joined : (h : Heading) (from to : ℕ) (es : List Entry) → IsReadable (record { heading = h; entries = es }) → csv_text from to h es ≡ flat_map joined (records from to h es)
all_joined h from to es is =
    ap (λ t. t ++ rows_text h (overruns h es) (groups from to es)) columns_joined
    ∙ ap (λ t. joined columns ++ t) (rows_joined h is.heading (overruns h es) (groups from to es))
