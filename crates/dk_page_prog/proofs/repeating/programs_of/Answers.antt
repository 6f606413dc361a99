use Rattle.std.proofs.Common.{rules, ◌≡◌, ◌∙◌, ◌+◌, ◌-◌, ◌<◌, ◌∷◌, List, ℕ, ap, arith, drop, length, subst, sym, get_or}
use Rattle.std.proofs.lemmas.List.{drop_more}
use Rattle.dk_config.specs.declared.rows.ProcessRow.{ProcessRow}
use Rattle.dk_page.specs.More.{IsAddedByProgram}
use Rattle.dk_page.specs.Needs.{IsBoth}
use Rattle.dk_page.specs.declared.told.Additions.{Additions}
use Rattle.dk_page_prog.specs.Repeating.{AddsPrograms}
use Rattle.dk_page_prog.proofs.repeating.programs_of.Goals as goal

-- one program more stands before those behind it
one_more : (rows : List ProcessRow) (codes : List (List ℕ)) (p : ℕ) (row : ProcessRow) (code : List ℕ) (one rest all : Additions)
    → p < length rows → p < length codes → get_or rows p row ≡ row → get_or codes p code ≡ code → IsAddedByProgram row.program code one
    → AddsPrograms (drop (p + 1) rows) (drop (p + 1) codes) rest → IsBoth one rest all → AddsPrograms (drop p rows) (drop p codes) all
one_more rows codes p row code one rest all in-rows in-codes row-at code-at added others both =
    subst (λ rs. AddsPrograms rs (drop p codes) all) (sym (drop_more rows p row in-rows ∙ ap (λ r. r ∷ drop (p + 1) rows) row-at))
    (subst (λ cs. AddsPrograms (row ∷ drop (p + 1) rows) cs all) (sym (drop_more codes p code in-codes ∙ ap (λ c. c ∷ drop (p + 1) codes) code-at)) (one, rest, added, others, both))

pub loop-left-preserved : goal.loop-left-preserved
loop-left-preserved c =
    let rows = c.args.loaded.now.config.processes in
    let codes = c.args.loaded.now.programs in
    let some = c.loop-left-test.true in
    let least = c.loop-left.invariant.least in
    let again : c.loop-left.left ≡ c.loop-left.left - 1 + 1 = omega (arith, some) in
    let row-at : get_or rows (c.loop-left.left - 1) c.index.result.now ≡ c.index.result.now = search rules in
    let code-at : get_or codes (c.loop-left.left - 1) c.bytes.result.now ≡ c.bytes.result.now = search rules in
    let added : IsAddedByProgram c.index.result.now.program c.bytes.result.now c.in_ok-one.one =
    subst (λ n. IsAddedByProgram n c.bytes.result.now c.in_ok-one.one) c.as_str-name.ensures c.in_ok-one.ensures in
    let behind : AddsPrograms (drop (c.loop-left.left - 1 + 1) rows) (drop (c.loop-left.left - 1 + 1) codes) c.loop-left.added =
    subst (λ k. AddsPrograms (drop k rows) (drop k codes) c.loop-left.added) again c.loop-left.invariant.added in
    record {
      least = omega (arith, least);
      added =
          one_more rows codes (c.loop-left.left - 1) c.index.result.now c.bytes.result.now c.in_ok-one.one c.loop-left.added c.in_ok-added.added
          (omega (arith, some, least, c.requires)) (omega (arith, some, least)) row-at code-at added behind c.in_ok-added.ensures;
    }
