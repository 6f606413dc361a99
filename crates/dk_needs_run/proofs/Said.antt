-- What an audit and a report of the same bytes say together.
use Rattle.std.proofs.Common.{ℕ, ◌≡◌, ◌+◌, ◌∙◌, ap, sym, subst, refl, List, [], ◌∷◌, map, reverse}
use Rattle.std.specs.Prelude.{min, sum_by}
use Rattle.std.proofs.lemmas.List.Sums.{sum_by-cons}
use Rattle.dk_config.specs.Configuration.{Configuration}
use Rattle.dk_trace.specs.declared.Entry.{Entry}
use Rattle.dk_ledger.specs.Heading.{Heading}
use Rattle.dk_ledger.specs.Readable.{IsReadable, Journal, text_of}
use Rattle.dk_audit.specs.Findings.{IsFinding}
use Rattle.dk_audit.specs.Lines.{IsFoundIn}
use Rattle.dk_window_report.specs.declared.row.Row.{Row}
use Rattle.dk_window_report.specs.Owners.{Owner, numbers_of, owners}
use Rattle.dk_window_report.specs.Report.{IsKeptIn, overruns_in}
use Rattle.dk_window_report.specs.Rows.{Kept, row_of, rows_of}
use Rattle.dk_window_report.specs.Clean.{overruns}
use Rattle.dk_needs_run.specs.declared.found.RunFound.{RunFound}
use Rattle.dk_needs_run.specs.Run.{IsRunIn, faults_in, finding_of, refused_in}

sums_same : (past : List Entry) (os : List Owner) → sum_by (λ (r : Row). r.counts.overran) (map (row_of past) os) ≡ sum_by (λ (o : Owner). (numbers_of past o).overran) os
sums_same past [] = refl
sums_same past (o ∷ os) =
    sum_by-cons (λ (r : Row). r.counts.overran) (row_of past o) (map (row_of past) os)
    ∙ ap (λ n. (numbers_of past o).overran + n) (sums_same past os)
    ∙ sym (sum_by-cons (λ (x : Owner). (numbers_of past x).overran) o os)

rows_say : (h : Heading) (past : List Entry) → overruns_in (rows_of h past) ≡ overruns h past
rows_say h past = ap (λ n. min n 4294967295) (sums_same past (owners h past))

-- they are of one ledger
pub both_say : (c : Configuration) (bytes : List ℕ) (h : Heading) (k : Kept) (run : RunFound)
    → ((j l : Journal) → IsReadable j → IsReadable l → text_of j ≡ text_of l → j ≡ l)
    → IsFoundIn c bytes (finding_of run.audit) → IsKeptIn bytes h k → run.overruns ≡ overruns_in k.rows → run.refused ≡ refused_in k.accounts
    → run.faults ≡ faults_in k.accounts → IsRunIn c bytes run
both_say c bytes h k run one found kept over ref fault =
    let es = kept.0 in
    let all = kept.1 in
    let of = kept.2 in
    let mine : Journal = record { heading = h; entries = es } in
    let same : found.0 ≡ mine = one found.0 mine found.1 all.readable (found.2 ∙ sym all.text) in
    record {
      ledger = mine;
      readable = all.readable;
      text = all.text;
      says = record {
        audit = subst (λ (j : Journal). IsFinding c j (finding_of run.audit)) same found.3;
        overruns = over ∙ ap overruns_in of.rows ∙ rows_say h (reverse es);
        refused = ref ∙ ap refused_in of.accounts;
        faults = fault ∙ ap faults_in of.accounts;
      };
    }
