use Rattle.dk_ledger.proofs.Names.{◌≡◌, ◌++◌, ◌∙◌, ap, sym, rules, codes, decimal, IsErr, first_fails, second_ends, ended, last_text, end_line, ending_text}
use Rattle.dk_ledger.proofs.CutLemmas.{whole_text}
use Rattle.dk_ledger.proofs.run_writer.RunWriter.finish.Goals as goal

pub returns-in_err-write_last-clause-wrote : goal.returns-in_err-write_last-clause-wrote
returns-in_err-write_last-clause-wrote g c =
    let h = c.args.header.now in
    let w = c.args.self.progress in
    let same : c.self.inside.last ≡ w.last = search rules in
    let fails : IsErr c.from_residual.result = search rules in
    first_fails (last_text h c.self.inside.last) (end_line w.entries) (ending_text h w)
    (ap (λ l. last_text h l ++ end_line w.entries) (sym same))
    _ _ _ c.from_residual.result fails c.in_err-write_last.ensures

pub returns-in_err-write_last-clause-text : goal.returns-in_err-write_last-clause-text
returns-in_err-write_last-clause-text g c = λ es after. whole_text es c.args.self.progress after c.args.header.now

pub returns-clause-wrote : goal.returns-clause-wrote
returns-clause-wrote g c =
    let h = c.args.header.now in
    let w = c.args.self.progress in
    let same : c.self.inside.last ≡ w.last = search rules in
    let end_is : c.end_of.result ≡ codes "end " ++ decimal w.entries = search rules in
    second_ends (last_text h c.self.inside.last) (ended c.end_of.result) (ending_text h w)
    (ap (λ l. last_text h l ++ end_line w.entries) (sym same) ∙ ap (λ t. last_text h c.self.inside.last ++ ended t) (sym end_is))
    _ _ _ _ c.write_to.result c.in_ok-write_last.ensures c.write_to.ensures

pub returns-clause-text : goal.returns-clause-text
returns-clause-text g c = λ es after. whole_text es c.args.self.progress after c.args.header.now
