use Rattle.dk_request.proofs.Names.{◌≡◌, ◌∙◌, ap, codes, map, List, string_bytes, IfErr-weaker, IfOk-weaker, App, Text, all_of, app_of, found_of, is_simple, matches_of, one_of, takes, one_text-rows, raw_values-rows, simple_command}
use Rattle.dk_request.proofs.ClapReads.{ReadsAll, reads_all}
use Rattle.dk_request.proofs.ClapRules.{name_at}
use Rattle.dk_request.proofs.clap_words.matches_of.Goals as goal

pub returns : goal.returns
returns c =
    let words : List Text = map string_bytes c.args.words.now in
    let s = c.args.synopsis.now in
    let all : ReadsAll s words = reads_all s c.requires.simple words c.requires.taken in
    let is : app_of c.in_ok-command.command ≡ simple_command s = c.in_ok-command.ensures in
    let parse = c.try_get_matches_from in
    record {
      values = IfOk-weaker parse.result _ _
          (λ m h k lt. raw_values-rows (found_of m) (name_at s.names k) ∙ ap (all_of (name_at s.names k)) ((h (ap is_simple is ∙ all.simple)).0 ∙ ap (λ (a : App). matches_of a words) is) ∙ all.values k lt) parse.ensures.matches;
      report = IfOk-weaker parse.result _ _
          (λ m h has. one_text-rows (found_of m) (codes "report") ∙ ap (one_of (codes "report")) ((h (ap is_simple is ∙ all.simple)).0 ∙ ap (λ (a : App). matches_of a words) is) ∙ all.report has) parse.ensures.matches;
      err = IfErr-weaker parse.result _ _ (λ e h. h (ap (λ (a : App). takes a words) is ∙ all.taken)) parse.ensures.passes;
    }
