use Rattle.dk_request.proofs.Names.{◌∙◌, drop, map, List, string_bytes, Text, positionals}
use Rattle.dk_request.proofs.ClapReads.{all_words, enough, never_given}
use Rattle.dk_request.proofs.clap_words.read_words.Goals as goal

pub returns : goal.returns
returns c =
    let s = c.args.synopsis.now in
    let ws : List Text = drop 1 (map string_bytes c.args.words.now) in
    record {
      words = c.in_ok-values_of.ensures (positionals ws) (enough s c.requires.simple ws c.requires.taken) c.in-Ok.ensures.values ∙ all_words s ws c.requires.simple c.requires.taken;
      report = c.has_report.ensures _ c.in-Ok.ensures.report (never_given s ws c.requires.taken);
    }
